use Rattle.std.proofs.Common.{refl, sym, ◌∙◌, subst}
use Rattle.spg_tree.specs.Table.{Table, sheets_of}
use Rattle.spg_scan.specs.Items.{held}
use Rattle.spg_scan.specs.Reading.{IsHeld, Reads}
use Rattle.spg_scan.specs.Copying.{IsCopyOut}
use Rattle.spg_scan.specs.declared.scan_copy.ScanCopy.{ScanCopy}
use Rattle.spg_peek.proofs.Copied.{plain_is, copy_kept, copy_reads, copy_found}
use Rattle.spg_peek.proofs.Peeks.{reads_now}
use Rattle.spg_peek.proofs.read.read_item.Goals as goal

pub copy_item-requires-clause-held : goal.copy_item-requires-clause-held
copy_item-requires-clause-held g c =
    let m = g.O.OpClass.meaning in
    let s = c.args.scan.now in
    subst (λ (t : Table). IsHeld m (sheets_of t) s c.args.item) (sym c.pages-pages.ensures.value)
    (λ x r at. c.requires.scan.scan.spots.sheltered (c.args.item, 0) x r (held x r, at, (refl, refl, refl)))

pub take_copy-requires : goal.take_copy-requires
take_copy-requires g c =
    let m = g.O.OpClass.meaning in
    let t = c.pages-pages.result.now in
    let s = c.args.scan.now in
    let s1 = c.copy_item.new.self in
    let came = subst (λ (o : ScanCopy _ _ _ _). IsCopyOut m t c.rows-rows.result.now s s1 c.args.item c.first.result o) c.in-Sift.is c.in_ok-copy_item.ensures.ok in
    copy_kept m c.rows-rows.result.now (sheets_of t) s s1 c.args.item c.in-Sift.copied _ came

pub returns-in-Read : goal.returns-in-Read
returns-in-Read g c =
    let m = g.O.OpClass.meaning in
    let t = c.pages-pages.result.now in
    let table = c.rows-rows.result.now in
    let s = c.args.scan.now in
    let s1 = c.copy_item.new.self in
    let (free, plain, R) = subst (λ (o : ScanCopy _ _ _ _). IsCopyOut m t table s s1 c.args.item c.first.result o) c.in-Read.is c.in_ok-copy_item.ensures.ok in
    reads_now m c.args.state.now c.journal.ensures.right.legal c.requires.closed c.pages-pages.ensures.represents g.O.OpClass.keeps g.O.OpClass.codes table c.rows-rows.ensures.states s s1 c.args.item c.args.found.now.items c.requires.scan
    (subst (λ (z : Table). Reads m (sheets_of z) table s s1 c.args.item) c.pages-pages.ensures.value R)
    (c.requires.same ∙ sym (plain_is m table (sheets_of t) s s1 c.args.item c.requires.scan.conds plain R))

pub returns-in_ok-take_copy-in-Sift : goal.returns-in_ok-take_copy-in-Sift
returns-in_ok-take_copy-in-Sift g c =
    let m = g.O.OpClass.meaning in
    let t = c.pages-pages.result.now in
    let table = c.rows-rows.result.now in
    let s = c.args.scan.now in
    let s1 = c.copy_item.new.self in
    let s2 = c.take_copy.new.scan in
    let copied = c.in-Sift.copied in
    let came = subst (λ (o : ScanCopy _ _ _ _). IsCopyOut m t table s s1 c.args.item c.first.result o) c.in-Sift.is c.in_ok-copy_item.ensures.ok in
    let T = c.in_ok-take_copy-in-Sift.ensures.takes in
    reads_now m c.args.state.now c.journal.ensures.right.legal c.requires.closed c.pages-pages.ensures.represents g.O.OpClass.keeps g.O.OpClass.codes table c.rows-rows.ensures.states s s2 c.args.item c.take_copy.new.found.items c.requires.scan
    (subst (λ (z : Table). Reads m (sheets_of z) table s s2 c.args.item) c.pages-pages.ensures.value (copy_reads m table (sheets_of t) s s1 c.args.item copied _ s2 came T))
    (copy_found m table (sheets_of t) s s1 c.args.item copied _ s2 c.args.found.now.items c.take_copy.new.found.items c.requires.scan.conds c.requires.same came T c.in_ok-take_copy-in-Sift.ensures.rows)
