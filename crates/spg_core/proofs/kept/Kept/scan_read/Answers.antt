use Rattle.std.proofs.Common.{◌<◌, subst, get_or, map, refl, sym, ap, ◌∙◌}
use Rattle.spg_tree.specs.Table.{Table, with_touched}
use Rattle.spg_core.specs.declared.slot.Slot.TheVariants.{Free}
use Rattle.spg_core.specs.Slot.{stage_of}
use Rattle.spg_core.specs.Stage.{Stage, held_count}
use Rattle.spg_core.specs.Sections.{ReadsFor}
use Rattle.spg_core.specs.Seen.{stage_at}
use Rattle.spg_core.specs.Blocked.{ItemFreeIn}
use Rattle.spg_core.specs.Kept.{IsState}
use Rattle.spg_core.proofs.Slots.{stage_is, table_is, seen_as}
use Rattle.spg_core.proofs.Steps.{with_fields, fits, kept_same, on_err}
use Rattle.spg_core.proofs.Scans.{entries_live, can_read, kept_reads, reads_seen}
use Rattle.spg_core.proofs.Bounding.{same_bounded, read_bounded}
use Rattle.spg_core.specs.Sections.{ReadsItem}
use Rattle.spg_core.proofs.kept.Kept.scan_read.Given.{Over}
use Rattle.spg_core.proofs.kept.Kept.scan_read.Goals as goal
use Rattle.spg_core.proofs.kept.Kept.scan_read.Goals.{After-set_touched}

pub read_slot-requires-clause-scan : goal.read_slot-requires-clause-scan
read_slot-requires-clause-scan g c =
    let m = g.O.OpClass.meaning in
    let s = c.self.inside in
    let seat = c.args.seat in
    can_read m s c.self.invariant.0 seat (get_or s.slots.items seat Free) c.args.item (fits m s c.self.invariant.0 seat) (subst (λ st. c.args.item < held_count st) (stage_is s c.args.self.now c.self.view_is seat) c.requires.held)

pub read_slot-requires-clause-live : goal.read_slot-requires-clause-live
read_slot-requires-clause-live g c = λ on. let (a, b) = c.are_empty.ensures on in entries_live g.O.OpClass.meaning c.self.inside c.self.invariant.0 c.args.seat a b

pub invariant_of-self : goal.invariant_of-self
invariant_of-self g c =
    let s = c.self.inside in (
      kept_same g.O.OpClass.meaning s c.self.invariant.0 s.table c.read_slot.new.slots refl c.in_err-out.ensures.err,
      same_bounded g.O.OpClass.meaning s c.self.invariant.0 c.self.invariant.1 _ (ap (λ l. seen_as s.journal.events (map stage_of l) s.table s.origin) c.in_err-out.ensures.err),
    )

pub invariant_of-self-2 : goal.invariant_of-self-2
invariant_of-self-2 g c =
    let m = g.O.OpClass.meaning in
    let s = c.self.inside in
    let seat = c.args.seat in
    let told = reads_seen m s c.self.invariant.0 seat c.args.self.now c.self.view_is c.args.item c.in_ok-out.out c.read_slot.new.slots.items c.set_touched.new.self (c.set_touched.ensures ∙ ap (λ ts. with_touched s.table ts) c.new.ensures) (get_or s.slots.items seat Free) refl c.in_ok-out.ensures.ok in (
      subst (λ (t : Table). IsState m (with_fields m s t s.rows c.read_slot.new.slots s.journal)) (sym (c.set_touched.ensures ∙ ap (λ ts. with_touched s.table ts) c.new.ensures))
          (kept_reads m s c.self.invariant.0 seat c.args.item c.in_ok-out.out c.read_slot.new.slots g.O.OpClass.keeps g.O.OpClass.codes (get_or s.slots.items seat Free) refl c.in_ok-out.ensures.ok),
      read_bounded m s c.self.invariant.0 c.self.invariant.1 c.args.self.now c.self.view_is seat c.args.item c.in_ok-out.out (stage_of (get_or s.slots.items seat Free)) _ told,
    )

-- what it did, as callers see it
told : (g : Over) (c : After-set_touched g) → ReadsItem g.O.OpClass.meaning c.args.self.now (seen_as c.self.inside.journal.events (map stage_of c.read_slot.new.slots.items) c.set_touched.new.self c.self.inside.origin) c.args.seat c.args.item c.in_ok-out.out
told g c =
    let m = g.O.OpClass.meaning in
    let s = c.self.inside in
    let seen = c.args.self.now in
    let seat = c.args.seat in
    let new = seen_as s.journal.events (map stage_of c.read_slot.new.slots.items) c.set_touched.new.self s.origin in
    subst (λ (x : Stage _ _ _ _). ReadsFor m seen new seat c.args.item c.in_ok-out.out x) (sym (stage_is s seen c.self.view_is seat))
    (reads_seen m s c.self.invariant.0 seat seen c.self.view_is c.args.item c.in_ok-out.out c.read_slot.new.slots.items c.set_touched.new.self (c.set_touched.ensures ∙ ap (λ ts. with_touched s.table ts) c.new.ensures) (get_or s.slots.items seat Free) refl c.in_ok-out.ensures.ok)

pub returns-clause-ok : goal.returns-clause-ok
returns-clause-ok g c = told g ((goal.at.returns-clause-ok g c).After-set_touched)

pub returns-clause-call : goal.returns-clause-call
returns-clause-call g c = told g ((goal.at.returns-clause-call g c).After-set_touched)

pub returns-in_err-out-clause-latched : goal.returns-in_err-out-clause-latched
returns-in_err-out-clause-latched g c =
    let s = c.self.inside in
    let seen = c.args.self.now in
    let seat = c.args.seat in
    on_err c.from_residual.result
    (subst (λ (t : Table). ItemFreeIn t (stage_at seen seat) seat c.args.item) (sym (table_is s seen c.self.view_is 0))
    (subst (λ (x : Stage _ _ _ _). ItemFreeIn s.table x seat c.args.item) (sym (stage_is s seen c.self.view_is seat)) c.in_err-out.ensures.latched))
