use Rattle.std.proofs.Common.{◌≡◌, ◌<◌, ◌≤◌, ◌+◌, List, length, take, get_or, Some, None, sym, ap, subst, arith}
use Rattle.spg_base.specs.Row.{RowAt}
use Rattle.spg_core.specs.Seen.{Seen, past_of}
use Rattle.spg_peek.specs.Peeking.{Reading, ReadsOver, HandsOut, handed}
use Rattle.spg_peek.proofs.Handing.{hands_row, hands_none}
use Rattle.spg_peek.proofs.reader.Reader.next.Goals as goal

pub returns-in-Some-clause-row : goal.returns-in-Some-clause-row
returns-in-Some-clause-row g c =
    let m = g.O.OpClass.meaning in
    let seen = c.state-state.result.now in
    let old : Reading _ _ _ _ = record { scan = c.self.inside.scan; found = c.self.inside.found.items; told = c.self.inside.told } in
    let found : List RowAt = c.read_to.new.found.items in
    let row : RowAt = c.in-Some.row.now in
    let there = c.in-Some.ensures.lookup.3 in
    let within = subst (λ (l : List RowAt). c.self.inside.told < length l) c.deref.ensures.value there.0 in
    let stands = subst (λ (l : List RowAt). get_or l c.self.inside.told row ≡ row) c.deref.ensures.value (sym (there.1 row)) in
    let over = subst (λ (z : Seen _ _ _ _). ReadsOver m z old) (sym c.state-state.ensures.value) (subst (λ (r : Reading _ _ _ _). ReadsOver m c.args.index.now r) (sym c.self.view_is) c.requires.over) in
    subst (λ (r : Reading _ _ _ _). HandsOut m (past_of c.args.index.now) r.scan.query (handed r) (take (c.self.inside.told + 1) found) (Some row)) c.self.view_is
    (subst (λ (z : Seen _ _ _ _). HandsOut m (past_of z) old.scan.query (handed old) (take (old.told + 1) found) (Some row)) c.state-state.ensures.value
    (hands_row m seen c.journal.ensures.right.legal c.state-state.ensures.closed old c.read_to.new.scan found _ over c.in_ok-read_to.ensures row within stands))

pub returns-in-None-clause-row : goal.returns-in-None-clause-row
returns-in-None-clause-row g c =
    let m = g.O.OpClass.meaning in
    let seen = c.state-state.result.now in
    let old : Reading _ _ _ _ = record { scan = c.self.inside.scan; found = c.self.inside.found.items; told = c.self.inside.told } in
    let found : List RowAt = c.read_to.new.found.items in
    let long = subst (λ (l : List RowAt). length l ≤ c.self.inside.told) c.deref.ensures.value c.in-None.ensures.lookup.3 in
    let over = subst (λ (z : Seen _ _ _ _). ReadsOver m z old) (sym c.state-state.ensures.value) (subst (λ (r : Reading _ _ _ _). ReadsOver m c.args.index.now r) (sym c.self.view_is) c.requires.over) in
    let one : c.min-wanted.result + 1 ≡ c.self.inside.told + 1 = omega (arith, c.min-wanted.ensures, ap length c.as_slice.ensures.value, over.told) in
    subst (λ (r : Reading _ _ _ _). HandsOut m (past_of c.args.index.now) r.scan.query (handed r) (take c.self.inside.told found) None) c.self.view_is
    (subst (λ (z : Seen _ _ _ _). HandsOut m (past_of z) old.scan.query (handed old) (take old.told found) None) c.state-state.ensures.value
    (hands_none m seen c.journal.ensures.right.legal c.state-state.ensures.closed old c.read_to.new.scan found _ over c.in_ok-read_to.ensures long one))
