use Rattle.std.proofs.Common.{ℕ, sym, ap, ◌∙◌}
use Rattle.std.proofs.lemmas.Bool.{and_parts, eqb-true}
use Rattle.spg_base.specs.Row.{RowAt}
use Rattle.spg_rows.proofs.run.Run.hinted.Goals as goal

pub returns-then-eq : goal.returns-then-eq
returns-then-eq g c =
    let found = c.in_ok-get.ensures.lookup.3 in
    let entry = c.in_ok-get.field-0.now in
    let (block, offset) = and_parts _ _ (sym c.eq.ensures ∙ c.if-eq.true) in
    let mk : ℕ → ℕ → RowAt = λ b o. record { block = b; offset = o } in
    let same = ap (λ b. mk b entry.0.offset) (eqb-true entry.0.block c.args.row.block block) ∙ ap (mk c.args.row.block) (eqb-true entry.0.offset c.args.row.offset offset) in
    rw (← c.self.view_is, ← c.deref.ensures.value)
    (record { in_range = found.0; here = λ d. sym (ap (λ (e : _). e.0) (found.1 d)) ∙ same })
