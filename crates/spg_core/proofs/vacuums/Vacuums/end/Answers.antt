use Rattle.std.proofs.Common.{rules, ◌≡◌, length, ⊎_elim, refl, sym, ap, ◌∙◌, subst, arith}
use Rattle.std.proofs.lemmas.Bool.{cases_lt, false≢true}
use Rattle.spg_rows.specs.Vacuums.{newest_ends}
use Rattle.spg_core.specs.Spans.{spans_of, IsDescending}
use Rattle.spg_core.proofs.Spanning.{ends_descend, ends_last, ends_none}
use Rattle.spg_core.proofs.vacuums.Vacuums.end.Goals as goal
use Rattle.spg_core.proofs.vacuums.Vacuums.end.Goals.{Joined-last_mut, in-Some, in_default}

-- the newest has ended then
ended_last : (c : Joined-last_mut) → spans_of c.match-last_mut.self-inside.spans.items ≡ newest_ends c.args.at (spans_of c.self.inside.spans.items)
ended_last c = elim c.match-last_mut.branch [
  | in-Some w ↦
      let long : length c.self.inside.spans.items ≡ c.self.inside.spans.len = search rules in
      ap (λ x. spans_of x.spans.items) w.self-inside-is
      ∙ ends_last c.args.at c.self.inside.spans.items c.self.inside.spans.len w.in-Some.span.now long (w.in-Some.ensures.variant.0 refl) w.in-Some.ensures.value
  | in_default w ↦
      let long : length c.self.inside.spans.items ≡ c.self.inside.spans.len = search rules in
      ap (λ x. spans_of x.spans.items) w.self-inside-is
      ∙ ends_none c.args.at c.self.inside.spans.items (⊎_elim (λ h. absurd (false≢true (w.in_default.ensures.variant.1 h))) (λ h. omega (arith, long, h)) (cases_lt 0 c.self.inside.spans.len))
]

pub invariant_of-self : goal.invariant_of-self
invariant_of-self c = subst IsDescending (sym (ended_last c)) (ends_descend c.args.at (spans_of c.self.inside.spans.items) c.self.invariant)

pub returns : goal.returns
returns c = ended_last c ∙ ap (newest_ends c.args.at) c.self.view_is
