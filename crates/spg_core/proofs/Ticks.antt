-- Which sections of an insert leave the clock as it is.
use Rattle.std.proofs.Common.{◌≡◌, ℕ, List, inl, inr, subst}
use Rattle.std.specs.Prelude.{ℤ}
use Rattle.spg_opclass.specs.Meaning.{Meaning}
use Rattle.spg_opclass.specs.declared.view.Choice.TheVariants.{Add, Split}
use Rattle.spg_tree.specs.Table.{Table}
use Rattle.spg_tree.specs.Descents.{Descending}
use Rattle.spg_descend.specs.declared.rule.Rule.TheVariants as rules
use Rattle.spg_descend.specs.Answers.{IsAnswered}
use Rattle.spg_descend.specs.Follows.{IsAtInner}
use Rattle.spg_split.specs.Splits.{IsAtRoot}
use Rattle.spg_move.specs.Nodes.{FitsWider}
use Rattle.spg_core.specs.Telling.{IsRuleFor}
use Rattle.spg_core.specs.Refusing.{Ticks}
use Rattle.spg_core.proofs.Ends.{one_answer}

module _ {Key Recon Cond : Type 0} (m : Meaning Key Recon Cond) (t : Table) (d : Descending Recon) where
  pub put_ticks : IsRuleFor t d rules.Put → Ticks m t d → ⊥
  put_ticks (off, fits) (inl (off2, room, short)) = room fits
  put_ticks (off, fits) (inr (inl ((off2, room, long), below))) = room fits
  put_ticks (off, fits) (inr (inr (i, asks))) = off.1 i

  pub root_ticks : IsRuleFor t d rules.Divide → IsAtRoot d.stand → Ticks m t d → ⊥
  root_ticks (off, room, long) low (inl (off2, room2, short)) = long short
  root_ticks (off, room, long) low (inr (inl (rule, below))) = below low
  root_ticks (off, room, long) low (inr (inr (i, (at, label, answered, big)))) = off.1 i

  -- where the class asks for this node, a clock that is raised says that the longer tuple does not fit in its place
  pub add_ticks : (at : ℕ) (label : ℤ) → IsAtInner t d.stand → IsAnswered m t d (Add at label) → Ticks m t d → FitsWider t d at label → ⊥
  add_ticks at label i is (inl (off, room, short)) fits = off.1 i
  add_ticks at label i is (inr (inl ((off, room, long), below))) fits = off.1 i
  add_ticks at label i is (inr (inr (j, (at2, label2, answered, big)))) fits =
      let f : Add at label ≡ Add at2 label2 = one_answer m t d (Add at label) (Add at2 label2) is answered in
      let there : at ≡ at2 = cc in
      let named : label ≡ label2 = cc in
      big (subst (λ (k : ℤ). FitsWider t d at2 k) named (subst (λ (k : ℕ). FitsWider t d k label) there fits))

  -- where it asks for a split, the clock stays
  pub split_ticks : (up : List ℕ) (labels : List ℤ) (child : ℕ) (low : List ℕ) → IsAtInner t d.stand → IsAnswered m t d (Split up labels child low) → Ticks m t d → ⊥
  split_ticks up labels child low i is (inl (off, room, short)) = off.1 i
  split_ticks up labels child low i is (inr (inl ((off, room, long), below))) = off.1 i
  split_ticks up labels child low i is (inr (inr (j, (at, label, answered, big)))) =
      let f : Split up labels child low ≡ Add at label = one_answer m t d (Split up labels child low) (Add at label) is answered in
      cc
