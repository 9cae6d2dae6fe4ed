-- Which sections of an insert find their pages.
use Rattle.std.proofs.Common.{◌≡◌, ℕ, Bool, false, List, None, Some, inl, inr, sym, ◌∙◌, subst}
use Rattle.std.specs.Prelude.{ℤ}
use Rattle.spg_opclass.specs.Meaning.{Meaning}
use Rattle.spg_opclass.specs.declared.view.Choice.TheVariants.{Match, Add, Split}
use Rattle.spg_tree.specs.Table.{Table}
use Rattle.spg_tree.specs.Pick.{IsFull}
use Rattle.spg_tree.specs.Descents.{Descending}
use Rattle.spg_tree.specs.declared.stand.Stand.{Stand}
use Rattle.spg_tree.specs.declared.stand.Stand.TheVariants.{Empty}
use Rattle.spg_descend.specs.declared.rule.Rule.TheVariants as rules
use Rattle.spg_descend.specs.Answers.{IsAnswered}
use Rattle.spg_descend.specs.Follows.{IsAtPlace, IsAtInner}
use Rattle.spg_descend.specs.Puts.{leaf_want}
use Rattle.spg_split.specs.Cases.{IsLeafFull}
use Rattle.spg_move.specs.Moves.{carried_want}
use Rattle.spg_move.specs.Nodes.{FitsWider, wider_want}
use Rattle.spg_move.specs.Splits.{lower_want_at, fits_beside_at}
use Rattle.spg_core.specs.Stepping.{IsNamed}
use Rattle.spg_core.specs.Telling.{IsRuleFor}
use Rattle.spg_core.specs.Refusing.{FindsNoPage}
use Rattle.spg_core.proofs.Ends.{one_answer}

module _ {Key Recon Cond : Type 0} (m : Meaning Key Recon Cond) (t : Table) (d : Descending Recon) (seat : ℕ) where
  -- at the start none is picked
  pub start_finds : IsRuleFor t d rules.Start → FindsNoPage m t d seat → ⊥
  start_finds is (inl ((off, fits), empty, full)) = off.0 is
  start_finds is (inr (inl ((off, room, short), full))) = off.0 is
  start_finds is (inr (inr (inl ((off, room, long), full)))) = off.0 is
  start_finds is (inr (inr (inr (i, full)))) = subst (λ (s : Stand). IsAtPlace s) is i.0

  pub put_finds : IsRuleFor t d rules.Put → (d.stand ≡ Empty → IsFull t (leaf_want d seat) → ⊥) → FindsNoPage m t d seat → ⊥
  put_finds (off, fits) found (inl (rule, empty, full)) = found empty full
  put_finds (off, fits) found (inr (inl ((off2, room, short), full))) = room fits
  put_finds (off, fits) found (inr (inr (inl ((off2, room, long), full)))) = room fits
  put_finds (off, fits) found (inr (inr (inr (i, full)))) = off.1 i

  pub move_finds : IsRuleFor t d rules.Move → (IsFull t (carried_want t d seat) → ⊥) → FindsNoPage m t d seat → ⊥
  move_finds (off, room, short) found (inl ((off2, fits), empty, full)) = room fits
  move_finds (off, room, short) found (inr (inl (rule, full))) = found full
  move_finds (off, room, short) found (inr (inr (inl ((off2, room2, long), full)))) = long short
  move_finds (off, room, short) found (inr (inr (inr (i, full)))) = off.1 i

  pub divide_finds : IsRuleFor t d rules.Divide → (IsLeafFull m t d seat → ⊥) → FindsNoPage m t d seat → ⊥
  divide_finds (off, room, long) found (inl ((off2, fits), empty, full)) = room fits
  divide_finds (off, room, long) found (inr (inl ((off2, room2, short), full))) = long short
  divide_finds (off, room, long) found (inr (inr (inl (rule, inl (root, full))))) = found (record { root = λ r. full; below = λ apart. absurd (apart root) })
  divide_finds (off, room, long) found (inr (inr (inl (rule, inr (apart, full))))) = found (record { root = λ root. absurd (apart root); below = λ b. full })
  divide_finds (off, room, long) found (inr (inr (inr (i, full)))) = off.1 i

  -- where the class answers a match none is picked
  match_finds : (node : ℕ) (rest : List ℕ) → IsAtInner t d.stand → IsAnswered m t d (Match node rest) → FindsNoPage m t d seat → ⊥
  match_finds node rest i is (inl ((off, fits), empty, full)) = off.1 i
  match_finds node rest i is (inr (inl ((off, room, short), full))) = off.1 i
  match_finds node rest i is (inr (inr (inl ((off, room, long), full)))) = off.1 i
  match_finds node rest i is (inr (inr (inr (j, inl (at, label, answered, big, full))))) = let f : Match node rest ≡ Add at label = one_answer m t d (Match node rest) (Add at label) is answered in cc
  match_finds node rest i is (inr (inr (inr (j, inr (up, labels, child, low, answered, beside, full))))) =
      let f : Match node rest ≡ Split up labels child low = one_answer m t d (Match node rest) (Split up labels child low) is answered in cc

  -- nor in the nulls tree, where it is not asked
  nulls_finds : d.recon ≡ None → IsAtInner t d.stand → FindsNoPage m t d seat → ⊥
  nulls_finds none i (inl ((off, fits), empty, full)) = off.1 i
  nulls_finds none i (inr (inl ((off, room, short), full))) = off.1 i
  nulls_finds none i (inr (inr (inl ((off, room, long), full)))) = off.1 i
  nulls_finds none i (inr (inr (inr (j, inl (at, label, (recon, er, ea), big, full))))) = let f : None ≡ Some recon = sym none ∙ er in cc
  nulls_finds none i (inr (inr (inr (j, inr (up, labels, child, low, (recon, er, ea), beside, full))))) = let f : None ≡ Some recon = sym none ∙ er in cc

  pub named_finds : (node : ℕ) (rest : List ℕ) (by_turn : Bool) → IsAtInner t d.stand → IsNamed m t d node rest by_turn → FindsNoPage m t d seat → ⊥
  named_finds node rest by_turn i (inl (none, turn, all, turned)) full = nulls_finds none i full
  named_finds node rest by_turn i (inr (answer, is, e, turned)) full = match_finds answer rest i is full

  pub add_finds : (at : ℕ) (label : ℤ) → IsAtInner t d.stand → IsAnswered m t d (Add at label) → ((FitsWider t d at label → ⊥) → IsFull t (wider_want t d at label seat) → ⊥) → FindsNoPage m t d seat → ⊥
  add_finds at label i is found (inl ((off, fits), empty, full)) = off.1 i
  add_finds at label i is found (inr (inl ((off, room, short), full))) = off.1 i
  add_finds at label i is found (inr (inr (inl ((off, room, long), full)))) = off.1 i
  add_finds at label i is found (inr (inr (inr (j, inl (at2, label2, answered, big, full))))) =
      let f : Add at label ≡ Add at2 label2 = one_answer m t d (Add at label) (Add at2 label2) is answered in
      let there : at ≡ at2 = cc in
      let named : label ≡ label2 = cc in
      found (λ fits. big (subst (λ (k : ℤ). FitsWider t d at2 k) named (subst (λ (k : ℕ). FitsWider t d k label) there fits)))
      (subst (λ (k : ℤ). IsFull t (wider_want t d at k seat)) (sym named) (subst (λ (k : ℕ). IsFull t (wider_want t d k label2 seat)) (sym there) full))
  add_finds at label i is found (inr (inr (inr (j, inr (up, labels, child, low, answered, beside, full))))) =
      let f : Add at label ≡ Split up labels child low = one_answer m t d (Add at label) (Split up labels child low) is answered in cc

  pub split_finds : (up : List ℕ) (labels : List ℤ) (child : ℕ) (low : List ℕ) → IsAtInner t d.stand → IsAnswered m t d (Split up labels child low) → (fits_beside_at t d up labels low ≡ false → IsFull t (lower_want_at t d low seat) → ⊥) →
      FindsNoPage m t d seat → ⊥
  split_finds up labels child low i is found (inl ((off, fits), empty, full)) = off.1 i
  split_finds up labels child low i is found (inr (inl ((off, room, short), full))) = off.1 i
  split_finds up labels child low i is found (inr (inr (inl ((off, room, long), full)))) = off.1 i
  split_finds up labels child low i is found (inr (inr (inr (j, inl (at, label, answered, big, full))))) =
      let f : Split up labels child low ≡ Add at label = one_answer m t d (Split up labels child low) (Add at label) is answered in cc
  split_finds up labels child low i is found (inr (inr (inr (j, inr (up2, labels2, child2, low2, answered, beside, full))))) =
      let f : Split up labels child low ≡ Split up2 labels2 child2 low2 = one_answer m t d (Split up labels child low) (Split up2 labels2 child2 low2) is answered in
      let uppers : up2 ≡ up = cc in
      let named : labels2 ≡ labels = cc in
      let lowers : low2 ≡ low = cc in
      found (subst (λ (x : List ℕ). fits_beside_at t d up labels x ≡ false) lowers (subst (λ (x : List ℤ). fits_beside_at t d up x low2 ≡ false) named (subst (λ (x : List ℕ). fits_beside_at t d x labels2 low2 ≡ false) uppers beside)))
      (subst (λ (x : List ℕ). IsFull t (lower_want_at t d x seat)) lowers full)
