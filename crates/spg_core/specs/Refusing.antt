-- Where a section of an insert is refused.
use Rattle.std.specs.Prelude.{◌≡◌, ◌⊎◌, ◌+◌, ◌^◌, ℕ, ℤ, false, List, Result, OnOk, OnErr, IsErrOf}
use Rattle.spg_opclass.specs.Meaning.{Meaning}
use Rattle.spg_opclass.specs.declared.view.Choice.TheVariants as choice
use Rattle.spg_tree.specs.Table.{Table}
use Rattle.spg_tree.specs.Descents.{Descending}
use Rattle.spg_tree.specs.Pick.{IsFull}
use Rattle.spg_tree.specs.declared.stand.Stand.TheVariants.{Empty}
use Rattle.spg_tree.specs.declared.stand.StepRefused.{StepRefused}
use Rattle.spg_tree.specs.declared.stand.StepRefused.TheVariants.{IndexFull, ClockFull, Memory}
use Rattle.spg_descend.specs.declared.rule.Rule.TheVariants as rules
use Rattle.spg_descend.specs.Answers.{IsAnswered}
use Rattle.spg_descend.specs.Puts.{leaf_want}
use Rattle.spg_split.specs.Fulls.{IsRootFull, IsChainFull}
use Rattle.spg_split.specs.Splits.{IsAtRoot}
use Rattle.spg_move.specs.Moves.{carried_want}
use Rattle.spg_move.specs.Nodes.{FitsWider, wider_want}
use Rattle.spg_move.specs.Splits.{lower_want_at, fits_beside_at}
use Rattle.spg_core.specs.Stepping.{IsOutgrown, IsNearLimit}
use Rattle.spg_core.specs.Telling.{IsRuleFor}
use Rattle.spg_core.specs.declared.answer.InsertOut.{InsertOut}

-- the class asks for a node or for a split, the longer tuple does not fit in its place or the lower one beside the upper, and the pick of a page for it finds none
abbrev pub FindsNoInner : {Key Recon Cond : Type 0} → Meaning Key Recon Cond → Table → Descending Recon → ℕ → Type 0
FindsNoInner m t d seat =
    ((at : ℕ) × (label : ℤ) × IsAnswered m t d (choice.Add at label) × (FitsWider t d at label → ⊥) × IsFull t (wider_want t d at label seat))
    ⊎ ((up : List ℕ) × (labels : List ℤ) × (child : ℕ) × (low : List ℕ) × IsAnswered m t d (choice.Split up labels child low) × (fits_beside_at t d up labels low ≡ false) × IsFull t (lower_want_at t d low seat))

-- a pick of the section that comes where the insert stands finds no page
abbrev pub FindsNoPage : {Key Recon Cond : Type 0} → Meaning Key Recon Cond → Table → Descending Recon → ℕ → Type 0
FindsNoPage m t d seat =
    (IsRuleFor t d rules.Put × (d.stand ≡ Empty) × IsFull t (leaf_want d seat))
    ⊎ (IsRuleFor t d rules.Move × IsFull t (carried_want t d seat))
    ⊎ (IsRuleFor t d rules.Divide × ((IsAtRoot d.stand × IsRootFull m t d seat) ⊎ ((IsAtRoot d.stand → ⊥) × IsChainFull m t d seat)))
    ⊎ (IsRuleFor t d rules.Choose × FindsNoInner m t d seat)

-- that section raises the clock: a chain moves, or one below a root is divided, or a longer tuple does not fit in its place
abbrev pub Ticks : {Key Recon Cond : Type 0} → Meaning Key Recon Cond → Table → Descending Recon → Type 0
Ticks m t d =
    IsRuleFor t d rules.Move
    ⊎ (IsRuleFor t d rules.Divide × (IsAtRoot d.stand → ⊥))
    ⊎ (IsRuleFor t d rules.Choose × ((at : ℕ) × (label : ℤ) × IsAnswered m t d (choice.Add at label) × (FitsWider t d at label → ⊥)))

-- ---- the whole of a refusal

-- A section is refused for a full index or clock only where the tree has outgrown its root page, near the limit or at the last clock, and where a pick finds no page or the clock is raised.
-- One that raises the last clock is refused for that or for want of memory; one whose pick finds no page is refused; and one that is refused leaves table and insert as they were
pub record Refuses {Key Recon Cond : Type 0} (m : Meaning Key Recon Cond) (t t2 : Table) (d d2 : Descending Recon) (seat : ℕ) (result : Result InsertOut StepRefused) : Type 0 where
  pub full : IsErrOf result IndexFull → IsOutgrown t d × IsNearLimit t
  pub clock : IsErrOf result ClockFull → IsOutgrown t d × (t.clock + 1 ≡ 2 ^ 48)
  pub full_where : IsErrOf result IndexFull → FindsNoPage m t d seat
  pub clock_where : IsErrOf result ClockFull → Ticks m t d
  pub clock_first : Ticks m t d → t.clock + 1 ≡ 2 ^ 48 → IsErrOf result ClockFull ⊎ IsErrOf result Memory
  pub not_full : OnOk result (FindsNoPage m t d seat → ⊥)
  pub err : OnErr result (t2 ≡ t)
  pub err_descent : OnErr result (d2 ≡ d)
