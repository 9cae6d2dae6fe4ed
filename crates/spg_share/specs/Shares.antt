-- What the tasks of a shared index did.
use Rattle.std.specs.Prelude.{◌≡◌, ◌≤◌, ◌+◌, ◌==◌, if◌then◌else◌, ℕ, List, [], length, drop, Option, Some, None}
use Rattle.atomic_table.specs.Seated.{TableId}
use Rattle.spg_opclass.specs.declared.class.OpClass.{Ghosts}
use Rattle.spg_rows.specs.declared.event.Event.{Event}
use Rattle.spg_rows.specs.History.{own}
use Rattle.spg_turn.specs.declared.rule.View.{View}
use Rattle.spg_turn.specs.Views.{StartsWith, kept_of, first_view, dealt}
use Rattle.spg_core.specs.Seen.{Seen}
use Rattle.spg_desk.specs.declared.pass.Pass.{Pass}
use Rattle.spg_desk.specs.Passes.{desk_of, view_of}
use Rattle.spg_share.specs.Seats.{pass_name, pass_knows}

-- what seat i knows when so many seats were dealt, where the first pass knew this: seat 0 has the first pass
abbrev pub start_view : {E : Type 0} → View E → ℕ → ℕ → View E
start_view {E} v count i = if i == 0 then record v { given = count } else dealt (record v { given = i })

-- what the first pass knows seat n to have added, once that seat came back
abbrev pub added_by : {E : Type 0} → ℕ → View E → List E
added_by {E} n v = if n == 0 then v.mine else kept_of v.kept n

-- what the first pass knows, once the seats below k came back, of so many: it began with this
pub record Gathered {E : Type 0} (v : View E) (count k : ℕ) (w : View E) : Type 0 where
  pub number : w.number ≡ 0
  pub given_is : w.given ≡ count
  pub back_is : w.back + 1 ≡ k
  pub origin_is : w.origin ≡ v.origin
  pub base_is : w.base ≡ v.base
  pub rest : (n : ℕ) → k ≤ n → kept_of w.kept n ≡ []

module _ {O Key Recon Cond : Type 0} where
  -- Task i of so many ran: from what its seat knew of the index to what it knew at its end. Of that seat the journal has, since the index was shared, just what it knew then to have added
  pub record Ran {T : Type 0} (does : T → T → View (Event O Key Recon Cond) → View (Event O Key Recon Cond) → Type 0) (old new : Seen O Key Recon Cond) (count i : ℕ) (before after : T) : Type 0 where
    pub end : View (Event O Key Recon Cond)
    pub did : does before after (start_view (first_view old.journal old.origin) count i) end
    pub seen : StartsWith new.journal end.seen
    pub mine : own i (drop (length old.journal) new.journal) ≡ end.mine

  -- of so many tasks, no seat but theirs did anything
  abbrev pub NoOthers : Seen O Key Recon Cond → Seen O Key Recon Cond → ℕ → Type 0
  NoOthers old new count = (n : ℕ) → count ≤ n → own n (drop (length old.journal) new.journal) ≡ []

module _ {O Key Recon Cond : Type 0} {laws : Ghosts O Key Recon Cond} where
  -- there is a pass of this desk that knows this
  abbrev pub HasPass : TableId → View (Event O Key Recon Cond) → Option (Pass O Key Recon Cond laws) → Type 0
  HasPass t v None = ⊥
  HasPass t v (Some p) = (desk_of p ≡ t) × (view_of p ≡ v)

  -- there is a pass of this desk, of seat i
  abbrev pub HasNumber : TableId → ℕ → Option (Pass O Key Recon Cond laws) → Type 0
  HasNumber t i None = ⊥
  HasNumber t i (Some p) = (desk_of p ≡ t) × ((view_of p).number ≡ i)

  -- task i of so many was given its pass, and stands as it was
  abbrev pub IsDealt : {T : Type 0} → TableId → View (Event O Key Recon Cond) → ℕ → ℕ → T → T → Option (Pass O Key Recon Cond laws) → Type 0
  IsDealt t v count i before after pass = (after ≡ before) × HasPass t (start_view v count i) pass

  -- a task took its pass from the one to the other
  abbrev pub HasRun : {T : Type 0} → (T → T → View (Event O Key Recon Cond) → View (Event O Key Recon Cond) → Type 0) → T → T → Option (Pass O Key Recon Cond laws) → Option (Pass O Key Recon Cond laws) → Type 0
  HasRun does before after p q = (pass_name q ≡ pass_name p) × does before after (pass_knows p) (pass_knows q)

  -- what the pass of seat i had seen was seen, and what it had added is known
  abbrev pub IsKept : View (Event O Key Recon Cond) → ℕ → Option (Pass O Key Recon Cond laws) → Type 0
  IsKept w i None = ⊥
  IsKept w i (Some p) = StartsWith w.seen (view_of p).seen × (added_by i w ≡ (view_of p).mine)
