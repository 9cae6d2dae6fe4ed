-- What a pass knows of its seat and of the others, between calls and between the sections of a call.
use Rattle.std.specs.Prelude.{◌≡◌, ◌≤◌, ℕ, List, length, take, drop, reverse}
use Rattle.spg_rows.specs.declared.event.Event.{Event}
use Rattle.spg_rows.specs.History.{nothing, open_of, own}
use Rattle.spg_turn.specs.declared.rule.View.{View}
use Rattle.spg_turn.specs.Views.{kept_of}
use Rattle.spg_calls.specs.Calls.{past_at}
use Rattle.spg_calls.specs.Doing.{Doing, idle, doing_after}

module _ {O Key Recon Cond : Type 0} where
  -- what the pass's seat does, by the events that the pass added
  abbrev pub doing_at : View (Event O Key Recon Cond) → Doing O Key Recon Cond
  doing_at v = doing_after v.number idle v.mine

  -- of its seat's events since the lock was made
  abbrev pub own_since : View (Event O Key Recon Cond) → List (Event O Key Recon Cond)
  own_since v = own v.number (drop v.base v.seen)

  -- by the journal that the pass has seen, its seat has nothing open
  abbrev pub IsAtRest : View (Event O Key Recon Cond) → Type 0
  IsAtRest v = open_of v.number (reverse v.seen) ≡ nothing

-- nothing was open when the lock was made, no seat that was joined has anything open, and what the pass added stands in what it has seen
pub record IsPassed {O Key Recon Cond : Type 0} (v : View (Event O Key Recon Cond)) : Type 0 where
  pub based : v.base ≤ length v.seen
  pub known : take (length v.mine) (own_since v) ≡ v.mine
  pub before : (n : ℕ) → open_of n (past_at v.base v.seen) ≡ nothing
  pub kept : (n : ℕ) → doing_after n idle (kept_of v.kept n) ≡ idle

-- the same of who has the state out: it has seen the whole journal, in which its seat has just what it added
pub record IsLent {O Key Recon Cond : Type 0} (v : View (Event O Key Recon Cond)) : Type 0 where
  pub based : v.base ≤ length v.seen
  pub whole : own_since v ≡ v.mine
  pub before : (n : ℕ) → open_of n (past_at v.base v.seen) ≡ nothing
  pub kept : (n : ℕ) → doing_after n idle (kept_of v.kept n) ≡ idle
