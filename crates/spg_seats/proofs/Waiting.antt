-- For which seat a swept row waits, as the stages tell.
use Rattle.std.proofs.Common.{◌≡◌, ◌≤◌, ◌<◌, ⊎_elim, ℕ, zero, suc, Bool, true, List, reverse, Option, Some, None, nat_lt, refl, sym, ap, ap₂, ◌∙◌, subst, arith}
use Rattle.std.proofs.lemmas.Bool.{cases_Bool, cases_eq, cases_lt}
use Rattle.std.proofs.lemmas.List.{get_or_past}
use Rattle.spg_opclass.specs.Meaning.{Meaning}
use Rattle.spg_rows.specs.declared.table.RowState.{RowState}
use Rattle.spg_rows.specs.History.{History, vacuuming, open_of}
use Rattle.spg_rows.specs.Lives.{Sweeper}
use Rattle.spg_rows.specs.Held.{or_then, is_scan_at, vacuum_end, lowest_scan, waits_after}
use Rattle.spg_rows.specs.Told.{RunsVacuum, StateTells}
use Rattle.spg_rows.specs.Vacuums.{find_end}
use Rattle.spg_rows.proofs.Histories.{sane_from_legal}
use Rattle.spg_rows.proofs.Told.{states_tell, lowest_within}
use Rattle.spg_rows.proofs.Vacuums.{vacuums_tell}
use Rattle.spg_seats.specs.Slots.{Stage, free, descending, reading, sweeping, stage_in, StageFits, Fields, IsKept}
use Rattle.spg_seats.specs.Waiting.{reads_at, is_sweeping, lowest_seat, waits_by, WaitsTell}

-- ---- the lowest seat of a test that one seat alone meets

module _ {O Key Recon Cond : Type 0} (test : Stage O Key Recon Cond → Bool) (stages : List (Stage O Key Recon Cond)) (seat : ℕ) (here : test (stage_in stages seat) ≡ true) (alone : (n : ℕ) → test (stage_in stages n) ≡ true → n ≡ seat) where
  none_lower : (count : ℕ) → count ≤ seat → lowest_seat test count stages ≡ None
  none_lower zero h = refl
  none_lower (suc count) h = ⊎_elim
      (λ e. let q : count ≡ seat = alone count e in absurd (omega arith))
      (λ e. ap₂ (λ x b. or_then x b count) (none_lower count (omega arith)) e)
      (cases_Bool (test (stage_in stages count)))

  one_below : (count : ℕ) → seat < count → lowest_seat test count stages ≡ Some seat
  one_below zero h = absurd (omega arith)
  one_below (suc count) h = ⊎_elim
      (λ e. ap₂ (λ x b. or_then x b count) (none_lower count (omega arith)) (ap (λ n. test (stage_in stages n)) e ∙ here) ∙ ap (λ n. Some n) e)
      (λ n. ap (λ x. or_then x (test (stage_in stages count)) count) (one_below count (omega (arith, n))))
      (cases_eq count seat)

module _ {O Key Recon Cond : Type 0} (m : Meaning Key Recon Cond) (s : Fields O Key Recon Cond) (kept : IsKept m s) where
  abbrev past : History O Key Recon Cond
  past = reverse s.journal

  -- what a stage says that is a vacuum
  sweeps_say : (n : ℕ) (stage : Stage O Key Recon Cond) → StageFits m s.table past n stage → is_sweeping stage ≡ true → (before : History O Key Recon Cond) × (open_of n past ≡ vacuuming before)
  sweeps_say n free fits h = absurd (cc h)
  sweeps_say n (descending key d) fits h = absurd (cc h)
  sweeps_say n (reading q) fits h = absurd (cc h)
  sweeps_say n (sweeping v) (before, has, V) h = (before, has)

  says_sweeps : (n : ℕ) (stage : Stage O Key Recon Cond) → StageFits m s.table past n stage → (before : History O Key Recon Cond) → open_of n past ≡ vacuuming before → is_sweeping stage ≡ true
  says_sweeps n free fits before has = absurd (cc (sym fits ∙ has))
  says_sweeps n (descending key d) fits before has = absurd (cc (sym fits.0 ∙ has))
  says_sweeps n (reading q) (b, opens, D) before has = absurd (cc (sym opens ∙ has))
  says_sweeps n (sweeping v) fits before has = refl

  -- and of a scan
  scans_say : (at n : ℕ) (stage : Stage O Key Recon Cond) → StageFits m s.table past n stage → is_scan_at at (open_of n past) ≡ reads_at at stage
  scans_say at n free fits = ap (is_scan_at at) fits
  scans_say at n (descending key d) fits = ap (is_scan_at at) fits.0
  scans_say at n (reading q) (before, has, D) = ap (is_scan_at at) has ∙ ap (λ k. nat_lt k at) (sym D.at)
  scans_say at n (sweeping v) (before, has, V) = ap (is_scan_at at) has

  -- nothing is open beyond the seats
  beyond : (n : ℕ) → 64 ≤ n → stage_in s.stages n ≡ free
  beyond n h = get_or_past s.stages n free (let a = kept.seats in omega arith)

  same_lowest : (at count : ℕ) → lowest_scan at count past ≡ lowest_seat (reads_at at) count s.stages
  same_lowest at zero = refl
  same_lowest at (suc count) = ap₂ (λ x b. or_then x b count) (same_lowest at count) (scans_say at count (stage_in s.stages count) (kept.stages count))

  waits_in_stages : (by : Sweeper) (end : Option ℕ) → (end ≡ None → RunsVacuum past by.vacuum by.seat) → waits_after by end past ≡ waits_by end s.stages
  waits_in_stages by None runs =
      let (before, has, at) = runs refl in
      let here = says_sweeps by.seat (stage_in s.stages by.seat) (kept.stages by.seat) before has in
      sym (one_below is_sweeping s.stages by.seat here
      (λ n h. let (b, opens) = sweeps_say n (stage_in s.stages n) (kept.stages n) h in (sane_from_legal past kept.right.legal).vacuum.alone n by.seat b before opens has)
      64 (⊎_elim (λ low. low) (λ high. absurd (cc (sym (ap is_sweeping (beyond by.seat high)) ∙ here))) (cases_lt by.seat 64)))
  waits_in_stages by (Some at) runs =
      sym (lowest_within past at 64 (λ n high. scans_say at n (stage_in s.stages n) (kept.stages n) ∙ ap (reads_at at) (beyond n high))) ∙ same_lowest at 64

pub waits_tell : (O Key Recon Cond : Type 0) (m : Meaning Key Recon Cond) → WaitsTell O Key Recon Cond m
waits_tell O Key Recon Cond m s r vacuum kept is =
    let past : History O Key Recon Cond = reverse s.journal in
    let (claimed, (seat, held, runs)) = subst (λ (x : RowState). StateTells past r x) is (states_tell past kept.right.legal r) in
    let by : Sweeper = record { seat = seat; vacuum = vacuum } in
    let e : vacuum_end vacuum past ≡ find_end vacuum s.vacuums = sym (vacuums_tell past kept.right.legal vacuum) ∙ ap (find_end vacuum) (sym kept.tells.vacuums) in
    held ∙ waits_in_stages m s kept by (vacuum_end vacuum past) runs ∙ ap (λ x. waits_by x s.stages) e
