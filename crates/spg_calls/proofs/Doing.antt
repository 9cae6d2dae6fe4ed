-- What a seat does, and how many rows it has swept, by its own events.
use Rattle.std.proofs.Common.{◌≡◌, inl, inr, ◌+◌, ℕ, cond, eqb, [], ◌∷◌, ◌++◌, reverse, refl, sym, ap, ◌∙◌, arith}
use Rattle.std.proofs.lemmas.Bool.{eq-eqb}
use Rattle.std.proofs.lemmas.Bool.Decides.{eqb_tells}
use Rattle.std.proofs.lemmas.List.{reverse-append, reverse-reverse}
use Rattle.spg_rows.specs.declared.event.Event.{Event}
use Rattle.spg_rows.specs.declared.event.Event.TheVariants.{OpenInsert, Put, Drop, Kill, OpenScan, CloseScan, OpenVacuum, Sweep, CloseVacuum, Leave}
use Rattle.spg_rows.specs.History.{History, Opened, vacuuming, open_of, opened_by, seat_of, own}
use Rattle.spg_rows.specs.Rows.{sweep_count}
use Rattle.spg_rows.specs.Legal.{IsLegal}
use Rattle.spg_rows.proofs.Opened.{opened_cases}
use Rattle.spg_rows.proofs.Targets.{unswept_by}
use Rattle.spg_calls.specs.Doing.{Doing, idle, doing_by, doing_after, doing_of, DoingTells}
use Rattle.spg_calls.specs.Swept.{swept_by, swept_after, SweepsTell}

module _ {O Key Recon Cond : Type 0} where
  reverse_one : (e : Event O Key Recon Cond) (past : History O Key Recon Cond) → reverse (e ∷ past) ≡ reverse past ++ e ∷ []
  reverse_one e past = reverse-append (e ∷ []) past

  -- ---- what a seat does

  pub doing_parts : (seat : ℕ) (before : Doing O Key Recon Cond) (xs ys : History O Key Recon Cond) → doing_after seat before (xs ++ ys) ≡ doing_after seat (doing_after seat before xs) ys
  doing_parts seat before [] ys = refl
  doing_parts seat before (e ∷ xs) ys = doing_parts seat (cond (eqb (seat_of e) seat) (doing_by e before) before) xs ys

  pub doing_alone : (seat : ℕ) (before : Doing O Key Recon Cond) (events : History O Key Recon Cond) → doing_after seat before events ≡ doing_after seat before (own seat events)
  doing_alone seat before [] = refl
  doing_alone seat before (e ∷ events) =
      let mine = own seat events in
      elim (eqb_tells (seat_of e) seat) [
        | inl same ↦ ap (λ b. doing_after seat (cond b (doing_by e before) before) events) same.0 ∙ (doing_alone seat (doing_by e before) events
            ∙ (sym (ap (λ b. doing_after seat (cond b (doing_by e before) before) mine) same.0) ∙ sym (ap (λ b. doing_after seat before (cond b (e ∷ mine) mine)) same.0)))
        | inr other ↦ ap (λ b. doing_after seat (cond b (doing_by e before) before) events) other.0 ∙ (doing_alone seat before events ∙ sym (ap (λ b. doing_after seat before (cond b (e ∷ mine) mine)) other.0))
      ]

  by_event : (e : Event O Key Recon Cond) (past : History O Key Recon Cond) (was : Opened O Key Recon Cond) → doing_of (opened_by e past was) ≡ doing_by e (doing_of was)
  by_event (OpenInsert seat row key) past was = refl
  by_event (Put seat row) past was = refl
  by_event (Drop seat row why) past was = refl
  by_event (Kill seat row) past was = refl
  by_event (OpenScan seat query) past was = refl
  by_event (CloseScan seat rows) past was = refl
  by_event (OpenVacuum seat) past was = refl
  by_event (Sweep seat row) past was = refl
  by_event (CloseVacuum seat swept) past was = refl
  by_event (Leave seat) past was = refl

  of_history : (seat : ℕ) (past : History O Key Recon Cond) → doing_of (open_of seat past) ≡ doing_after seat idle (reverse past)
  of_history seat [] = refl
  of_history seat (e ∷ past) =
      let here : doing_after seat idle (reverse (e ∷ past)) ≡ doing_after seat (doing_after seat idle (reverse past)) (e ∷ []) = ap (doing_after seat idle) (reverse_one e past) ∙ doing_parts seat idle (reverse past) (e ∷ []) in
      let was = doing_after seat idle (reverse past) in
      elim (eqb_tells (seat_of e) seat) [
        | inl same ↦ ap (λ b. doing_of (cond b (opened_by e past (open_of seat past)) (open_of seat past))) same.0 ∙ (by_event e past (open_of seat past) ∙ (ap (doing_by e) (of_history seat past)
            ∙ (sym (ap (λ b. cond b (doing_by e was) was) same.0) ∙ sym here)))
        | inr other ↦ ap (λ b. doing_of (cond b (opened_by e past (open_of seat past)) (open_of seat past))) other.0 ∙ (of_history seat past ∙ (sym (ap (λ b. cond b (doing_by e was) was) other.0) ∙ sym here))
      ]

  pub doing_whole : (seat : ℕ) (journal : History O Key Recon Cond) → doing_of (open_of seat (reverse journal)) ≡ doing_after seat idle journal
  doing_whole seat journal = of_history seat (reverse journal) ∙ ap (doing_after seat idle) (reverse-reverse journal)

  -- ---- the rows that it swept

  pub swept_parts : (seat count : ℕ) (xs ys : History O Key Recon Cond) → swept_after seat count (xs ++ ys) ≡ swept_after seat (swept_after seat count xs) ys
  swept_parts seat count [] ys = refl
  swept_parts seat count (e ∷ xs) ys = swept_parts seat (cond (eqb (seat_of e) seat) (swept_by e count) count) xs ys

  pub swept_alone : (seat count : ℕ) (events : History O Key Recon Cond) → swept_after seat count events ≡ swept_after seat count (own seat events)
  swept_alone seat count [] = refl
  swept_alone seat count (e ∷ events) =
      let mine = own seat events in
      elim (eqb_tells (seat_of e) seat) [
        | inl same ↦ ap (λ b. swept_after seat (cond b (swept_by e count) count) events) same.0 ∙ (swept_alone seat (swept_by e count) events
            ∙ (sym (ap (λ b. swept_after seat (cond b (swept_by e count) count) mine) same.0) ∙ sym (ap (λ b. swept_after seat count (cond b (e ∷ mine) mine)) same.0)))
        | inr other ↦ ap (λ b. swept_after seat (cond b (swept_by e count) count) events) other.0 ∙ (swept_alone seat count events ∙ sym (ap (λ b. swept_after seat count (cond b (e ∷ mine) mine)) other.0))
      ]

  -- the seat's own event: with it the count goes on, or the vacuum opened just then
  own_event : (e : Event O Key Recon Cond) (past before : History O Key Recon Cond) (was : Opened O Key Recon Cond) (count : ℕ) → opened_by e past was ≡ vacuuming before → (was ≡ vacuuming before → sweep_count past ≡ sweep_count before + count) → sweep_count (e ∷ past) ≡ sweep_count before + swept_by e count
  own_event (OpenInsert seat row key) past before was count h k = absurd (cc h)
  own_event (Put seat row) past before was count h k = absurd (cc h)
  own_event (Drop seat row why) past before was count h k = absurd (cc h)
  own_event (Kill seat row) past before was count h k = k h
  own_event (OpenScan seat query) past before was count h k = absurd (cc h)
  own_event (CloseScan seat rows) past before was count h k = absurd (cc h)
  own_event (OpenVacuum seat) past before was count h k = let same : past ≡ before = (cc h) in let zeroth : sweep_count before ≡ sweep_count before + 0 = omega arith in ap sweep_count same ∙ zeroth
  own_event (Sweep seat row) past before was count h k = let e = k h in omega (arith, e)
  own_event (CloseVacuum seat swept) past before was count h k = absurd (cc h)
  own_event (Leave seat) past before was count h k = absurd (cc h)

  counted : (seat : ℕ) (past before : History O Key Recon Cond) → IsLegal past → open_of seat past ≡ vacuuming before → sweep_count past ≡ sweep_count before + swept_after seat 0 (reverse past)
  counted seat [] before legal h = absurd (cc h)
  counted seat (e ∷ past) before legal h =
      let here : swept_after seat 0 (reverse (e ∷ past)) ≡ swept_after seat (swept_after seat 0 (reverse past)) (e ∷ []) = ap (swept_after seat 0) (reverse_one e past) ∙ swept_parts seat 0 (reverse past) (e ∷ []) in
      elim (opened_cases e past seat) [
        | inl same ↦
            let step : swept_after seat (swept_after seat 0 (reverse past)) (e ∷ []) ≡ swept_by e (swept_after seat 0 (reverse past)) = (rw (eq-eqb (seat_of e) seat (sym same.0)) refl) in
            own_event e past before (open_of (seat_of e) past) (swept_after seat 0 (reverse past)) (sym same.1 ∙ h) (λ k. counted seat past before legal.1 (ap (λ n. open_of n past) same.0 ∙ k)) ∙ ap (λ n. sweep_count before + n) (sym (here ∙ step))
        | inr other ↦
            let k : open_of seat past ≡ vacuuming before = sym other.1 ∙ h in
            let step : swept_after seat (swept_after seat 0 (reverse past)) (e ∷ []) ≡ swept_after seat 0 (reverse past) = elim (eqb_tells (seat_of e) seat) [ inl same ↦ absurd (other.0 (sym same.1)) | inr differs ↦ rw differs.0 refl ] in
            unswept_by e past legal.1 legal.0 seat before k other.0 ∙ (counted seat past before legal.1 k ∙ ap (λ n. sweep_count before + n) (sym (here ∙ step)))
      ]

  sweeps_count : (seat : ℕ) (journal before : History O Key Recon Cond) → IsLegal (reverse journal) → open_of seat (reverse journal) ≡ vacuuming before → sweep_count (reverse journal) ≡ sweep_count before + swept_after seat 0 journal
  sweeps_count seat journal before legal h = counted seat (reverse journal) before legal h ∙ ap (λ es. sweep_count before + swept_after seat 0 es) (reverse-reverse journal)

pub doing_tells : (O Key Recon Cond : Type 0) → DoingTells O Key Recon Cond
doing_tells O Key Recon Cond = record { whole = doing_whole; parts = doing_parts; alone = doing_alone }

pub sweeps_tell : (O Key Recon Cond : Type 0) → SweepsTell O Key Recon Cond
sweeps_tell O Key Recon Cond = record { count = sweeps_count; parts = swept_parts; alone = swept_alone }
