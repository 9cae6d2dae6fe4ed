-- Which rows an open vacuum must sweep, and the sets of the rows that were killed and not swept.
use Rattle.std.proofs.Common.{◌≡◌, ◌≤◌, ◌<◌, ◌⊎◌, inl, inr, ℕ, Bool, true, false, cond, ◌||◌, List, [], ◌∷◌, ◌++◌, length, Option, Some, refl, sym, ap, ap₂, ◌∙◌, subst, arith}
use Rattle.std.proofs.lemmas.Bool.{false≢true, ltb-true, lt-ltb, le-ltb, lt-leb, le-leb}
use Rattle.std.proofs.Math.Bool.{or-false, or-true}
use Rattle.spg_base.specs.Row.{RowAt, same_row}
use Rattle.spg_rows.specs.declared.event.Event.{Event}
use Rattle.spg_rows.specs.declared.event.Event.TheVariants.{OpenInsert, Put, Drop, Kill, OpenScan, CloseScan, OpenVacuum, Sweep, CloseVacuum, Leave}
use Rattle.spg_rows.specs.declared.table.RowState.{RowState}
use Rattle.spg_rows.specs.declared.table.RowState.TheVariants.{Free, Claimed, Live, Killed, Swept}
use Rattle.spg_rows.specs.History.{History, seat_of, inserting, vacuuming, open_of}
use Rattle.spg_rows.specs.Lives.{Life, lives, IsOneOf, vacuum_from}
use Rattle.spg_rows.specs.Rows.{present_in, kill_in, state_of, sweep_count}
use Rattle.spg_rows.specs.Legal.{IsAllowed, IsLegal}
use Rattle.spg_rows.specs.States.{StateSays}
use Rattle.spg_rows.specs.Targets.{is_killed, killed_before, killed_from, is_target, TargetsAgree, KillsTell, SameTest, KillsStay}
use Rattle.spg_rows.proofs.RowOrder.{row_tells, same_row-refl}
use Rattle.spg_rows.proofs.Opened.{opened_cases, vacuum_before}
use Rattle.spg_rows.proofs.Histories.{sane_from_legal, live_says, present_says, unclaimed_says}
use Rattle.spg_rows.proofs.Vacuums.{was_open}

-- ---- what a state says

pub killed_state : (n : ℕ) (state : RowState) → killed_before n state ≡ true → (at : ℕ) × (state ≡ Killed at) × (at < n)
killed_state n Free h = absurd (false≢true h)
killed_state n Claimed h = absurd (false≢true h)
killed_state n Live h = absurd (false≢true h)
killed_state n (Killed at) h = (at, refl, ltb-true at n h)
killed_state n (Swept u) h = absurd (false≢true h)

killed_present : {Key : Type 0} (at : ℕ) (ls : List (Life Key)) → StateSays (Killed at) ls → (present_in ls ≡ true) × (kill_in ls ≡ Some at)
killed_present at [] says = absurd says
killed_present at (l ∷ ls) (put, says) = (rw (says.put, says.sweep) refl, says.kill)

-- the state is none of a killed row
abbrev IsUnkilled : RowState → Type 0
IsUnkilled state = (is_killed state ≡ false) × ((n : ℕ) → killed_before n state ≡ false) × ((n : ℕ) → killed_from n state ≡ false)

-- a kill stands before position n
is_early : (n : ℕ) (state : RowState) → ((at : ℕ) → state ≡ Killed at → at < n) → (is_killed state ≡ killed_before n state) × (killed_from n state ≡ false)
is_early n Free h = (refl, refl)
is_early n Claimed h = (refl, refl)
is_early n Live h = (refl, refl)
is_early n (Killed at) h = (sym (lt-ltb at n (h at refl)), lt-leb n at (h at refl))
is_early n (Swept u) h = (refl, refl)

both_false : (a b : Bool) → (a || b) ≡ false → (a ≡ false) × (b ≡ false)
both_false true b h = absurd (false≢true (sym h))
both_false false b h = (refl, h)

killed_low : {Key : Type 0} (n at : ℕ) (ls : List (Life Key)) → StateSays (Killed at) ls → ((life : Life Key) → IsOneOf life ls → (k : ℕ) → life.kill ≡ Some k → k < n) → at < n
killed_low n at [] says sound = absurd says
killed_low n at (l ∷ ls) (put, says) sound = sound l (inl refl) at says.kill

unless : (b : Bool) (next state : RowState) (n : ℕ) → killed_before n next ≡ false → killed_before n (cond b next state) ≡ true → killed_before n state ≡ true
unless true next state n none h = absurd (false≢true (sym none ∙ h))
unless false next state n none h = h

module _ {O Key Recon Cond : Type 0} where
  pub targets_agree : TargetsAgree O Key Recon Cond
  targets_agree before past r legal = (
    λ h. let (at, is, low) = killed_state (length before) (state_of r past) h in
        let (here, killed) = killed_present at (lives r past) (subst (λ x. StateSays x (lives r past)) is (says r)) in
        (here, (at, killed, low)),
    λ (here, (at, killed, low)). ap (killed_before (length before)) (present_says (state_of r past) (lives r past) at (says r) here killed) ∙ lt-ltb at (length before) low,
  )
    where
      says : (r : RowAt) → StateSays (state_of r past) (lives r past)
      says = (sane_from_legal past legal).says

  -- ---- one more event

  -- the row is as it was; or it is not killed, and in no set
  abbrev IsRowOf : Event O Key Recon Cond → History O Key Recon Cond → (RowAt → Bool) → (RowAt → Bool) → (RowAt → Bool) → (RowAt → Bool) → RowAt → Type 0
  IsRowOf e past t l t2 l2 r = ((state_of r (e ∷ past) ≡ state_of r past) × (t2 r ≡ t r) × (l2 r ≡ l r)) ⊎ (IsUnkilled (state_of r (e ∷ past)) × (t2 r ≡ false) × (l2 r ≡ false))

  kills_by : (e : Event O Key Recon Cond) (past : History O Key Recon Cond) (t l t2 l2 : RowAt → Bool) → KillsTell past t l → ((s : ℕ) (before : History O Key Recon Cond) → open_of s (e ∷ past) ≡ vacuuming before → open_of s past ≡ vacuuming before) → ((r : RowAt) → IsRowOf e past t l t2 l2 r) → KillsTell (e ∷ past) t2 l2
  kills_by e past t l t2 l2 K was rows = record {
    killed = λ r. elim (rows r) [
      | inl (a, b, c) ↦ ap₂ (λ x y. x || y) b c ∙ K.killed r ∙ ap is_killed (sym a)
      | inr (n, b, c) ↦ ap₂ (λ x y. x || y) b c ∙ sym n.0
    ];
    early = λ s before h r. elim (rows r) [
      | inl (a, b, c) ↦ b ∙ K.early s before (was s before h) r ∙ ap (killed_before (length before)) (sym a)
      | inr (n, b, c) ↦ b ∙ sym (n.1 (length before))
    ];
    late = λ s before h r. elim (rows r) [
      | inl (a, b, c) ↦ c ∙ K.late s before (was s before h) r ∙ ap (killed_from (length before)) (sym a)
      | inr (n, b, c) ↦ c ∙ sym (n.2 (length before))
    ];
  }

  -- a row that is not killed is in no set
  in_none : (past : History O Key Recon Cond) (t l : RowAt → Bool) → KillsTell past t l → (r : RowAt) (state : RowState) → state_of r past ≡ state → is_killed state ≡ false → (t r ≡ false) × (l r ≡ false)
  in_none past t l K r state is n = both_false (t r) (l r) (K.killed r ∙ ap is_killed is ∙ n)

  -- the row of an event that is not killed then, and was in no set
  gone : (row r : RowAt) (e : Event O Key Recon Cond) (past : History O Key Recon Cond) (t l t2 l2 : RowAt → Bool) (next : RowState) → ((r : RowAt) → state_of r (e ∷ past) ≡ cond (same_row row r) next (state_of r past)) → IsUnkilled next → (row ≡ r → (t2 r ≡ false) × (l2 r ≡ false)) → ((same_row row r ≡ false) → (t2 r ≡ t r) × (l2 r ≡ l r)) → IsRowOf e past t l t2 l2 r
  gone row r e past t l t2 l2 next state n here other = elim (row_tells row r) [
    | inl same ↦
        let (a, b) = here same.1 in
        inr (subst IsUnkilled (sym (state r ∙ ap (λ x. cond x next (state_of r past)) same.0)) n, a, b)
    | inr apart ↦ let (a, b) = other apart in inl (state r ∙ ap (λ x. cond x next (state_of r past)) apart, a, b)
  ]

  -- its sets stay
  gone_same : (row r : RowAt) (e : Event O Key Recon Cond) (past : History O Key Recon Cond) (t l t2 l2 : RowAt → Bool) (next was : RowState) → KillsTell past t l → SameTest t t2 → SameTest l l2 → ((r : RowAt) → state_of r (e ∷ past) ≡ cond (same_row row r) next (state_of r past)) → IsUnkilled next → state_of row past ≡ was → is_killed was ≡ false → IsRowOf e past t l t2 l2 r
  gone_same row r e past t l t2 l2 next was K st sl state n is un = gone row r e past t l t2 l2 next state n
      (λ q. let (a, b) = in_none past t l K row was is un in (st r ∙ ap t (sym q) ∙ a, sl r ∙ ap l (sym q) ∙ b))
      (λ q. (st r, sl r))

  pub kills_stay : KillsStay O Key Recon Cond
  kills_stay (OpenInsert seat row key) past t l t2 l2 legal allowed K (st, sl) = kills_by (OpenInsert seat row key) past t l t2 l2 K
      (λ s before h. was_open (OpenInsert seat row key) past before s (λ e. absurd (cc e)) h)
      (λ r. elim (unclaimed_says past (state_of row past) (lives row past) ((sane_from_legal past legal).says row) allowed.1) [
        | inl free ↦ gone_same row r (OpenInsert seat row key) past t l t2 l2 Claimed Free K st sl (λ x. refl) (refl, λ n. refl, λ n. refl) free refl
        | inr (u, swept) ↦ gone_same row r (OpenInsert seat row key) past t l t2 l2 Claimed (Swept u) K st sl (λ x. refl) (refl, λ n. refl, λ n. refl) swept refl
      ])
  kills_stay (Put seat row) past t l t2 l2 legal allowed K (st, sl) = kills_by (Put seat row) past t l t2 l2 K
      (λ s before h. was_open (Put seat row) past before s (λ e. absurd (cc e)) h)
      (λ r. gone_same row r (Put seat row) past t l t2 l2 Live Claimed K st sl (λ x. refl) (refl, λ n. refl, λ n. refl) ((sane_from_legal past legal).inserts seat row allowed.0 allowed.1).state refl)
  kills_stay (Drop seat row why) past t l t2 l2 legal allowed K (st, sl) = kills_by (Drop seat row why) past t l t2 l2 K
      (λ s before h. was_open (Drop seat row why) past before s (λ e. absurd (cc e)) h)
      (λ r. gone_same row r (Drop seat row why) past t l t2 l2 Free Claimed K st sl (λ x. refl) (refl, λ n. refl, λ n. refl) ((sane_from_legal past legal).inserts seat row allowed.0 allowed.1).state refl)
  kills_stay (Kill seat row) past t l t2 l2 legal allowed K (st, put) = record {
    killed = λ r. elim (row_tells row r) [
      | inl same ↦ ap₂ (λ x y. x || y) (st r) (put r ∙ ap (λ b. cond b true (l r)) same.0) ∙ or-true (t r) ∙ sym (ap (λ b. is_killed (cond b (Killed (length past)) (state_of r past))) same.0)
      | inr apart ↦ ap₂ (λ x y. x || y) (st r) (put r ∙ ap (λ b. cond b true (l r)) apart) ∙ K.killed r ∙ sym (ap (λ b. is_killed (cond b (Killed (length past)) (state_of r past))) apart)
    ];
    early = λ s before h r.
        let had = was s before h in
        let low : length before ≤ length past = (let a = vacuum_before past before s had in omega arith) in
        elim (row_tells row r) [
          | inl same ↦ st r ∙ (in_none past t l K r Live (live r same.1) refl).0 ∙ sym (le-ltb (length past) (length before) low) ∙ sym (ap (λ b. killed_before (length before) (cond b (Killed (length past)) (state_of r past))) same.0)
          | inr apart ↦ st r ∙ K.early s before had r ∙ sym (ap (λ b. killed_before (length before) (cond b (Killed (length past)) (state_of r past))) apart)
        ];
    late = λ s before h r.
        let had = was s before h in
        let low : length before ≤ length past = (let a = vacuum_before past before s had in omega arith) in
        elim (row_tells row r) [
          | inl same ↦ put r ∙ ap (λ b. cond b true (l r)) same.0 ∙ sym (le-leb (length before) (length past) low) ∙ sym (ap (λ b. killed_from (length before) (cond b (Killed (length past)) (state_of r past))) same.0)
          | inr apart ↦ put r ∙ ap (λ b. cond b true (l r)) apart ∙ K.late s before had r ∙ sym (ap (λ b. killed_from (length before) (cond b (Killed (length past)) (state_of r past))) apart)
        ];
  }
    where
      was : (s : ℕ) (before : History O Key Recon Cond) → open_of s (Kill seat row ∷ past) ≡ vacuuming before → open_of s past ≡ vacuuming before
      was s before h = was_open (Kill seat row) past before s (λ e. e) h

      live : (r : RowAt) → row ≡ r → state_of r past ≡ Live
      live r q = ap (λ x. state_of x past) (sym q) ∙ live_says (state_of row past) (lives row past) ((sane_from_legal past legal).says row) allowed.1
  kills_stay (OpenScan seat query) past t l t2 l2 legal allowed K (st, sl) = kills_by (OpenScan seat query) past t l t2 l2 K (λ s before h. was_open (OpenScan seat query) past before s (λ e. absurd (cc e)) h) (λ r. inl (refl, st r, sl r))
  kills_stay (CloseScan seat rows) past t l t2 l2 legal allowed K (st, sl) = kills_by (CloseScan seat rows) past t l t2 l2 K (λ s before h. was_open (CloseScan seat rows) past before s (λ e. absurd (cc e)) h) (λ r. inl (refl, st r, sl r))
  kills_stay (OpenVacuum seat) past t l t2 l2 legal allowed K (all, none) = record {
    killed = λ r. ap₂ (λ x y. x || y) (all r) (none r) ∙ or-false (t r || l r) ∙ K.killed r;
    early = λ s before h r. all r ∙ K.killed r ∙ (stands r).0 ∙ ap (λ (b : History O Key Recon Cond). killed_before (length b) (state_of r past)) (now s before h);
    late = λ s before h r. none r ∙ sym (stands r).1 ∙ ap (λ (b : History O Key Recon Cond). killed_from (length b) (state_of r past)) (now s before h);
  }
    where
      now : (s : ℕ) (before : History O Key Recon Cond) → open_of s (OpenVacuum seat ∷ past) ≡ vacuuming before → past ≡ before
      now s before h = elim (opened_cases (OpenVacuum seat) past s) [
        | inl same ↦ let e : vacuuming past ≡ vacuuming before = sym same.1 ∙ h in cc e
        | inr other ↦ absurd (allowed.1 s before (sym other.1 ∙ h))
      ]

      stands : (r : RowAt) → (is_killed (state_of r past) ≡ killed_before (length past) (state_of r past)) × (killed_from (length past) (state_of r past) ≡ false)
      stands r = is_early (length past) (state_of r past) (λ at is. killed_low (length past) at (lives r past) (subst (λ x. StateSays x (lives r past)) is ((sane_from_legal past legal).says r)) (λ life h. ((sane_from_legal past legal).sound r life h).kill))
  kills_stay (Sweep seat row) past t l t2 l2 legal allowed K (less, sl) = kills_by (Sweep seat row) past t l t2 l2 K
      (λ s before h. was_open (Sweep seat row) past before s (λ e. e) h)
      (λ r. let (before, has, present, (at, killed, low)) = allowed in
      let was : state_of row past ≡ Killed at = present_says (state_of row past) (lives row past) at ((sane_from_legal past legal).says row) present killed in
      gone row r (Sweep seat row) past t l t2 l2 (Swept (vacuum_from (open_of seat past))) (λ x. refl) (refl, λ n. refl, λ n. refl)
      (λ q. (less r ∙ ap (λ x. cond (same_row row x) false (t r)) (sym q) ∙ ap (λ b. cond b false (t r)) (same_row-refl row), sl r ∙ ap l (sym q) ∙ K.late seat before has row ∙ ap (killed_from (length before)) was ∙ lt-leb (length before) at low))
      (λ q. (less r ∙ ap (λ b. cond b false (t r)) q, sl r)))
  kills_stay (CloseVacuum seat swept) past t l t2 l2 legal allowed K (st, sl) = kills_by (CloseVacuum seat swept) past t l t2 l2 K (λ s before h. was_open (CloseVacuum seat swept) past before s (λ e. absurd (cc e)) h) (λ r. inl (refl, st r, sl r))
  kills_stay (Leave seat) past t l t2 l2 legal allowed K (st, sl) = kills_by (Leave seat) past t l t2 l2 K (λ s before h. was_open (Leave seat) past before s (λ e. absurd (cc e)) h) (λ r. inl (refl, st r, sl r))

  -- ---- as sections of other seats use it

  -- a target after an event was one before
  target_before : (e : Event O Key Recon Cond) (before past : History O Key Recon Cond) → length before ≤ length past → (r : RowAt) → is_target before (e ∷ past) r ≡ true → is_target before past r ≡ true
  target_before (OpenInsert seat row key) before past later r h = unless (same_row row r) Claimed (state_of r past) (length before) refl h
  target_before (Put seat row) before past later r h = unless (same_row row r) Live (state_of r past) (length before) refl h
  target_before (Drop seat row why) before past later r h = unless (same_row row r) Free (state_of r past) (length before) refl h
  target_before (Kill seat row) before past later r h = unless (same_row row r) (Killed (length past)) (state_of r past) (length before) (le-ltb (length past) (length before) later) h
  target_before (OpenScan seat query) before past later r h = h
  target_before (CloseScan seat rows) before past later r h = h
  target_before (OpenVacuum seat) before past later r h = h
  target_before (Sweep seat row) before past later r h = unless (same_row row r) (Swept (vacuum_from (open_of seat past))) (state_of r past) (length before) refl h
  target_before (CloseVacuum seat swept) before past later r h = h
  target_before (Leave seat) before past later r h = h

  longer : (es past before : History O Key Recon Cond) → length before ≤ length past → length before ≤ length (es ++ past)
  longer [] past before later = later
  longer (e ∷ es) past before later = let a = longer es past before later in omega arith

  pub target_was : (es before past : History O Key Recon Cond) → length before ≤ length past → (r : RowAt) → is_target before (es ++ past) r ≡ true → is_target before past r ≡ true
  target_was [] before past later r h = h
  target_was (e ∷ es) before past later r h = target_was es before past later r (target_before e before (es ++ past) (longer es past before later) r h)

  -- the row of an open insert is none
  pub inserted_none : (before past : History O Key Recon Cond) → IsLegal past → (seat : ℕ) (row : RowAt) (key : Option Key) → open_of seat past ≡ inserting row key → is_target before past row ≡ false
  inserted_none before past legal seat row key has = ap (killed_before (length before)) ((sane_from_legal past legal).inserts seat row key has).state

  -- another seat sweeps nothing while a vacuum is open
  pub unswept_by : (e : Event O Key Recon Cond) (past : History O Key Recon Cond) → IsLegal past → IsAllowed past e → (other : ℕ) (before : History O Key Recon Cond) → open_of other past ≡ vacuuming before → (other ≡ seat_of e → ⊥) → sweep_count (e ∷ past) ≡ sweep_count past
  unswept_by (OpenInsert seat row key) past legal allowed other before has apart = refl
  unswept_by (Put seat row) past legal allowed other before has apart = refl
  unswept_by (Drop seat row why) past legal allowed other before has apart = refl
  unswept_by (Kill seat row) past legal allowed other before has apart = refl
  unswept_by (OpenScan seat query) past legal allowed other before has apart = refl
  unswept_by (CloseScan seat rows) past legal allowed other before has apart = refl
  unswept_by (OpenVacuum seat) past legal allowed other before has apart = refl
  unswept_by (Sweep seat row) past legal allowed other before has apart = absurd (apart ((sane_from_legal past legal).vacuum.alone other seat before allowed.0 has allowed.1))
  unswept_by (CloseVacuum seat swept) past legal allowed other before has apart = refl
  unswept_by (Leave seat) past legal allowed other before has apart = refl

  -- ---- sets that are the same

  pub kills_same : (past : History O Key Recon Cond) (t l t2 l2 : RowAt → Bool) → SameTest t t2 → SameTest l l2 → KillsTell past t l → KillsTell past t2 l2
  kills_same past t l t2 l2 st sl K = record {
    killed = λ r. ap₂ (λ x y. x || y) (st r) (sl r) ∙ K.killed r;
    early = λ s before h r. st r ∙ K.early s before h r;
    late = λ s before h r. sl r ∙ K.late s before h r;
  }
