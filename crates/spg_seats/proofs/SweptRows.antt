-- What the sweeps of one section of a vacuum leave of rows.
use Rattle.std.proofs.Common.{◌≡◌, ◌↔◌, ◌≤◌, ◌<◌, ◌+◌, ◌⊎◌, ⊎_elim, inl, inr, ℕ, zero, suc, Bool, true, false, cond, ◌||◌, List, [], ◌∷◌, ◌++◌, length, reverse, Contains, refl, sym, ap, ap₂, ◌∙◌, subst, arith}
use Rattle.std.proofs.lemmas.Bool.{cases_Bool, lt-leb, false≢true}
use Rattle.std.proofs.lemmas.List.{reverse-append}
use Rattle.spg_base.specs.Row.{RowAt, same_row}
use Rattle.spg_opclass.specs.Meaning.{Meaning}
use Rattle.spg_forest.specs.Sheets.{Sheets}
use Rattle.spg_forest.specs.Section.{Takes, Cost}
use Rattle.spg_forest.specs.Steps.{HasRow}
use Rattle.spg_cover.specs.Swept.{NoneTwice}
use Rattle.spg_rows.specs.declared.event.Event.TheVariants.{OpenInsert, Put, Drop, Kill, OpenScan, CloseScan, OpenVacuum, Sweep, CloseVacuum, Leave}
use Rattle.spg_rows.specs.declared.table.RowState.TheVariants.{Killed, Swept}
use Rattle.spg_rows.specs.History.{History, vacuuming, open_of}
use Rattle.spg_rows.specs.Lives.{Life, swept_by, sweeper, last_on, lives, vacuum_from}
use Rattle.spg_rows.specs.Rows.{kill_in, key_of, kill_of, state_of, sweep_count}
use Rattle.spg_rows.specs.Legal.{IsLegal}
use Rattle.spg_rows.specs.Right.{AnswersRight}
use Rattle.spg_rows.specs.Scans.{IsTarget}
use Rattle.spg_rows.specs.Targets.{is_killed, killed_before, killed_from, KillsTell, SameTest}
use Rattle.spg_rows.specs.Vacuums.{vacuums}
use Rattle.spg_rows.proofs.RowOrder.{row_tells, same_row-refl}
use Rattle.spg_rows.proofs.Opened.{opened_cases}
use Rattle.spg_rows.proofs.Targets.{killed_state}
use Rattle.spg_scan.specs.Others.{AreOf}
use Rattle.spg_seats.specs.Slots.{opened_keys, key_when, kept_key}
use Rattle.spg_seats.specs.Opening.{sweeps, is_among}
use Rattle.spg_seats.proofs.Opening.{stays_present, swept_keys}

-- ---- the rows of a list

pub among_has : (xs : List RowAt) (r : RowAt) → is_among xs r ≡ true → HasRow xs r
among_has [] r h = absurd (false≢true h)
among_has (row ∷ xs) r h = elim (row_tells row r) [
  | inl same ↦ inl (sym same.1)
  | inr other ↦ inr (among_has xs r (sym (ap (λ b. cond b true (is_among xs r)) other) ∙ h))
]

pub has_among : (xs : List RowAt) (r : RowAt) → HasRow xs r → is_among xs r ≡ true
has_among [] r h = absurd h
has_among (row ∷ xs) r (inl e) = ap (λ b. cond b true (is_among xs r)) (ap (same_row row) e ∙ same_row-refl row)
has_among (row ∷ xs) r (inr h) = elim (row_tells row r) [
  | inl same ↦ ap (λ b. cond b true (is_among xs r)) same.0
  | inr other ↦ ap (λ b. cond b true (is_among xs r)) other ∙ has_among xs r h
]

pub has_contains : (xs : List RowAt) (r : RowAt) → HasRow xs r → Contains xs r
has_contains [] r h = absurd h
has_contains (row ∷ xs) r (inl e) = (0, omega arith, sym e)
has_contains (row ∷ xs) r (inr h) = let (k, a, b) = has_contains xs r h in (suc k, omega arith, b)

pub contains_has : (xs : List RowAt) (r : RowAt) → Contains xs r → HasRow xs r
contains_has [] r (k, h, e) = absurd (omega arith)
contains_has (row ∷ xs) r (zero, h, e) = inl (sym e)
contains_has (row ∷ xs) r (suc k, h, e) = inr (contains_has xs r (k, omega arith, e))

has_back : (xs ys : List RowAt) (r : RowAt) → HasRow (xs ++ ys) r → HasRow xs r ⊎ HasRow ys r
has_back [] ys r h = inr h
has_back (x ∷ xs) ys r (inl e) = inl (inl e)
has_back (x ∷ xs) ys r (inr h) = ⊎_elim (λ a. inl (inr a)) (λ a. inr a) (has_back xs ys r h)

has_front : (xs ys : List RowAt) (r : RowAt) → HasRow xs r → HasRow (xs ++ ys) r
has_front [] ys r h = absurd h
has_front (x ∷ xs) ys r (inl e) = inl e
has_front (x ∷ xs) ys r (inr h) = inr (has_front xs ys r h)

has_end : (xs ys : List RowAt) (r : RowAt) → HasRow ys r → HasRow (xs ++ ys) r
has_end [] ys r h = h
has_end (x ∷ xs) ys r h = inr (has_end xs ys r h)

turned : (x : RowAt) (xs : List RowAt) → reverse (x ∷ xs) ≡ reverse xs ++ x ∷ []
turned x xs = reverse-append (x ∷ []) xs

pub has_turned : (xs : List RowAt) (r : RowAt) → HasRow (reverse xs) r ↔ HasRow xs r
has_turned [] r = (λ h. h, λ h. h)
has_turned (x ∷ xs) r = (
  λ h. ⊎_elim (λ a. inr ((has_turned xs r).0 a)) (λ a. ⊎_elim (λ e. inl e) (λ f. absurd f) a) (has_back (reverse xs) (x ∷ []) r (subst (λ (ys : List RowAt). HasRow ys r) (turned x xs) h)),
  λ h. subst (λ (ys : List RowAt). HasRow ys r) (sym (turned x xs)) (⊎_elim (λ e. has_end (reverse xs) (x ∷ []) r (inl e)) (λ a. has_front (reverse xs) (x ∷ []) r ((has_turned xs r).1 a)) h),
)

once_more : (xs : List RowAt) (x : RowAt) → NoneTwice xs → (HasRow xs x → ⊥) → NoneTwice (xs ++ x ∷ [])
once_more [] x once none = (λ h. h, tt)
once_more (y ∷ xs) x once none = (
  λ h. ⊎_elim (λ a. once.0 a) (λ a. ⊎_elim (λ e. none (inl (sym e))) (λ f. f) a) (has_back xs (x ∷ []) y h),
  once_more xs x once.1 (λ h. none (inr h)),
)

pub once_turned : (xs : List RowAt) → NoneTwice xs → NoneTwice (reverse xs)
once_turned [] once = tt
once_turned (x ∷ xs) once = subst NoneTwice (sym (turned x xs)) (once_more (reverse xs) x (once_turned xs once.1) (λ h. once.0 ((has_turned xs x).0 h)))

-- ---- rows that are taken away, told otherwise

pub takes_as : {Key Recon Cond : Type 0} (m : Meaning Key Recon Cond) (S S2 : Sheets) (touched : List ℕ) (cost : Cost) (since : ℕ) (P Q : RowAt → Type 0) → ((r : RowAt) → P r → Q r) → ((r : RowAt) → Q r → P r) → Takes m S S2 touched cost since P → Takes m S S2 touched cost since Q
takes_as m S S2 touched cost since P Q to from T = record {
  section = record {
    shape = T.section.shape;
    stable = λ s a b. let U = T.section.stable s a b in record {
      redirects = U.redirects;
      targets = U.targets;
      recon = U.recon;
      rows = λ x t row g u. ⊎_elim (λ p. inl (to row p)) (λ q. inr q) (U.rows x t row g u);
      rows_back = λ x t row g u. ⊎_elim (λ p. inl p) (λ q. inr (q.0, λ h. q.1 (from row h))) (U.rows_back x t row g u);
      below = U.below;
      apart = U.apart;
    };
    fits = T.section.fits;
    within = T.section.within;
    redirects = T.section.redirects;
    kinds = T.section.kinds;
  };
  entries = λ row key. (
    λ h. let (a, n) = (T.entries row key).0 h in (a, λ q. n (from row q)),
    λ h. (T.entries row key).1 (h.0, λ p. h.1 (to row p)),
  );
}

-- ---- the sweeps as events

pub sweeps_of : (O Key Recon Cond : Type 0) (seat : ℕ) (xs : List RowAt) → AreOf {O = O} {Key = Key} {Recon = Recon} {Cond = Cond} seat (sweeps seat xs)
sweeps_of O Key Recon Cond seat [] = tt
sweeps_of O Key Recon Cond seat (x ∷ xs) = (refl, sweeps_of O Key Recon Cond seat xs)

-- there are no more sweeps than events
pub sweeps_few : {O Key Recon Cond : Type 0} (past : History O Key Recon Cond) → sweep_count past ≤ length past
sweeps_few [] = omega arith
sweeps_few (OpenInsert s row key ∷ past) = let e = sweeps_few past in omega arith
sweeps_few (Put s row ∷ past) = let e = sweeps_few past in omega arith
sweeps_few (Drop s row why ∷ past) = let e = sweeps_few past in omega arith
sweeps_few (Kill s row ∷ past) = let e = sweeps_few past in omega arith
sweeps_few (OpenScan s query ∷ past) = let e = sweeps_few past in omega arith
sweeps_few (CloseScan s answer ∷ past) = let e = sweeps_few past in omega arith
sweeps_few (OpenVacuum s ∷ past) = let e = sweeps_few past in omega arith
sweeps_few (Sweep s row ∷ past) = let e = sweeps_few past in omega arith
sweeps_few (CloseVacuum s swept ∷ past) = let e = sweeps_few past in omega arith
sweeps_few (Leave s ∷ past) = let e = sweeps_few past in omega arith

module _ {O Key Recon Cond : Type 0} (seat : ℕ) where
  joined : (xs ys : List RowAt) → ◌≡◌ {A = History O Key Recon Cond} (sweeps seat (xs ++ ys)) (sweeps seat xs ++ sweeps seat ys)
  joined [] ys = refl
  joined (x ∷ xs) ys = ap (λ (l : History O Key Recon Cond). Sweep seat x ∷ l) (joined xs ys)

  pub sweeps_turned : (xs : List RowAt) → ◌≡◌ {A = History O Key Recon Cond} (reverse (sweeps seat xs)) (sweeps seat (reverse xs))
  sweeps_turned [] = refl
  sweeps_turned (x ∷ xs) =
      reverse-append (Sweep seat x ∷ []) (sweeps seat xs)
      ∙ ap (λ (l : History O Key Recon Cond). l ++ Sweep seat x ∷ []) (sweeps_turned xs)
      ∙ sym (joined (reverse xs) (x ∷ []))
      ∙ sym (ap (λ (ys : List RowAt). sweeps seat ys) (turned x xs))

  module _ (past : History O Key Recon Cond) where
    pub sweeps_open : (xs : List RowAt) (other : ℕ) → open_of other (sweeps seat xs ++ past) ≡ open_of other past
    sweeps_open [] other = refl
    sweeps_open (x ∷ xs) other = elim (opened_cases (Sweep seat x) (sweeps seat xs ++ past) other) [
      | inl same ↦ same.1 ∙ ap (λ n. open_of n (sweeps seat xs ++ past)) (sym same.0) ∙ sweeps_open xs other
      | inr apart ↦ apart.1 ∙ sweeps_open xs other
    ]

    pub sweeps_state : (xs : List RowAt) (r : RowAt) → state_of r (sweeps seat xs ++ past) ≡ cond (is_among xs r) (Swept (vacuum_from (open_of seat past))) (state_of r past)
    sweeps_state [] r = refl
    sweeps_state (x ∷ xs) r = elim (row_tells x r) [
      | inl same ↦
          ap (λ b. cond b (Swept (vacuum_from (open_of seat (sweeps seat xs ++ past)))) (state_of r (sweeps seat xs ++ past))) same.0
          ∙ ap (λ o. Swept (vacuum_from o)) (sweeps_open xs seat)
          ∙ sym (ap (λ b. cond (cond b true (is_among xs r)) (Swept (vacuum_from (open_of seat past))) (state_of r past)) same.0)
      | inr other ↦
          ap (λ b. cond b (Swept (vacuum_from (open_of seat (sweeps seat xs ++ past)))) (state_of r (sweeps seat xs ++ past))) other
          ∙ sweeps_state xs r
          ∙ sym (ap (λ b. cond (cond b true (is_among xs r)) (Swept (vacuum_from (open_of seat past))) (state_of r past)) other)
    ]

    pub sweeps_counted : (xs : List RowAt) → sweep_count (sweeps seat xs ++ past) ≡ sweep_count past + length xs
    sweeps_counted [] = omega arith
    sweeps_counted (x ∷ xs) = let e = sweeps_counted xs in omega arith

    sweeps_kill : (xs : List RowAt) (r : RowAt) → kill_of r (sweeps seat xs ++ past) ≡ kill_of r past
    sweeps_kill [] r = refl
    sweeps_kill (x ∷ xs) r = one (same_row x r) (lives r (sweeps seat xs ++ past)) ∙ sweeps_kill xs r
      where
        one : (b : Bool) (ls : List (Life Key)) → kill_in (cond b (last_on (swept_by (sweeper seat (sweeps seat xs ++ past))) ls) ls) ≡ kill_in ls
        one false ls = refl
        one true [] = refl
        one true (l ∷ ls) = refl

    pub sweeps_keys : (xs : List RowAt) → opened_keys (sweeps seat xs ++ past) ≡ opened_keys past
    sweeps_keys [] = refl
    sweeps_keys (x ∷ xs) = sweeps_keys xs

    pub sweeps_vacuums : (xs : List RowAt) → vacuums (sweeps seat xs ++ past) ≡ vacuums past
    sweeps_vacuums [] = refl
    sweeps_vacuums (x ∷ xs) = sweeps_vacuums xs

    pub sweeps_answer : (m : Meaning Key Recon Cond) (xs : List RowAt) → AnswersRight m past → AnswersRight m (sweeps seat xs ++ past)
    sweeps_answer m [] right = right
    sweeps_answer m (x ∷ xs) right = (tt, sweeps_answer m xs right)

    -- they are allowed where each row is a target, and none comes twice
    pub sweeps_legal : (m : Meaning Key Recon Cond) (before : History O Key Recon Cond) (xs : List RowAt) → open_of seat past ≡ vacuuming before → IsLegal past → NoneTwice xs → ((r : RowAt) → HasRow xs r → IsTarget before past r) → IsLegal (sweeps seat xs ++ past)
    sweeps_legal m before [] has legal once targets = legal
    sweeps_legal m before (x ∷ xs) has legal once targets =
        let (present, (at, killed, low)) = targets x (inl refl) in (
          (before, sweeps_open xs seat ∙ has, stays_present m seat xs past x (λ h. once.0 (contains_has xs x h)) ∙ present, (at, sweeps_kill xs x ∙ killed, low)),
          sweeps_legal m before xs has legal once.1 (λ r h. targets r (inr h)),
        )

    module _ (before : History O Key Recon Cond) (xs : List RowAt) (has : open_of seat past ≡ vacuuming before) (t l t2 l2 : RowAt → Bool) (K : KillsTell past t l) (targets : (r : RowAt) → HasRow xs r → t r ≡ true) where
      -- a row that is swept was killed before
      pub was_killed : (r : RowAt) → is_among xs r ≡ true → (at : ℕ) × (state_of r past ≡ Killed at) × (at < length before)
      was_killed r e = killed_state (length before) (state_of r past) (sym (K.early seat before has r) ∙ targets r (among_has xs r e))

      not_later : (r : RowAt) → is_among xs r ≡ true → l r ≡ false
      not_later r e = let (at, is, low) = was_killed r e in K.late seat before has r ∙ ap (killed_from (length before)) is ∙ lt-leb (length before) at low

      new_state : (r : RowAt) (b : Bool) → is_among xs r ≡ b → state_of r (sweeps seat xs ++ past) ≡ cond b (Swept (vacuum_from (open_of seat past))) (state_of r past)
      new_state r b e = sweeps_state xs r ∙ ap (λ k. cond k (Swept (vacuum_from (open_of seat past))) (state_of r past)) e

      pub sweeps_tell : ((r : RowAt) → t2 r ≡ cond (is_among xs r) false (t r)) → SameTest l l2 → KillsTell (sweeps seat xs ++ past) t2 l2
      sweeps_tell less sl = record {
        killed = λ r. ⊎_elim
            (λ e. ap₂ (λ x y. x || y) (less r ∙ ap (λ k. cond k false (t r)) e) (sl r ∙ not_later r e) ∙ sym (ap is_killed (new_state r true e)))
            (λ e. ap₂ (λ x y. x || y) (less r ∙ ap (λ k. cond k false (t r)) e) (sl r) ∙ K.killed r ∙ sym (ap is_killed (new_state r false e)))
            (cases_Bool (is_among xs r));
        early = λ s b h r. ⊎_elim
            (λ e. less r ∙ ap (λ k. cond k false (t r)) e ∙ sym (ap (killed_before (length b)) (new_state r true e)))
            (λ e. less r ∙ ap (λ k. cond k false (t r)) e ∙ K.early s b (sym (sweeps_open xs s) ∙ h) r ∙ sym (ap (killed_before (length b)) (new_state r false e)))
            (cases_Bool (is_among xs r));
        late = λ s b h r. ⊎_elim
            (λ e. sl r ∙ not_later r e ∙ sym (ap (killed_from (length b)) (new_state r true e)))
            (λ e. sl r ∙ K.late s b (sym (sweeps_open xs s) ∙ h) r ∙ sym (ap (killed_from (length b)) (new_state r false e)))
            (cases_Bool (is_among xs r));
      }

      -- the key of each row is kept
      pub sweeps_kept : (m : Meaning Key Recon Cond) (r : RowAt) → kept_key r past ≡ kept_key r (sweeps seat xs ++ past)
      sweeps_kept m r = ⊎_elim
          (λ e. let (at, is, low) = was_killed r e in ap (λ x. key_when x (key_of r past)) is ∙ sym (swept_keys m seat xs past r) ∙ sym (ap (λ x. key_when x (key_of r (sweeps seat xs ++ past))) (new_state r true e)))
          (λ e. ap (key_when (state_of r past)) (sym (swept_keys m seat xs past r)) ∙ sym (ap (λ x. key_when x (key_of r (sweeps seat xs ++ past))) (new_state r false e)))
          (cases_Bool (is_among xs r))
