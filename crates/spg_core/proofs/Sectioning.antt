-- What a section of a vacuum did, and how it is told.
use Rattle.std.proofs.Common.{◌≡◌, ◌≤◌, ◌<◌, ◌+◌, ◌*◌, inl, inr, ℕ, zero, suc, Bool, true, false, cond, List, [], ◌∷◌, ◌++◌, Option, Some, None, length, map, take, get_or, set, refl, sym, ap, ◌∙◌, subst, arith}
use Rattle.std.proofs.Math.Nat.{min-le_right}
use Rattle.std.proofs.lemmas.Bool.{cond_both}
use Rattle.std.proofs.lemmas.List.{take_more, append_assoc}
use Rattle.spg_base.specs.Row.{RowAt, same_row}
use Rattle.spg_opclass.specs.Meaning.{Meaning}
use Rattle.spg_forest.specs.View.{Place}
use Rattle.spg_forest.specs.Tuples.{Tuple, Inner, Live, Dead, Redirect, Placeholder}
use Rattle.spg_forest.specs.Sheets.{weight}
use Rattle.spg_forest.specs.Shape.{Shape}
use Rattle.spg_cover.specs.Swept.{targets_on}
use Rattle.spg_rows.specs.declared.event.Event.{Event}
use Rattle.spg_rows.specs.declared.event.Event.TheVariants.{Sweep}
use Rattle.spg_rows.specs.Count.{IsOnce}
use Rattle.spg_rows.specs.History.{History}
use Rattle.spg_rows.proofs.RowOrder.{row_tells}
use Rattle.spg_tree.specs.Table.{Table, sheets_of, tuples_at, sheet_at}
use Rattle.spg_vacuum.specs.declared.done.Done.{Done}
use Rattle.spg_vacuum.specs.declared.done.Done.TheVariants.{Swept}
use Rattle.spg_vacuum.specs.declared.done.Work.TheVariants as works
use Rattle.spg_vacuum.specs.declared.vacuum.Vacuum.{Vacuum}
use Rattle.spg_vacuum.specs.Listing.{first_place}
use Rattle.spg_vacuum.specs.Handled.{HandlesPlace}
use Rattle.spg_vacuum.specs.Vacuums.{work_at, work_of, BlockDone, FirstDone, KeepsVacuum}
use Rattle.spg_seats.specs.Slots.{Stage, stamp_of, least, horizon_of}
use Rattle.spg_seats.specs.Opening.{is_among, sweeps}
use Rattle.spg_core.specs.declared.answer.VacuumOut.{VacuumOut}
use Rattle.spg_core.specs.declared.answer.VacuumOut.TheVariants as outs
use Rattle.spg_core.specs.declared.slot.Slot.{Slot}
use Rattle.spg_core.specs.declared.slot.Slot.TheVariants as slots
use Rattle.spg_core.specs.Slot.{stage_of}
use Rattle.spg_core.specs.Sweeping.{DoesWork, KeepsWork, CanSweep, IsVacuumSlot, IsHorizonFor}

-- ---- no page has more than 408 leaves

targets_weigh : (test : RowAt → Bool) (ts : List Tuple) → 20 * length (targets_on test ts) ≤ weight ts
targets_weigh test [] = omega arith
targets_weigh test (Live l n ∷ ts) = cond_both (test l.row) (l.row ∷ targets_on test ts) (targets_on test ts) (λ (rs : List RowAt). 20 * length rs ≤ weight (Live l n ∷ ts))
    (λ q. let a = targets_weigh test ts in omega arith)
    (λ q. let a = targets_weigh test ts in omega arith)
targets_weigh test (Inner w ns ∷ ts) = let a = targets_weigh test ts in omega arith
targets_weigh test (Dead ∷ ts) = let a = targets_weigh test ts in omega arith
targets_weigh test (Redirect y u ∷ ts) = let a = targets_weigh test ts in omega arith
targets_weigh test (Placeholder ∷ ts) = let a = targets_weigh test ts in omega arith

module _ {Key Recon Cond : Type 0} (m : Meaning Key Recon Cond) (t : Table) (test : RowAt → Bool) (H : Shape m (sheets_of t)) where
  few_on : (b : ℕ) (rows : List RowAt) → rows ≡ targets_on test (tuples_at t b) → length rows ≤ 408
  few_on b rows e = let a = targets_weigh test (tuples_at t b) in let f = (H.pages.each b).fits in let g = ap (λ (rs : List RowAt). length rs) e in omega arith

  few_at : (inner : Bool) (t2 : Table) (p : Place) (horizon : ℕ) (rows : List RowAt) → HandlesPlace inner t t2 p test horizon rows → length rows ≤ 408
  few_at false t2 p horizon rows h = few_on p.block rows h.swept
  few_at true t2 p horizon rows (e, same) = let g = ap (λ (rs : List RowAt). length rs) e in omega arith

  module _ (v : Vacuum) (horizon seat : ℕ) where
    few_first : (todo : List Place) → v.pending.todo ≡ todo → (b : Bool) → work_at todo b ≡ works.Pending → (t2 : Table) (v2 : Vacuum) (rows : List RowAt) → FirstDone t t2 v v2 test horizon seat (Swept rows) → length rows ≤ 408
    few_first [] e true next t2 v2 rows F = absurd (cc next)
    few_first [] e false next t2 v2 rows F = absurd (cc next)
    few_first (p ∷ ps) e b next t2 v2 rows F = let (is_free, D, made) = F p (ap first_place e) in few_at (sheet_at t p.block).inner t2 p horizon rows D

    abbrev pub IsTold : Table → Vacuum → VacuumOut → List RowAt → Type 0
    IsTold t2 v2 out rows = DoesWork t t2 v v2 test horizon seat out rows × KeepsWork m t t2 v v2 test horizon out rows × (length rows ≤ 408)

    moved_to : (t1 t2 : Table) (v1 v2 : Vacuum) (out out2 : VacuumOut) (rows : List RowAt) → t2 ≡ t1 → v2 ≡ v1 → out2 ≡ out → IsTold t1 v1 out rows → IsTold t2 v2 out2 rows
    moved_to t1 t2 v1 v2 out out2 rows a b e h =
        subst (λ (x : Table). IsTold x v2 out2 rows) (sym a) (subst (λ (x : Vacuum). IsTold t1 x out2 rows) (sym b) (subst (λ (x : VacuumOut). IsTold t1 v1 x rows) (sym e) h))

    pub block_told : (t1 t2 : Table) (v1 v2 : Vacuum) (out : VacuumOut) (done : Done) (rows : List RowAt) → t2 ≡ t1 → v2 ≡ v1 → out ≡ outs.Block → done ≡ Swept rows → work_of v t ≡ works.Block → BlockDone t t1 v v1 test horizon seat done → KeepsVacuum m t t1 v1 test horizon done → IsTold t2 v2 out rows
    block_told t1 t2 v1 v2 out done rows a b e d next D K =
        let D2 : BlockDone t t1 v v1 test horizon seat (Swept rows) = subst (λ (x : Done). BlockDone t t1 v v1 test horizon seat x) d D in
        let K2 : KeepsVacuum m t t1 v1 test horizon (Swept rows) = subst (λ (x : Done). KeepsVacuum m t t1 v1 test horizon x) d K in
        moved_to t1 t2 v1 v2 outs.Block out rows a b e ((next, D2), K2, few_on v.next rows D2.1.swept)

    pub pending_told : (t1 t2 : Table) (v1 v2 : Vacuum) (out : VacuumOut) (done : Done) (rows : List RowAt) → t2 ≡ t1 → v2 ≡ v1 → out ≡ outs.Pending → done ≡ Swept rows → work_of v t ≡ works.Pending → FirstDone t t1 v v1 test horizon seat done → KeepsVacuum m t t1 v1 test horizon done → IsTold t2 v2 out rows
    pending_told t1 t2 v1 v2 out done rows a b e d next D K =
        let D2 : FirstDone t t1 v v1 test horizon seat (Swept rows) = subst (λ (x : Done). FirstDone t t1 v v1 test horizon seat x) d D in
        let K2 : KeepsVacuum m t t1 v1 test horizon (Swept rows) = subst (λ (x : Done). KeepsVacuum m t t1 v1 test horizon x) d K in
        moved_to t1 t2 v1 v2 outs.Pending out rows a b e ((next, D2), K2, few_first v.pending.todo refl _ next t1 v1 rows D2)

-- ---- rows told one after another

among_last : (xs : List RowAt) (x r : RowAt) → is_among (xs ++ x ∷ []) r ≡ cond (same_row x r) true (is_among xs r)
among_last [] x r = refl
among_last (y ∷ xs) x r = ap (λ b. cond (same_row y r) true b) (among_last xs x r) ∙ swap (same_row y r) (same_row x r) (is_among xs r)
  where
    swap : (a b c : Bool) → cond a true (cond b true c) ≡ cond b true (cond a true c)
    swap true true c = refl
    swap true false c = refl
    swap false b c = refl

sweeps_last : {O Key Recon Cond : Type 0} (seat : ℕ) (xs : List RowAt) (x : RowAt) → ◌≡◌ {A = History O Key Recon Cond} (sweeps seat (xs ++ x ∷ [])) (sweeps seat xs ++ Sweep seat x ∷ [])
sweeps_last seat [] x = refl
sweeps_last {O} {Key} {Recon} {Cond} seat (y ∷ xs) x = ap (λ (l : History O Key Recon Cond). Sweep seat y ∷ l) (sweeps_last seat xs x)

got : (ys : List RowAt) (k : ℕ) (d e : RowAt) → k < length ys → get_or ys k d ≡ get_or ys k e
got [] k d e h = absurd (omega arith)
got (y ∷ ys) zero d e h = refl
got (y ∷ ys) (suc k) d e h = got ys k d e (omega arith)

-- the rows before one are others
others_before : (xs : List RowAt) (i : ℕ) (d : RowAt) → IsOnce xs → i < length xs → is_among (take i xs) (get_or xs i d) ≡ false
others_before [] i d once h = absurd (omega arith)
others_before (x ∷ xs) zero d once h = refl
others_before (x ∷ xs) (suc i) d once h = elim (row_tells x (get_or xs i d)) [
  | inl same ↦ absurd (once.0 (i, omega arith, got xs i x d (omega arith) ∙ sym same.1))
  | inr other ↦ ap (λ b. cond b true (is_among (take i xs) (get_or xs i d))) other ∙ others_before xs i d once.1 (omega arith)
]

chosen : {A : Type 0} (b a : Bool) (x o : A) → cond b x (cond a x o) ≡ cond (cond b true a) x o
chosen true a x o = refl
chosen false a x o = refl

module _ (xs : List RowAt) (i : ℕ) (row : RowAt) (there : i < length xs) (is : row ≡ get_or xs i row) where
  one_more : take (i + 1) xs ≡ take i xs ++ row ∷ []
  one_more = take_more xs i row there ∙ ap (λ (y : RowAt). take i xs ++ y ∷ []) (sym is)

  pub not_yet : IsOnce xs → is_among (take i xs) row ≡ false
  not_yet once = ap (is_among (take i xs)) is ∙ others_before xs i row once there

  more_among : (r : RowAt) → is_among (take (i + 1) xs) r ≡ cond (same_row row r) true (is_among (take i xs) r)
  more_among r = ap (λ (ys : List RowAt). is_among ys r) one_more ∙ among_last (take i xs) row r

  -- what is so of the rows before, and of this one, is so of one more
  pub one_chosen : {A : Type 0} (x : A) (now was old : RowAt → A) → ((r : RowAt) → now r ≡ cond (same_row row r) x (was r)) → ((r : RowAt) → was r ≡ cond (is_among (take i xs) r) x (old r)) → (r : RowAt) → now r ≡ cond (is_among (take (i + 1) xs) r) x (old r)
  one_chosen x now was old h k r =
      h r ∙ ap (λ y. cond (same_row row r) x y) (k r) ∙ chosen (same_row row r) (is_among (take i xs) r) x (old r) ∙ ap (λ b. cond b x (old r)) (sym (more_among r))

  pub one_told : {O Key Recon Cond : Type 0} (seat : ℕ) (now was old : List (Event O Key Recon Cond)) → now ≡ was ++ Sweep seat row ∷ [] → was ≡ old ++ sweeps seat (take i xs) → now ≡ old ++ sweeps seat (take (i + 1) xs)
  one_told {O} {Key} {Recon} {Cond} seat now was old h k =
      h ∙ ap (λ (l : List (Event O Key Recon Cond)). l ++ Sweep seat row ∷ []) k ∙ append_assoc old (sweeps seat (take i xs)) (Sweep seat row ∷ [])
      ∙ sym (ap (λ (l : List (Event O Key Recon Cond)). old ++ l) (ap (λ (ys : List RowAt). sweeps seat ys) one_more ∙ sweeps_last seat (take i xs) row))

-- ---- a vacuum in a slot

least_under : (x : Option ℕ) (n : ℕ) → least x n ≤ n
least_under None n = omega arith
least_under (Some u) n = min-le_right u n

module _ {O Key Recon Cond : Type 0} where
  pub vacuum_of : (m : Meaning Key Recon Cond) (t : Table) (test : RowAt → Bool) (slot : Slot O Key Recon Cond) → CanSweep m t test slot → (v : Vacuum) × (slot ≡ slots.Vacuum v)
  vacuum_of m t test slots.Free h = absurd h
  vacuum_of m t test (slots.Insert key d) h = absurd h
  vacuum_of m t test (slots.Scan s) h = absurd h
  vacuum_of m t test (slots.Vacuum v) h = (v, refl)

  pub vacuum_slot : (m : Meaning Key Recon Cond) (t : Table) (test : RowAt → Bool) (slot : Slot O Key Recon Cond) → CanSweep m t test slot → IsVacuumSlot slot
  vacuum_slot m t test slots.Free h = absurd h
  vacuum_slot m t test (slots.Insert key d) h = absurd h
  vacuum_slot m t test (slots.Scan s) h = absurd h
  vacuum_slot m t test (slots.Vacuum v) h = tt

  pub horizon_under : (stages : List (Stage O Key Recon Cond)) (n : ℕ) → horizon_of stages n ≤ n
  horizon_under [] n = omega arith
  horizon_under (s ∷ stages) n = let a = least_under (stamp_of s) (horizon_of stages n) in let b = horizon_under stages n in omega arith

  -- the horizon that was found, where the slot is the vacuum's
  pub horizon_is : (now items : List (Slot O Key Recon Cond)) (seat horizon : ℕ) (v : Vacuum) → now ≡ items → get_or items seat slots.Free ≡ slots.Vacuum v → IsHorizonFor now (get_or now seat slots.Free) horizon → horizon ≡ horizon_of (map stage_of items) v.stamp
  horizon_is now items seat horizon v same here h =
      subst (λ (x : Slot O Key Recon Cond). IsHorizonFor items x horizon) here (subst (λ (xs : List (Slot O Key Recon Cond)). IsHorizonFor xs (get_or xs seat slots.Free) horizon) same h)

  itself : (xs : List (Slot O Key Recon Cond)) (i : ℕ) → set xs i (get_or xs i slots.Free) ≡ xs
  itself [] i = refl
  itself (x ∷ xs) zero = refl
  itself (x ∷ xs) (suc i) = ap (λ ys. x ∷ ys) (itself xs i)

  pub same_slot : (items : List (Slot O Key Recon Cond)) (at : ℕ) (v v2 : Vacuum) → get_or items at slots.Free ≡ slots.Vacuum v → v2 ≡ v → set items at (slots.Vacuum v2) ≡ items
  same_slot items at v v2 here same = ap (λ (x : Vacuum). set items at (slots.Vacuum x)) same ∙ ap (λ (x : Slot O Key Recon Cond). set items at x) (sym here) ∙ itself items at
