-- The steps of a queue one after another, and the scan of a find.
use Rattle.std.proofs.Common.{◌≡◌, ◌≢◌, ◌<◌, ◌≤◌, ⊎_elim, ℕ, List, [], ◌∷◌, Option, Some, None, length, drop, get_or, get_or-set_same, get_or-set_other, refl, sym, ap, ◌∙◌, subst, arith}
use Rattle.std.specs.Prelude.{slice_index_or}
use Rattle.std.proofs.lemmas.Bool.{cases_eq}
use Rattle.std.proofs.lemmas.List.{set-set}
use Rattle.spg_follow.specs.Events.{OpensFirst}
use Rattle.spg_opclass.specs.Meaning.{Meaning}
use Rattle.spg_opclass.specs.declared.query.Query.{Query}
use Rattle.spg_rows.specs.declared.event.Event.{Event}
use Rattle.spg_rows.specs.Right.{ScanRight}
use Rattle.spg_tree.specs.Table.{IsSound}
use Rattle.spg_calls.specs.Calls.{past_at}
use Rattle.spg_scan.specs.declared.walk.Closed.{Closed}
use Rattle.spg_scan.specs.Scanning.{Scanning, opened}
use Rattle.spg_core.specs.Seen.{Seen}
use Rattle.spg_follow.specs.Step.{Step}
use Rattle.spg_standby.specs.declared.follower.ApplyOut.TheVariants.{Applied, Held}
use Rattle.spg_standby.specs.Slots.{SlotReads}
use Rattle.spg_standby.specs.Standing.{Standing, StandsAt, SlotCloses, SlotHolds, IsHolder, StillStands, AppliesOut, ReadsAt, IsReadIn, scan_at, with_scan, held_in}
use Rattle.spg_standby.specs.Pair.{IsPaired}
use Rattle.spg_standby.specs.Finding.{IsIdle, IsBehind, Offers, ScansFrom, IsOpenIn, ReadsOn, Finishes}
use Rattle.spg_standby.proofs.Standings.{set_cases}
use Rattle.spg_standby.proofs.Pairs.{pair_applies, pair_scans, pair_lags}

-- where no scan is open, none holds a step back
pub none_holds : {O Key Recon Cond : Type 0} (journal : List (Event O Key Recon Cond)) (standby : Standing O Key Recon Cond) (step : Step) → IsIdle standby → IsHolder journal standby step None
none_holds journal standby step idle = λ seat holds. subst (λ (s : Option (Scanning _ _ _ _)). SlotHolds journal standby.table standby.applied step s) (idle seat) holds

none_held : {A : Type 0} (items : List A) → length items ≡ 0 → items ≡ []
none_held [] h = refl
none_held (x ∷ items) h = absurd (omega arith)

headed : (steps : List Step) (step : Step) → 0 < length steps → step ≡ slice_index_or steps 0 step → steps ≡ step ∷ drop 1 steps
headed [] step some e = absurd (omega arith)
headed (x ∷ steps) step some e = ap (λ (s : Step). s ∷ steps) (sym e)

module _ {O Key Recon Cond : Type 0} (m : Meaning Key Recon Cond) (primary : Seen O Key Recon Cond) (standby : Standing O Key Recon Cond) (steps : List Step) (P : IsPaired m primary standby steps) where
  module _ (step : Step) (some : 0 < length steps) (first : step ≡ slice_index_or steps 0 step) where
    its : IsPaired m primary standby (step ∷ drop 1 steps)
    its = subst (λ xs. IsPaired m primary standby xs) (headed steps step some first) P

    pub may_apply : IsSound primary.table → step.count ≤ standby.table.limit
    may_apply sound = ((pair_applies m).may primary standby step (drop 1 steps) sound its).2

    pub may_first : IsSound primary.table → OpensFirst standby.applied step.to primary.journal
    may_first sound = ((pair_applies m).may primary standby step (drop 1 steps) sound its).1

    pub applied_one : (standby2 : Standing O Key Recon Cond) (rest : List Step) → rest ≡ drop 1 steps → AppliesOut m primary.journal standby standby2 step Applied → IsPaired m primary standby2 rest
    applied_one standby2 rest e A = subst (λ xs. IsPaired m primary standby2 xs) (sym e) ((pair_applies m).then primary standby standby2 step (drop 1 steps) its A)

    -- it was offered
    pub offered_off : (journal : List (Event O Key Recon Cond)) (standby2 : Standing O Key Recon Cond) (rest : List Step) → rest ≡ drop 1 steps → AppliesOut m journal standby standby2 step Applied → Offers m journal standby standby2 steps rest (Some Applied)
    offered_off journal standby2 rest e A = subst (λ xs. Offers m journal standby standby2 xs rest (Some Applied)) (sym (headed steps step some first)) (A, e)

    pub offered_back : (journal : List (Event O Key Recon Cond)) (standby2 : Standing O Key Recon Cond) (steps2 : List Step) (by : ℕ) → steps2 ≡ steps → AppliesOut m journal standby standby2 step (Held by) → Offers m journal standby standby2 steps steps2 (Some (Held by))
    offered_back journal standby2 steps2 by e A = subst (λ xs. Offers m journal standby standby2 xs steps2 (Some (Held by))) (sym (headed steps step some first)) (A, e ∙ headed steps step some first)

  -- a call of a scan
  pub scanned : (seat : ℕ) (slot : Option (Scanning O Key Recon Cond)) (standby2 : Standing O Key Recon Cond) → standby2 ≡ with_scan standby seat slot → StillStands m standby standby2 → IsPaired m primary standby2 steps
  scanned seat slot standby2 e S = pair_scans m primary standby standby2 steps P (S primary.journal P.stands) (ap (λ (f : Standing O Key Recon Cond). f.table) e) (ap (λ (f : Standing O Key Recon Cond). f.applied) e)

module _ {O Key Recon Cond : Type 0} where
  -- none was queued
  pub offered_none : (m : Meaning Key Recon Cond) (journal : List (Event O Key Recon Cond)) (f f2 : Standing O Key Recon Cond) (steps steps2 : List Step) → length steps ≡ 0 → f2 ≡ f → steps2 ≡ steps → Offers m journal f f2 steps steps2 None
  offered_none m journal f f2 [] steps2 none e same = (e, same)
  offered_none m journal f f2 (step ∷ steps) steps2 none e same = absurd (omega arith)

  -- one scan is opened in place of another
  pub opened_anew : (f f1 f2 : Standing O Key Recon Cond) (seat : ℕ) (slot : Option (Scanning O Key Recon Cond)) → f1 ≡ with_scan f seat None → f2 ≡ with_scan f1 seat slot → f2 ≡ with_scan f seat slot
  opened_anew f f1 f2 seat slot e e2 =
      e2 ∙ ap (λ (x : Standing O Key Recon Cond). with_scan x seat slot) e ∙ ap (λ xs. record { table = f.table; scans = xs; applied = f.applied; rows = f.rows; vacuum = f.vacuum }) (set-set f.scans seat None slot)

  slot_keeps : (m : Meaning Key Recon Cond) (f : Standing O Key Recon Cond) (item : ℕ) (old new : Option (Scanning O Key Recon Cond)) → SlotReads m f.table f.rows item old new → (from : ℕ) (query : Query O Key Recon Cond) → ScansFrom from query old → ScansFrom from query new
  slot_keeps m f item None new R from query h = absurd h
  slot_keeps m f item (Some s) new (s2, e, R) from query h = subst (ScansFrom from query) (sym e) (subst (λ (x : Scanning O Key Recon Cond). ScansFrom from query (Some x)) (sym R.after) h)

  pub read_once : (m : Meaning Key Recon Cond) (f f2 : Standing O Key Recon Cond) (seat item : ℕ) → ReadsAt m f f2 seat item → ReadsOn f f2 seat
  read_once m f f2 seat item (slot, R, e) =
      let at : (k : ℕ) → scan_at f2 k ≡ scan_at (with_scan f seat slot) k = λ k. ap (λ (x : Standing O Key Recon Cond). scan_at x k) e in
      record {
        here = λ from query h. subst (ScansFrom from query) (sym (at seat)) (⊎_elim
            (λ a. subst (ScansFrom from query) (sym a) (slot_keeps m f item (scan_at f seat) slot R from query h))
            (λ a. subst (ScansFrom from query) (sym a) h)
            (set_cases f.scans seat slot seat None));
        others = λ other apart. at other ∙ get_or-set_other f.scans seat other slot None apart;
      }

  pub same_scans : (f f2 : Standing O Key Recon Cond) (seat : ℕ) → f2.scans ≡ f.scans → ReadsOn f f2 seat
  same_scans f f2 seat e = record {
    here = λ from query h. subst (λ xs. ScansFrom from query (get_or xs seat None)) (sym e) h;
    others = λ other apart. ap (λ xs. get_or xs other None) e;
  }

  pub reads_more : (f f2 f3 : Standing O Key Recon Cond) (seat : ℕ) → ReadsOn f f2 seat → ReadsOn f2 f3 seat → ReadsOn f f3 seat
  reads_more f f2 f3 seat A B = record { here = λ from query h. B.here from query (A.here from query h); others = λ other apart. B.others other apart ∙ A.others other apart }

  from_open : (slot : Option (Scanning O Key Recon Cond)) → IsOpenIn slot → (from : ℕ) × (query : Query O Key Recon Cond) × ScansFrom from query slot
  from_open None h = absurd h
  from_open (Some s) h = (s.at, s.query, (refl, refl))

  to_open : (slot : Option (Scanning O Key Recon Cond)) (from : ℕ) (query : Query O Key Recon Cond) → ScansFrom from query slot → IsOpenIn slot
  to_open None from query h = absurd h
  to_open (Some s) from query h = tt

  pub open_still : (f f2 : Standing O Key Recon Cond) (seat : ℕ) → ReadsOn f f2 seat → IsOpenIn (scan_at f seat) → IsOpenIn (scan_at f2 seat)
  open_still f f2 seat R h = let (from, query, is) = from_open (scan_at f seat) h in to_open (scan_at f2 seat) from query (R.here from query is)

  pub is_read : (slot : Option (Scanning O Key Recon Cond)) → IsOpenIn slot → held_in slot ≡ 0 → IsReadIn slot
  is_read None h e = absurd h
  is_read (Some s) h e = none_held s.items e

  pub idle_again : (f f2 : Standing O Key Recon Cond) (seat : ℕ) → seat < length f.scans → ((other : ℕ) → other ≢ seat → scan_at f other ≡ None) → f2 ≡ with_scan f seat None → IsIdle f2
  idle_again f f2 seat low others e k = ap (λ (x : Standing O Key Recon Cond). scan_at x k) e ∙ ⊎_elim
      (λ same. subst (λ (j : ℕ). scan_at (with_scan f seat None) j ≡ None) (sym same) (get_or-set_same f.scans seat None None low))
      (λ apart. get_or-set_other f.scans seat k None None apart ∙ others k apart)
      (cases_eq k seat)

  closes_from : (m : Meaning Key Recon Cond) (f : Standing O Key Recon Cond) (closed : Closed) (journal : List (Event O Key Recon Cond)) (slot : Option (Scanning O Key Recon Cond)) (from : ℕ) (query : Query O Key Recon Cond) → ScansFrom from query slot → SlotCloses m f closed slot → StandsAt m journal f → ScanRight m (past_at from journal) (past_at f.applied journal) query closed.rows
  closes_from m f closed journal None from query h C T = absurd h
  closes_from m f closed journal (Some s) from query (at, asks) (met, right) T =
      subst (λ (n : ℕ). ScanRight m (past_at n journal) (past_at f.applied journal) query closed.rows) at
      (subst (λ (q : Query O Key Recon Cond). ScanRight m (past_at s.at journal) (past_at f.applied journal) q closed.rows) asks (right journal T))

  pub found_right : (m : Meaning Key Recon Cond) (f f1 f2 : Standing O Key Recon Cond) (closed : Closed) (journal : List (Event O Key Recon Cond)) (seat from to : ℕ) (query : Query O Key Recon Cond) → seat < length f.scans → f1 ≡ with_scan f seat (Some (opened m query f.applied f.table.clock)) → ReadsOn f1 f2 seat → SlotCloses m f2 closed (scan_at f2 seat) → StandsAt m journal f2
      → from ≡ f.applied → to ≡ f2.applied → ScanRight m (past_at from journal) (past_at to journal) query closed.rows
  found_right m f f1 f2 closed journal seat from to query low e R C T at till =
      let its : Scanning O Key Recon Cond = opened m query f.applied f.table.clock in
      let here : scan_at f1 seat ≡ Some its = ap (λ (x : Standing O Key Recon Cond). scan_at x seat) e ∙ get_or-set_same f.scans seat (Some its) None low in
      let was : ScansFrom f.applied query (Some its) = (refl, refl) in
      let now : ScansFrom f.applied query (scan_at f2 seat) = R.here f.applied query (subst (ScansFrom f.applied query) (sym here) was) in
      subst (λ (n : ℕ). ScanRight m (past_at n journal) (past_at to journal) query closed.rows) (sym at)
      (subst (λ (n : ℕ). ScanRight m (past_at f.applied journal) (past_at n journal) query closed.rows) (sym till) (closes_from m f2 closed journal (scan_at f2 seat) f.applied query now C T))

  -- a scan that was read to its end
  pub not_open : (m : Meaning Key Recon Cond) (journal : List (Event O Key Recon Cond)) (to : ℕ) (slot : Option (Scanning O Key Recon Cond)) → (IsOpenIn slot → ⊥) → Finishes m journal to slot None
  not_open m journal to None closed = tt
  not_open m journal to (Some s) closed = absurd (closed tt)

  pub finished : (m : Meaning Key Recon Cond) (f2 : Standing O Key Recon Cond) (closed : Closed) (journal : List (Event O Key Recon Cond)) (seat to : ℕ) (slot : Option (Scanning O Key Recon Cond)) → IsOpenIn slot → ((from : ℕ) (query : Query O Key Recon Cond) → ScansFrom from query slot → ScansFrom from query (scan_at f2 seat)) → f2.applied ≡ to
      → SlotCloses m f2 closed (scan_at f2 seat) → StandsAt m journal f2 → Finishes m journal to slot (Some closed)
  finished m f2 closed journal seat to None is_open here same C T = absurd is_open
  finished m f2 closed journal seat to (Some s) is_open here same C T =
      subst (λ (n : ℕ). ScanRight m (past_at s.at journal) (past_at n journal) s.query closed.rows) same (closes_from m f2 closed journal (scan_at f2 seat) s.at s.query (here s.at s.query (refl, refl)) C T)

  -- without the scan of the seat it is what it was
  pub without_scan : (f f2 : Standing O Key Recon Cond) (seat : ℕ) (slot : Option (Scanning O Key Recon Cond)) → f2 ≡ with_scan f seat slot → with_scan f2 seat None ≡ with_scan f seat None
  without_scan f f2 seat slot e =
      ap (λ (x : Standing O Key Recon Cond). with_scan x seat None) e ∙ ap (λ xs. record { table = f.table; scans = xs; applied = f.applied; rows = f.rows; vacuum = f.vacuum }) (set-set f.scans seat slot None)

  from_before : (m : Meaning Key Recon Cond) (f : Standing O Key Recon Cond) (journal : List (Event O Key Recon Cond)) (seat from : ℕ) (query : Query O Key Recon Cond) → StandsAt m journal f → (slot : Option (Scanning O Key Recon Cond)) → scan_at f seat ≡ slot → ScansFrom from query slot → from ≤ f.applied
  from_before m f journal seat from query T None e h = absurd h
  from_before m f journal seat from query T (Some s) e (at, asks) = omega (arith, (T.scans seat s e).within, at)

  -- no event is taken back while it reads
  pub found_order : (m : Meaning Key Recon Cond) (f f1 f2 f3 : Standing O Key Recon Cond) (journal : List (Event O Key Recon Cond)) (seat : ℕ) (query : Query O Key Recon Cond) → seat < length f.scans → f1 ≡ with_scan f seat (Some (opened m query f.applied f.table.clock)) → ReadsOn f1 f2 seat → StandsAt m journal f2
      → f3.applied ≡ f2.applied → f.applied ≤ f3.applied
  found_order m f f1 f2 f3 journal seat query low e R T same =
      let its : Scanning O Key Recon Cond = opened m query f.applied f.table.clock in
      let here : scan_at f1 seat ≡ Some its = ap (λ (x : Standing O Key Recon Cond). scan_at x seat) e ∙ get_or-set_same f.scans seat (Some its) None low in
      let was : ScansFrom f.applied query (Some its) = (refl, refl) in
      let now : ScansFrom f.applied query (scan_at f2 seat) = R.here f.applied query (subst (ScansFrom f.applied query) (sym here) was) in
      omega (arith, from_before m f2 journal seat f.applied query T (scan_at f2 seat) refl now, same)

-- how far behind the primary's journal the standby is
caught_up : {O Key Recon Cond : Type 0} (m : Meaning Key Recon Cond) (primary : Seen O Key Recon Cond) (standby : Standing O Key Recon Cond) (steps : List Step) → IsPaired m primary standby steps → length steps ≡ 0 → standby.applied ≡ length primary.journal
caught_up m primary standby [] P none = P.leads.1
caught_up m primary standby (step ∷ steps) P none = absurd (omega arith)

pub is_behind : {O Key Recon Cond : Type 0} (m : Meaning Key Recon Cond) (primary : Seen O Key Recon Cond) (standby : Standing O Key Recon Cond) (steps : List Step) → IsPaired m primary standby steps → IsBehind primary.journal standby.applied (length steps)
is_behind m primary standby steps P = record { few = pair_lags m primary standby steps P; none = caught_up m primary standby steps P }
