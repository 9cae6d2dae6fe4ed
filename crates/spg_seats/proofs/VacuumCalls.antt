-- What each call of a vacuum has to show, and that the whole is kept then.
use Rattle.std.proofs.Common.{◌≡◌, ◌≢◌, ◌≤◌, ◌<◌, ◌+◌, ◌^◌, ◌-◌, ◌⊎◌, ⊎_elim, inl, inr, ℕ, zero, suc, min, Bool, true, false, cond, List, [], ◌∷◌, ◌++◌, length, reverse, set, get_or, Option, Some, None, Contains, nat_lt, refl, sym, ap, ◌∙◌, subst, arith, get_or-set_other}
use Rattle.std.proofs.Math.Nat.{min-le_left, min-le_right, min-eq_left}
use Rattle.std.proofs.lemmas.Bool.{cases_Bool, cases_eq}
use Rattle.std.proofs.lemmas.List.{reverse-append, length-reverse}
use Rattle.spg_base.specs.Row.{RowAt}
use Rattle.spg_opclass.specs.Meaning.{Meaning}
use Rattle.spg_forest.specs.View.{Place}
use Rattle.spg_forest.specs.Classes.{HasEntry}
use Rattle.spg_forest.specs.Sheets.{Sheet, with_tuples, blank}
use Rattle.spg_forest.specs.Shape.{spots}
use Rattle.spg_forest.specs.Section.{Takes}
use Rattle.spg_forest.specs.Steps.{HasRow}
use Rattle.spg_forest.specs.Puts.{spreads}
use Rattle.spg_forest.specs.Walk.{weight_of}
use Rattle.spg_rows.specs.declared.event.Event.TheVariants.{OpenVacuum, CloseVacuum, Leave}
use Rattle.spg_rows.specs.declared.table.RowState.TheVariants.{Swept}
use Rattle.spg_rows.specs.History.{History, nothing, vacuuming, open_of}
use Rattle.spg_rows.specs.Lives.{Life, lives, vacuum_from}
use Rattle.spg_rows.specs.Rows.{present_in, key_in, state_of, sweep_count}
use Rattle.spg_rows.specs.Legal.{IsLeavable, IsLegal}
use Rattle.spg_rows.specs.Right.{VacuumRight}
use Rattle.spg_rows.specs.Scans.{IsTarget}
use Rattle.spg_rows.specs.Targets.{killed_before, is_target, KillsTell}
use Rattle.spg_rows.specs.Vacuums.{newest_ends, ended_by}
use Rattle.spg_rows.specs.Table as rows
use Rattle.spg_rows.proofs.Opened.{itself_opens, vacuum_before}
use Rattle.spg_rows.proofs.Scans.{killed_swept}
use Rattle.spg_rows.proofs.Targets.{targets_agree, target_was}
use Rattle.spg_tree.specs.Table.{Table, sheets_of, sheet_at, latch_at, tuples_at}
use Rattle.spg_descend.specs.Carried.{root_of}
use Rattle.spg_cover.specs.Vacuum.{Of}
use Rattle.spg_cover.specs.Swept.{NoneTwice}
use Rattle.spg_cover.proofs.SweptRows.{swept_rows}
use Rattle.spg_vacuum.specs.declared.done.Done.TheVariants as done
use Rattle.spg_vacuum.specs.declared.done.Work.TheVariants as works
use Rattle.spg_vacuum.specs.declared.vacuum.Vacuum.{Vacuum}
use Rattle.spg_vacuum.specs.Latch.{IsFree}
use Rattle.spg_vacuum.specs.Listing.{first_place}
use Rattle.spg_vacuum.specs.Handled.{HandlesBlock, HandlesPlace}
use Rattle.spg_vacuum.specs.Vacuums.{IsVacuum, BlockDone, FirstDone, KeepsVacuum, LeavesNone, work_at, work_of}
use Rattle.spg_vacuum.proofs.OtherSeats.{opens_vacuum}
use Rattle.spg_seats.specs.Descending.{HasInnerRoot, ChangesHeld}
use Rattle.spg_seats.specs.Latching.{AreHeld, rest_of}
use Rattle.spg_seats.specs.Slots.{Stage, free, descending, reading, sweeping, stage_in, stamp_of, IsVacuumOf, StageFits, stage_holds, kept_key, open_count, least, horizon_of, IsSafe, NoneSweeps, Fields, IsKept}
use Rattle.spg_seats.specs.Opening.{opened_vacuum, sweeps, SameRows, ChangesRows, SweepsRows, EndsNewest, is_among}
use Rattle.spg_seats.proofs.Drops.{causes_grow, causes_sweeps}
use Rattle.spg_seats.proofs.Slots.{keeps}
use Rattle.spg_seats.proofs.Opening.{sweeps_hold}
use Rattle.spg_seats.proofs.Holding.{latches_law}
use Rattle.spg_seats.proofs.Sweeping.{fewer_targets, vacuum_same}
use Rattle.spg_seats.proofs.SweptRows.{among_has, has_among, has_contains, contains_has, has_turned, once_turned, takes_as, sweeps_turned, sweeps_of, sweeps_open, sweeps_state, sweeps_counted, sweeps_keys, sweeps_vacuums, sweeps_answer, sweeps_legal, sweeps_tell, sweeps_kept, sweeps_few}
use Rattle.spg_seats.proofs.Calls as calls

-- ---- the horizon

least_low : (x : Option ℕ) (n stamp : ℕ) → x ≡ Some stamp → least x n ≤ stamp
least_low None n stamp e = absurd (cc e)
least_low (Some u) n stamp e = let q : u ≡ stamp = cc e in let a = min-le_left u n in omega arith

least_under : (x : Option ℕ) (n : ℕ) → least x n ≤ n
least_under None n = omega arith
least_under (Some u) n = min-le_right u n

-- no stamp is below the least one
pub horizon_safe : {O Key Recon Cond : Type 0} (stages : List (Stage O Key Recon Cond)) (n : ℕ) → IsSafe stages (horizon_of stages n)
horizon_safe [] n seat stamp e = absurd (cc e)
horizon_safe (stage ∷ stages) n zero stamp e = least_low (stamp_of stage) (horizon_of stages n) stamp e
horizon_safe (stage ∷ stages) n (suc seat) stamp e = let a = least_under (stamp_of stage) (horizon_of stages n) in let b = horizon_safe stages n seat stamp e in omega arith

pub horizon_below : {O Key Recon Cond : Type 0} (stages : List (Stage O Key Recon Cond)) (n seat : ℕ) (v : Vacuum) → stage_in stages seat ≡ sweeping v → horizon_of stages n ≤ v.stamp
horizon_below stages n seat v is = horizon_safe stages n seat v.stamp (ap stamp_of is)

-- ---- what a page's handling changes

set_cases : {A : Type 0} (xs : List A) (i : ℕ) (x d : A) → (get_or (set xs i x) i d ≡ x) ⊎ (get_or (set xs i x) i d ≡ get_or xs i d)
set_cases [] i x d = inr refl
set_cases (y ∷ xs) zero x d = inl refl
set_cases (y ∷ xs) (suc i) x d = set_cases xs i x d

module _ (t t2 : Table) (b seat : ℕ) (test : RowAt → Bool) (horizon : ℕ) (swept : List RowAt) (D : HandlesBlock t t2 b test horizon swept) where
  handled_sheet : (c : ℕ) → (c ≡ b → ⊥) → sheet_at t2 c ≡ sheet_at t c
  handled_sheet c apart = ap (λ (u : Table). sheet_at u c) D.table ∙ get_or-set_other t.pages b c (with_tuples (sheet_at t b) (tuples_at t2 b)) (blank false) apart

  handled_inner : (c : ℕ) → (sheet_at t2 c).inner ≡ (sheet_at t c).inner
  handled_inner c = ⊎_elim
      (λ e. ap (λ n. (sheet_at t2 n).inner) e ∙ ap (λ (u : Table). (sheet_at u b).inner) D.table ∙ ⊎_elim (λ (q : get_or (set t.pages b (with_tuples (sheet_at t b) (tuples_at t2 b))) b (blank false) ≡ with_tuples (sheet_at t b) (tuples_at t2 b)). ap (λ (s : Sheet). s.inner) q) (λ q. ap (λ (s : Sheet). s.inner) q) (set_cases t.pages b (with_tuples (sheet_at t b) (tuples_at t2 b)) (blank false)) ∙ ap (λ n. (sheet_at t n).inner) (sym e))
      (λ n. ap (λ (s : Sheet). s.inner) (handled_sheet c n))
      (cases_eq c b)

  handled_held : IsFree t b seat → ChangesHeld t t2 seat
  handled_held is_free c = ⊎_elim (λ e. inr (subst (λ k. (latch_at t k ≡ None) ⊎ (latch_at t k ≡ Some seat)) (sym e) (one (latch_at t b) refl))) (λ n. inl (handled_sheet c n)) (cases_eq c b)
    where
      one : (l : Option ℕ) → latch_at t b ≡ l → (latch_at t b ≡ None) ⊎ (latch_at t b ≡ Some seat)
      one None e = inl e
      one (Some by) e = inr (e ∙ ap (λ n. Some n) (is_free by e))

present_keyed : {Key : Type 0} (ls : List (Life Key)) → present_in ls ≡ true → (key : Option Key) × (key_in ls ≡ Some key)
present_keyed [] h = absurd (cc h)
present_keyed (l ∷ ls) h = (l.key, refl)

fits_64 : (n k : ℕ) → n ≤ k → k < 2 ^ 64 → n ≤ 2 ^ 64 - 1
fits_64 n k h low = omega arith

module _ {O Key Recon Cond : Type 0} (m : Meaning Key Recon Cond) where
  -- the targets that are kept are those that the vacuum covers
  pub vacuum_covers : (s : Fields O Key Recon Cond) (seat : ℕ) (v : Vacuum) → IsKept m s → stage_in s.stages seat ≡ sweeping v → IsVacuum m s.table v (Of s.targets)
  vacuum_covers s seat v kept was =
      let (before, has, V) = subst (λ (x : Stage O Key Recon Cond). StageFits m s.table (reverse s.journal) seat x) was (kept.stages seat) in
      fewer_targets m s.table v (Of (is_target before (reverse s.journal))) (Of s.targets) (λ r h. sym (kept.tells.kills.early seat before has r) ∙ h) V.vacuum

  -- no vacuum is open where no stage is one
  none_open : (s : Fields O Key Recon Cond) → IsKept m s → NoneSweeps s.stages → (other : ℕ) (before : History O Key Recon Cond) → open_of other (reverse s.journal) ≢ vacuuming before
  none_open s kept none other before has = go (stage_in s.stages other) refl (kept.stages other)
    where
      go : (stage : Stage O Key Recon Cond) → stage_in s.stages other ≡ stage → StageFits m s.table (reverse s.journal) other stage → ⊥
      go free is fits = absurd (cc (sym fits ∙ has))
      go (descending key d) is fits = absurd (cc (sym fits.0 ∙ has))
      go (reading q) is (b, opens, D) = absurd (cc (sym opens ∙ has))
      go (sweeping v) is fits = none other v is

  module _ (s s2 : Fields O Key Recon Cond) (seat : ℕ) (stage : Stage O Key Recon Cond) (kept : IsKept m s) (stages_are : s2.stages ≡ set s.stages seat stage) (here : stage_in s2.stages seat ≡ stage) (held : AreHeld s2.table seat (rest_of s.table seat) (stage_holds stage)) (room : open_count s2.stages ≤ s2.spare) (limit : s2.table.limit ≡ s.table.limit) (origin : s2.origin ≡ s.origin) where
    abbrev past : History O Key Recon Cond
    past = reverse s.journal

    fits_of : (v : Vacuum) → stage_in s.stages seat ≡ sweeping v → StageFits m s.table past seat (sweeping v)
    fits_of v was = subst (λ (x : Stage O Key Recon Cond). StageFits m s.table past seat x) was (kept.stages seat)

    -- ---- a vacuum opens where no seat has one open

    pub kept_opens_vacuum : sheets_of s2.table ≡ sheets_of s.table → stage ≡ sweeping (opened_vacuum (length past) s.table.clock) → open_of seat past ≡ nothing → NoneSweeps s.stages → s2.journal ≡ s.journal ++ OpenVacuum seat ∷ [] → ChangesRows (OpenVacuum seat) past s s2 → IsKept m s2
    kept_opens_vacuum same is none alone journal told = calls.kept_event m s s2 seat stage kept stages_are here held room limit origin (OpenVacuum seat) refl tt tt (none, none_open s kept alone) tt journal same told
        (subst (λ (x : Stage O Key Recon Cond). StageFits m s2.table (OpenVacuum seat ∷ past) seat x) (sym is) (
          past,
          itself_opens (OpenVacuum seat) past,
          record {
            at = refl;
            vacuum = vacuum_same m s.table s2.table v (Of targets) same (opens_vacuum m s.table v targets kept.tells.holds.shape refl refl refl entries);
            count = omega arith;
          },
        ))
      where
        v : Vacuum
        v = opened_vacuum (length past) s.table.clock

        targets : RowAt → Bool
        targets = is_target past (OpenVacuum seat ∷ past)

        entries : (row : RowAt) → targets row ≡ true → (key : Option Key) × HasEntry m (spots (sheets_of s.table)) row key
        entries row h =
            let T = (targets_agree past past row kept.right.legal).0 h in
            let (key, keyed) = present_keyed (lives row past) T.0 in
            (key, (kept.tells.holds.entries row key).1 (T.0, keyed))

    -- ---- a vacuum ends, or is given up

    ends_newest : (before : History O Key Recon Cond) → open_of seat past ≡ vacuuming before → s2.vacuums ≡ newest_ends (length past) s.vacuums → s2.vacuums ≡ ended_by (open_of seat past) (length past) s.vacuums
    ends_newest before has h = h ∙ sym (ap (λ x. ended_by x (length past) s.vacuums) has)

    pub kept_closes_vacuum : (v : Vacuum) → sheets_of s2.table ≡ sheets_of s.table → stage ≡ free → stage_in s.stages seat ≡ sweeping v → LeavesNone m s.table v → s2.journal ≡ s.journal ++ CloseVacuum seat v.swept ∷ [] → EndsNewest (length past) s s2 → IsKept m s2
    kept_closes_vacuum v same ended was none journal told =
        let (before, has, V) = fits_of v was in
        let right : VacuumRight before past v.swept = record {
          complete = λ r life of killed. (killed_swept before past).swept kept.right.legal (λ r T. none (is_target before past) kept.tells.holds.shape V.vacuum r ((targets_agree before past r kept.right.legal).1 T)) r life of killed;
          count = V.count;
        } in
        calls.kept_event m s s2 seat stage kept stages_are here held room limit origin (CloseVacuum seat v.swept) refl tt tt (before, has)
        (λ before2 opens. let e : vacuuming before ≡ vacuuming before2 = sym has ∙ opens in let one : before ≡ before2 = cc e in subst (λ (b : History O Key Recon Cond). VacuumRight b past v.swept) one right)
        journal same (record { row = told.rows; targets = (told.targets, told.later); vacuums = ends_newest before has told.vacuums })
        (subst (λ (x : Stage O Key Recon Cond). StageFits m s2.table (CloseVacuum seat v.swept ∷ past) seat x) (sym ended) (itself_opens (CloseVacuum seat v.swept) past))

    pub kept_leaves_vacuum : (v : Vacuum) → sheets_of s2.table ≡ sheets_of s.table → stage ≡ free → stage_in s.stages seat ≡ sweeping v → s2.journal ≡ s.journal ++ Leave seat ∷ [] → EndsNewest (length past) s s2 → IsKept m s2
    kept_leaves_vacuum v same ended was journal told =
        let (before, has, V) = fits_of v was in
        calls.kept_event m s s2 seat stage kept stages_are here held room limit origin (Leave seat) refl tt tt (subst IsLeavable (sym has) tt) tt journal same
        (record { row = told.rows; targets = (told.targets, told.later); vacuums = ends_newest before has told.vacuums })
        (subst (λ (x : Stage O Key Recon Cond). StageFits m s2.table (Leave seat ∷ past) seat x) (sym ended) (itself_opens (Leave seat) past))

    -- ---- another seat has latched the block, and nothing is done

    pub kept_rests : (v : Vacuum) → sheets_of s2.table ≡ sheets_of s.table → stage ≡ sweeping v → stage_in s.stages seat ≡ sweeping v → s2.journal ≡ s.journal → SameRows s s2 → IsKept m s2
    kept_rests v same is was journal told =
        let (before, has, V) = fits_of v was in
        calls.kept_still m s s2 seat stage kept stages_are here held room limit origin same journal told
        (subst (λ (x : Stage O Key Recon Cond). StageFits m s2.table past seat x) (sym is) (before, has, record { at = V.at; vacuum = vacuum_same m s.table s2.table v (Of (is_target before past)) same V.vacuum; count = V.count }))

    -- ---- a section that sweeps the rows of a page

    module _ (v v2 : Vacuum) (horizon : ℕ) (swept : List RowAt) (was : stage_in s.stages seat ≡ sweeping v) (is : stage ≡ sweeping v2) (safe : IsSafe s.stages horizon) (K : KeepsVacuum m s.table s2.table v2 s.targets horizon (done.Swept swept)) (journal : s2.journal ≡ s.journal ++ sweeps seat swept) (short : length s2.journal < 2 ^ 64) (told : SweepsRows v.at swept s s2) where
      abbrev xs : List RowAt
      xs = reverse swept

      journal_is : reverse s2.journal ≡ sweeps seat xs ++ past
      journal_is = ap reverse journal ∙ reverse-append s.journal (sweeps seat swept) ∙ ap (λ (l : History O Key Recon Cond). l ++ past) (sweeps_turned seat swept)

      module _ (before : History O Key Recon Cond) (has : open_of seat past ≡ vacuuming before) (V : IsVacuumOf m s.table before past v) (at : v2.at ≡ v.at) (counts : v2.swept ≡ min (v.swept + length swept) (2 ^ 64 - 1)) (targets : (r : RowAt) → HasRow swept r → s.targets r ≡ true) (once : NoneTwice swept) where
        all : (r : RowAt) → HasRow xs r → s.targets r ≡ true
        all r h = targets r ((has_turned swept r).0 h)

        -- each row that is swept is a target
        is_kill : (r : RowAt) → HasRow xs r → IsTarget before past r
        is_kill r h = (targets_agree before past r kept.right.legal).0 (sym (kept.tells.kills.early seat before has r) ∙ all r h)

        legal : IsLegal (sweeps seat xs ++ past)
        legal = sweeps_legal seat past m before xs has kept.right.legal (once_turned swept once) is_kill

        among_turned : (r : RowAt) → is_among xs r ≡ is_among swept r
        among_turned r = ⊎_elim
            (λ e. has_among xs r ((has_turned swept r).1 (among_has swept r e)) ∙ sym e)
            (λ e. ⊎_elim (λ h. absurd (cc (sym e ∙ has_among swept r ((has_turned swept r).0 (among_has xs r h))))) (λ h. h ∙ sym e) (cases_Bool (is_among xs r)))
            (cases_Bool (is_among swept r))

        from_is : vacuum_from (open_of seat past) ≡ v.at
        from_is = ap vacuum_from has ∙ sym V.at

        T : Takes m (sheets_of s.table) (sheets_of s2.table) s2.table.touched (spreads 0) horizon (Contains xs)
        T = takes_as m (sheets_of s.table) (sheets_of s2.table) s2.table.touched (spreads 0) horizon (HasRow swept) (Contains xs) (λ r h. has_contains xs r ((has_turned swept r).1 h)) (λ r h. (has_turned swept r).0 (contains_has xs r h)) K.0

        states : (r : RowAt) → rows.state_in s2.rows r ≡ state_of r (sweeps seat xs ++ past)
        states r =
            told.states r
            ∙ ap (λ x. cond (is_among swept r) (Swept v.at) x) (kept.tells.states r)
            ∙ ap (λ b. cond b (Swept v.at) (state_of r past)) (sym (among_turned r))
            ∙ ap (λ n. cond (is_among xs r) (Swept n) (state_of r past)) (sym from_is)
            ∙ sym (sweeps_state seat past xs r)

        keys : (r : RowAt) → rows.key_in s2.rows r ≡ kept_key r (sweeps seat xs ++ past)
        keys r = told.keys r ∙ kept.tells.keys r ∙ sweeps_kept seat past before xs has s.targets s.later s2.targets s2.later kept.tells.kills all m r

        kills : KillsTell (sweeps seat xs ++ past) s2.targets s2.later
        kills = sweeps_tell seat past before xs has s.targets s.later s2.targets s2.later kept.tells.kills all (λ r. told.targets r ∙ ap (λ b. cond b false (s.targets r)) (sym (among_turned r))) told.later

        same_long : length (sweeps seat xs ++ past) ≡ length s2.journal
        same_long = subst (λ (l : History O Key Recon Cond). length l ≡ length s2.journal) journal_is (length-reverse s2.journal)

        counted : sweep_count (sweeps seat xs ++ past) ≡ sweep_count before + v2.swept
        counted =
            let a : sweep_count (sweeps seat xs ++ past) ≡ sweep_count past + length xs = sweeps_counted seat past xs in
            let b : length xs ≡ length swept = length-reverse swept in
            let c : sweep_count past ≡ sweep_count before + v.swept = V.count in
            let d : sweep_count (sweeps seat xs ++ past) ≤ length (sweeps seat xs ++ past) = sweeps_few (sweeps seat xs ++ past) in
            let e : length (sweeps seat xs ++ past) ≡ length s2.journal = same_long in
            let few : v.swept + length swept ≤ 2 ^ 64 - 1 = fits_64 (v.swept + length swept) (length s2.journal) (omega arith) short in
            let f : v2.swept ≡ v.swept + length swept = counts ∙ min-eq_left few in
            omega arith

        covers : IsVacuum m s2.table v2 (Of (is_target before (sweeps seat xs ++ past)))
        covers = K.1 (is_target before (sweeps seat xs ++ past)) (λ r h. (
          kept.tells.kills.early seat before has r ∙ target_was (sweeps seat xs) before past (let a = vacuum_before past before seat has in omega arith) r h,
          λ among. gone r (has_among xs r ((has_turned swept r).1 among)) h,
        ))
          where
            gone : (r : RowAt) → is_among xs r ≡ true → is_target before (sweeps seat xs ++ past) r ≡ true → ⊥
            gone r e h = cc (sym (ap (killed_before (length before)) (sweeps_state seat past xs r ∙ ap (λ b. cond b (Swept (vacuum_from (open_of seat past))) (state_of r past)) e)) ∙ h)

        swept_with : ChangesHeld s.table s2.table seat → ((nulls : Bool) → HasInnerRoot s2.table nulls → HasInnerRoot s.table nulls) → IsKept m s2
        swept_with within grows =
            let L = latches_law O Key Recon Cond in
            keeps m s s2 seat stage (sweeps seat xs) horizon kept (record {
              acts = record {
                pages = inr (inr (inl (before, has, spreads 0, xs, T, λ r h. let q = (is_kill r (contains_has xs r h)).1 in (q.0, q.1))));
                safe = safe;
                later = let a = safe seat v.stamp (ap stamp_of was) in let b = V.vacuum.past in omega arith;
                within = within;
                latches = λ other b apart. L.stay s.table s2.table seat (stage_holds stage) held other b apart;
                events = sweeps_of O Key Recon Cond seat xs;
                legal = legal;
              };
              stages = stages_are;
              here = here;
              journal = journal_is;
              answers = sweeps_answer seat past m xs kept.right.answers;
              fits = subst (λ (x : Stage O Key Recon Cond). StageFits m s2.table (sweeps seat xs ++ past) seat x) (sym is) (before, sweeps_open seat past xs seat ∙ has, record { at = at ∙ V.at; vacuum = covers; count = counted });
              latches = L.ends s.table s2.table seat (stage_holds stage) held;
              tells = record {
                holds = sweeps_hold m (sheets_of s.table) (sheets_of s2.table) past seat xs s2.table.touched (spreads 0) horizon T kept.tells.holds;
                heavy = λ u nulls h. subst (λ (ks : List (Option Key)). 8160 < weight_of m nulls ks) (sym (sweeps_keys seat past xs)) (kept.tells.heavy (ap (λ o. o.loaded) (sym origin) ∙ u) nulls (grows nulls h));
                states = states;
                keys = keys;
                kills = kills;
                vacuums = told.vacuums ∙ kept.tells.vacuums ∙ sym (sweeps_vacuums seat past xs);
                room = room;
                limit = limit ∙ kept.tells.limit ∙ ap (λ o. o.limit) (sym origin);
                drops = causes_sweeps past s2.table seat xs (causes_grow past s.table s2.table limit T.section.within.pages.0 T.section.within.clock.0 kept.tells.drops);
              };
            })

      -- a block is handled
      handled : (b : ℕ) → IsFree s.table b seat → HandlesBlock s.table s2.table b s.targets horizon swept → v2.at ≡ v.at → v2.swept ≡ min (v.swept + length swept) (2 ^ 64 - 1) → IsKept m s2
      handled b is_free D at counts =
          let (before, has, V) = fits_of v was in
          let R = swept_rows m (sheets_of s.table) b s.targets kept.tells.holds.shape in
          swept_with before has V at counts
          (λ r h. (R.0 r (subst (λ (ys : List RowAt). HasRow ys r) D.swept h)).0)
          (subst NoneTwice (sym D.swept) R.1)
          (handled_held s.table s2.table b seat s.targets horizon swept D is_free)
          (λ nulls h. sym (handled_inner s.table s2.table b seat s.targets horizon swept D (root_of nulls)) ∙ h)

      -- the next block is handled
      pub kept_block : BlockDone s.table s2.table v v2 s.targets horizon seat (done.Swept swept) → IsKept m s2
      kept_block (is_free, D, made) = handled v.next is_free D (ap (λ (x : Vacuum). x.at) made) (ap (λ (x : Vacuum). x.swept) made)

      -- the first place that is to do is handled
      pub kept_pending : work_of v s.table ≡ works.Pending → FirstDone s.table s2.table v v2 s.targets horizon seat (done.Swept swept) → IsKept m s2
      kept_pending next F = go v.pending.todo refl
        where
          none_next : (b : Bool) → work_at [] b ≡ works.Pending → ⊥
          none_next true h = cc h
          none_next false h = cc h

          at_place : (p : Place) → (inner : Bool) → IsFree s.table p.block seat → HandlesPlace inner s.table s2.table p s.targets horizon swept → v2.at ≡ v.at → v2.swept ≡ min (v.swept + length swept) (2 ^ 64 - 1) → IsKept m s2
          at_place p false is_free D at counts = handled p.block is_free D at counts
          at_place p true is_free (none, same) at counts =
              let (before, has, V) = fits_of v was in
              swept_with before has V at counts
              (λ r h. absurd (subst (λ (ys : List RowAt). HasRow ys r) none h))
              (subst NoneTwice (sym none) tt)
              (λ b. inl (ap (λ (u : Table). sheet_at u b) same))
              (λ nulls h. ap (λ (u : Table). (sheet_at u (root_of nulls)).inner) (sym same) ∙ h)

          go : (todo : List Place) → v.pending.todo ≡ todo → IsKept m s2
          go [] e = absurd (none_next (nat_lt v.next (length s.table.pages)) (ap (λ ps. work_at ps (nat_lt v.next (length s.table.pages))) (sym e) ∙ next))
          go (p ∷ ps) e = let (is_free, D, made) = F p (ap first_place e) in at_place p (sheet_at s.table p.block).inner is_free D (ap (λ (x : Vacuum). x.at) made) (ap (λ (x : Vacuum). x.swept) made)
