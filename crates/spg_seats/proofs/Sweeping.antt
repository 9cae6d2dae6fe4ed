-- An open vacuum under the sections of other seats.
use Rattle.std.proofs.Common.{◌≡◌, ◌≢◌, ◌≤◌, inl, inr, ℕ, List, [], ◌∷◌, ◌++◌, length, refl, sym, ap, ◌∙◌, subst, arith}
use Rattle.spg_base.specs.Row.{RowAt}
use Rattle.spg_opclass.specs.Meaning.{Meaning}
use Rattle.spg_forest.specs.Sheets.{Sheets}
use Rattle.spg_forest.specs.Shape.{Shape}
use Rattle.spg_rows.specs.History.{History, vacuuming, open_of}
use Rattle.spg_rows.specs.Rows.{sweep_count}
use Rattle.spg_rows.specs.Legal.{IsLegal}
use Rattle.spg_rows.specs.Targets.{is_target}
use Rattle.spg_rows.proofs.Opened.{vacuum_before}
use Rattle.spg_rows.proofs.Histories.{sane_from_legal}
use Rattle.spg_rows.proofs.Targets.{target_was, inserted_none, unswept_by}
use Rattle.spg_tree.specs.Table.{Table, sheets_of}
use Rattle.spg_scan.specs.Others.{ChangesPages, AreOf}
use Rattle.spg_scan.proofs.Covers.{open_still, earlier_legal}
use Rattle.spg_cover.specs.Vacuum.{VacuumHolds, Of}
use Rattle.spg_vacuum.specs.declared.vacuum.Vacuum.{Vacuum}
use Rattle.spg_vacuum.specs.Vacuums.{IsVacuum}
use Rattle.spg_vacuum.proofs.OtherSeats.{adds_keep, leaves_keep}
use Rattle.spg_seats.specs.Slots.{Stage, sweeping, stage_in, stamp_of, IsVacuumOf, ChangesIndex, Acts}

module _ {Key Recon Cond : Type 0} (m : Meaning Key Recon Cond) where
  -- fewer targets are covered as well
  pub fewer_targets : (t : Table) (v : Vacuum) (P Q : RowAt → Type 0) → ((r : RowAt) → Q r → P r) → IsVacuum m t v P → IsVacuum m t v Q
  fewer_targets t v P Q h K = record {
    from = K.from;
    past = K.past;
    cover = record {
      redirects = K.cover.redirects;
      done_there = K.cover.done_there;
      undone_there = K.cover.undone_there;
      cover = λ row l. K.cover.cover row (h row l);
      nearer = λ p row a l k. K.cover.nearer p row a (h row l) k;
    };
  }

  -- so are they where the pages are as they were
  pub vacuum_same : (t t2 : Table) (v : Vacuum) (P : RowAt → Type 0) → sheets_of t2 ≡ sheets_of t → IsVacuum m t v P → IsVacuum m t2 v P
  vacuum_same t t2 v P same K = record {
    from = K.from;
    past = subst (λ (x : Sheets). v.stamp ≤ x.clock) (sym same) K.past;
    cover = subst (λ (x : Sheets). VacuumHolds m x v.stamp v.next v.pending.done v.pending.todo P) (sym same) K.cover;
  }

module _ {O Key Recon Cond : Type 0} (m : Meaning Key Recon Cond) where
  -- a section of a vacuum as scans and inserts take it
  pub pages_changed : (past : History O Key Recon Cond) (seat : ℕ) (S S2 : Sheets) (touched : List ℕ) (since : ℕ) → ChangesIndex m past seat S S2 touched since → ChangesPages m past seat S S2 touched since
  pages_changed past seat S S2 touched since (inl h) = inl h
  pages_changed past seat S S2 touched since (inr (inl h)) = inr (inl h)
  pages_changed past seat S S2 touched since (inr (inr (inl (before, has, cost, rows, T, killed)))) = inr (inr (inl (cost, rows, T, killed)))
  pages_changed past seat S S2 touched since (inr (inr (inr h))) = inr (inr (inr h))

  -- a change of the pages by another seat
  vacuum_changed : (t t2 : Table) (past before : History O Key Recon Cond) (v : Vacuum) (seat other since : ℕ) (touched : List ℕ) → IsLegal past → Shape m (sheets_of t) → other ≢ seat → open_of other past ≡ vacuuming before → since ≤ v.stamp → ChangesIndex m past seat (sheets_of t) (sheets_of t2) touched since → IsVacuum m t v (Of (is_target before past)) → IsVacuum m t2 v (Of (is_target before past))
  vacuum_changed t t2 past before v seat other since touched legal H apart has later (inl (cost, moved, row, key, new_key, opens, A)) K = adds_keep m t t2 v touched cost row new_key moved (is_target before past) H A (inserted_none before past legal seat row key opens) K
  vacuum_changed t t2 past before v seat other since touched legal H apart has later (inr (inl (cost, moved, A))) K = leaves_keep m t t2 v touched cost since moved (is_target before past) H A later K
  vacuum_changed t t2 past before v seat other since touched legal H apart has later (inr (inr (inl (then, opens, cost, rows, T, killed)))) K = absurd (apart ((sane_from_legal past legal).vacuum.alone other seat before then has opens))
  vacuum_changed t t2 past before v seat other since touched legal H apart has later (inr (inr (inr same))) K = vacuum_same m t t2 v (Of (is_target before past)) same K

  same_sweeps : (es past before : History O Key Recon Cond) (seat other : ℕ) → IsLegal (es ++ past) → other ≢ seat → AreOf seat es → open_of other past ≡ vacuuming before → sweep_count (es ++ past) ≡ sweep_count past
  same_sweeps [] past before seat other legal apart of has = refl
  same_sweeps (e ∷ es) past before seat other legal apart (is, of) has =
      unswept_by e (es ++ past) legal.1 legal.0 other before (open_still m es past other seat (λ h. apart (sym h)) of ∙ has) (λ h. apart (h ∙ is))
      ∙ same_sweeps es past before seat other legal.1 apart of has

  pub vacuum_stays : (t t2 : Table) (past es before : History O Key Recon Cond) (v : Vacuum) (stages : List (Stage O Key Recon Cond)) (seat other since : ℕ) → Shape m (sheets_of t) → Acts m past stages seat t t2 es since → other ≢ seat → stage_in stages other ≡ sweeping v → open_of other past ≡ vacuuming before → IsVacuumOf m t before past v → IsVacuumOf m t2 before (es ++ past) v
  vacuum_stays t t2 past es before v stages seat other since H A apart is has V =
      let legal : IsLegal past = earlier_legal m es past A.legal in
      let later : length before ≤ length past = (let a = vacuum_before past before other has in omega arith) in
      record {
        at = V.at;
        vacuum = fewer_targets m t2 v (Of (is_target before past)) (Of (is_target before (es ++ past))) (λ r h. target_was es before past later r h)
            (vacuum_changed t t2 past before v seat other since t2.touched legal H apart has (A.safe other v.stamp (ap stamp_of is)) A.pages V.vacuum);
        count = same_sweeps es past before seat other A.legal apart A.events has ∙ V.count;
      }
