-- A search of one moment.
use Rattle.std.specs.Prelude.{slice_get}
use Rattle.std.proofs.Common.{◌≡◌, ◌<◌, ℕ, List, ◌∷◌, length, Option, Some, refl, sym, ap, ◌∙◌, subst}
use Rattle.spg_base.specs.declared.point.Point.{Point}
use Rattle.spg_opclass.specs.Meaning.{Meaning}
use Rattle.spg_opclass.specs.Laws.{KeptLaw, CodeLaw}
use Rattle.spg_opclass.specs.declared.query.Query.TheVariants.{All}
use Rattle.spg_rows.specs.declared.event.Event.TheVariants.{OpenScan}
use Rattle.spg_rows.specs.History.{History}
use Rattle.spg_rows.specs.Table as rows
use Rattle.spg_rows.proofs.Opened.{itself_opens}
use Rattle.spg_tree.specs.Table.{Table, sheets_of}
use Rattle.spg_scan.specs.Items.{held}
use Rattle.spg_scan.specs.Scanning.{counted}
use Rattle.spg_near.specs.declared.near_row.NearRow.{NearRow}
use Rattle.spg_near.specs.Nearing.{NearItem, Nearing, Boxing, near_opened, IsDone, IsNext}
use Rattle.spg_near.specs.Best.{AreHits}
use Rattle.spg_near.specs.Cover.{IsNearOf}
use Rattle.spg_near.specs.Held.{IsHeldAt}
use Rattle.spg_near.specs.Laws.{CutLaw, NarrowLaw, KeyLaw}
use Rattle.spg_near.specs.Left.{near_left}
use Rattle.spg_near.specs.NearRest.{NearWalk, IsReach}
use Rattle.spg_near.specs.NearRight.{NearRight}
use Rattle.spg_near.specs.Reads.{ReadsNear}
use Rattle.spg_near.specs.Moment.{IsNow, IsOpenNow}
use Rattle.spg_near.proofs.Ending.{near_ends}
use Rattle.spg_near.proofs.Falling.{near_falls}
use Rattle.spg_near.proofs.Nears.{near_reads}
use Rattle.spg_near.proofs.Opening.{near_opens}
use Rattle.spg_near.proofs.Reading.{item_at}
use Rattle.spg_near.proofs.Resting.{near_rests, near_rests_on, near_meets}

module _ {O Recon Cond : Type 0} (m : Meaning Point Recon Cond) (boxing : Boxing Recon) (seat : ℕ) (past : History O Point Recon Cond) (t : Table) (states : rows.Table O Point Recon Cond) where
  pub opens : CodeLaw m → KeyLaw m → IsNow m seat past t states → (target : Point) (limit at stamp : ℕ) (n : Nearing Recon) → n ≡ near_opened m target limit at stamp → at ≡ length past → stamp ≡ t.clock → IsOpenNow m boxing seat past t states n
  opens codes points N target limit at stamp n is a b =
      let same : n ≡ near_opened m target limit (length past) t.clock = is ∙ ap (λ k. near_opened m target limit k stamp) a ∙ ap (near_opened m target limit (length past)) b in
      subst (IsOpenNow m boxing seat past t states) (sym same) (record {
        now = N;
        near = near_opens m (sheets_of t) past seat target limit codes points N.legal.1 N.holds;
        rest = near_rests m boxing (sheets_of t) target limit (length past) t.clock codes points N.holds.shape;
      })

  pub is_held : (n : Nearing Recon) → IsOpenNow m boxing seat past t states n → (i : ℕ) (it : NearItem Recon) → slice_get n.items i ≡ Some it → IsHeldAt m (sheets_of t) n.stamp it
  is_held n A i it at = A.near.whole.scan.spots.sheltered (i, 0) it.place (Some it.recon) (held it.place (Some it.recon), item_at n.items i it at, (refl, refl, refl))

  pub reads : KeptLaw m → CodeLaw m → CutLaw m boxing → NarrowLaw boxing → KeyLaw m → (n n2 : Nearing Recon) (i : ℕ) → IsNext n i → ReadsNear m boxing (sheets_of t) states n n2 i → IsOpenNow m boxing seat past t states n → IsOpenNow m boxing seat past t states n2
  reads kept codes cuts narrows points n n2 i next R A = record {
    now = A.now;
    near = subst (IsNearOf m (sheets_of t) past (OpenScan seat All ∷ past)) (sym R.after)
        (near_reads m boxing (sheets_of t) past (OpenScan seat All ∷ past) n All seat states i R.item R.items R.live R.found _ kept codes cuts points A.now.legal (itself_opens (OpenScan seat All) past) A.now.holds A.now.told R.at R.reads R.kept A.near);
    rest = near_rests_on m boxing (sheets_of t) past (OpenScan seat All ∷ past) n n2 states i codes cuts narrows points A.now.holds.shape A.near next R A.rest;
  }

  pub falls : (n n2 : Nearing Recon) (i : ℕ) → ReadsNear m boxing (sheets_of t) states n n2 i → IsOpenNow m boxing seat past t states n → near_left (sheets_of t) n2 < near_left (sheets_of t) n
  falls n n2 i R A = near_falls m boxing (sheets_of t) past (OpenScan seat All ∷ past) n n2 states i A.now.holds.shape A.near R

  pub found : (n : Nearing Recon) (target : Point) (limit : ℕ) (rows : List NearRow) → IsOpenNow m boxing seat past t states n → n.target ≡ target → n.limit ≡ limit → AreHits n.limit n.found rows → IsDone n → NearRight past (OpenScan seat All ∷ past) target limit rows
  found n target limit rows A a b hits done =
      subst (λ p. NearRight past (OpenScan seat All ∷ past) p limit rows) a
      (subst (λ k. NearRight past (OpenScan seat All ∷ past) n.target k rows) b
      (near_ends m (sheets_of t) past (OpenScan seat All ∷ past) n All seat rows A.now.legal (itself_opens (OpenScan seat All) past) A.near hits done))

  pub walked : (n : Nearing Recon) (target : Point) (limit : ℕ) (rows : List NearRow) → IsOpenNow m boxing seat past t states n → n.target ≡ target → n.limit ≡ limit → AreHits n.limit n.found rows → IsDone n → (met : ℕ) → counted n.met ≡ met → (last : Option ℕ) → IsReach limit rows last → (w : ℕ) × NearWalk m boxing (sheets_of t) target last w × (counted w ≡ met)
  walked n target limit rows A a b hits done met fits last r =
      let (w, walk, is) = near_meets m boxing (sheets_of t) n rows last A.rest done hits (subst (λ k. IsReach k rows last) (sym b) r) in
      (w, subst (λ p. NearWalk m boxing (sheets_of t) p last w) a walk, is ∙ fits)
