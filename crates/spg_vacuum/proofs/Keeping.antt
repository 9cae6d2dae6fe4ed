-- What is covered once a section is done.
use Rattle.std.proofs.Common.{◌≡◌, ℕ, suc, ◌+◌, ◌≤◌, ◌<◌, List, [], ◌∷◌, ◌++◌, ⊎_elim, Bool, true, false, Some, length, nat_lt, refl, sym, ap, ◌∙◌, subst, inl, inr, arith}
use Rattle.std.proofs.lemmas.Bool.{ltb-false}
use Rattle.spg_base.specs.Row.{RowAt}
use Rattle.spg_opclass.specs.Meaning.{Meaning}
use Rattle.spg_forest.specs.View.{Place, View}
use Rattle.spg_forest.specs.Sheets.{sheet_at}
use Rattle.spg_forest.specs.Shape.{Shape}
use Rattle.spg_forest.specs.Section.{Takes}
use Rattle.spg_forest.specs.Steps.{HasRow}
use Rattle.spg_forest.specs.Puts.{spreads}
use Rattle.spg_cover.specs.Vacuum.{Cover, VacuumHolds, Of, listed, leads_to}
use Rattle.spg_cover.proofs.Own.{block_law, pending_law, listing_law, settling_law}
use Rattle.spg_cover.proofs.Elsewhere.{finishes}
use Rattle.spg_cover.proofs.Roots.{handles_nothing}
use Rattle.spg_cover.proofs.Stands.{pending_stands}
use Rattle.spg_tree.specs.Table.{Table, sheets_of, tuple_at, tuples_at}
use Rattle.spg_vacuum.specs.declared.done.Done.TheVariants.{Swept}
use Rattle.spg_vacuum.specs.declared.vacuum.Vacuum.{Vacuum}
use Rattle.spg_vacuum.specs.Listing.{first_place, first_done}
use Rattle.spg_vacuum.specs.Handled.{HandlesBlock, HandlesPlace, found_at, found_from}
use Rattle.spg_vacuum.specs.declared.done.Work.TheVariants as works
use Rattle.spg_vacuum.specs.Vacuums.{IsVacuum, KeepsVacuum, LeavesNone, after_block, after_place, work_at, work_of}
use Rattle.spg_vacuum.proofs.Handling.{block_step}
use Rattle.spg_vacuum.proofs.Places.{listed_first}

-- fewer targets are covered as well
fewer : {R : Type 0} {V : View R} {OnLeaf done undone : Place → Type 0} {c b : ℕ} {target left : RowAt → Type 0} → ((row : RowAt) → left row → target row) → Cover V OnLeaf c b done undone target → Cover V OnLeaf c b done undone left
fewer h D = record {
  redirects = D.redirects;
  done_there = D.done_there;
  undone_there = D.undone_there;
  cover = λ row l. D.cover row (h row l);
  nearer = λ p row a l k. D.nearer p row a (h row l) k;
}

-- what is covered from a block on is so from an earlier one on
earlier : {R : Type 0} {V : View R} {OnLeaf done undone : Place → Type 0} {c b b2 : ℕ} {target : RowAt → Type 0} → b2 ≤ b → Cover V OnLeaf c b done undone target → Cover V OnLeaf c b2 done undone target
earlier h D = record {
  redirects = D.redirects;
  done_there = D.done_there;
  undone_there = D.undone_there;
  cover = λ row g. ⊎_elim (λ (u, l, a, e, k). inl (u, l, a, e, omega arith)) (λ z. ⊎_elim (λ a. inr (inl a)) (λ (x, (y, u, f, k, o, j), a). inr (inr (x, (y, u, f, k, o, omega arith), a))) z) (D.cover row g);
  nearer = D.nearer;
}

module _ {Key Recon Cond : Type 0} (m : Meaning Key Recon Cond) (t : Table) (v : Vacuum) (test : RowAt → Bool) (horizon : ℕ) (H : Shape m (sheets_of t)) (K : IsVacuum m t v (Of test)) (le : horizon ≤ v.stamp) where
  pub block_kept : (t2 : Table) (v2 : Vacuum) (rows : List RowAt) → v.next < length t.pages → HandlesBlock t t2 v.next test horizon rows → v2 ≡ after_block v (found_at v.stamp (sheet_at (sheets_of t) v.next)) rows → KeepsVacuum m t t2 v2 test horizon (Swept rows)
  block_kept t2 v2 rows there D e =
      let ((V1, G), T) = block_step m t v.next test horizon H K.from there t2 rows v.stamp le D in (
        T,
        λ left less. subst (λ (w : Vacuum). IsVacuum m t2 w (Of left)) (sym e) (record {
          from = (let k = K.from in omega arith);
          past = subst (λ k. v.stamp ≤ k) (sym (ap (λ (u : Table). u.clock) D.table)) K.past;
          cover = subst (λ k. VacuumHolds m (sheets_of t2) v.stamp k v.pending.done (listed v.pending.done v.pending.todo (found_at v.stamp (sheet_at (sheets_of t) v.next))) (Of left)) one
              (block_law m (sheets_of t) (sheets_of t2) V1 t2.touched (spreads 0) v.stamp v.next horizon v.pending.done v.pending.todo rows (found_at v.stamp (sheet_at (sheets_of t) v.next)) test left H K.past G T less K.cover);
        }),
      )
    where
      one : suc v.next ≡ v.next + 1
      one = omega arith

  -- the first place that was to do is done
  settled_there : (t2 : Table) (p : Place) (todo ps : List Place) (left : RowAt → Bool) → v.pending.todo ≡ p ∷ todo → VacuumHolds m (sheets_of t2) v.stamp v.next (v.pending.done ++ p ∷ []) (listed (v.pending.done ++ p ∷ []) todo ps) (Of left) →
      VacuumHolds m (sheets_of t2) v.stamp v.next (first_done v.pending.done (listed v.pending.done v.pending.todo ps)).done (first_done v.pending.done (listed v.pending.done v.pending.todo ps)).todo (Of left)
  settled_there t2 p todo ps left e D =
      subst (λ (xs : List Place). VacuumHolds m (sheets_of t2) v.stamp v.next (first_done v.pending.done xs).done (first_done v.pending.done xs).todo (Of left)) (sym (ap (λ xs. listed v.pending.done xs ps) e ∙ listed_first v.pending.done p todo ps))
      (settling_law m (sheets_of t2) v.stamp v.next (v.pending.done ++ p ∷ []) (listed (v.pending.done ++ p ∷ []) todo ps) left D)

  pub place_kept : (t2 : Table) (v2 : Vacuum) (rows : List RowAt) (p : Place) (todo : List Place) (inner : Bool) → 3 ≤ p.block → p.block < length t.pages → v.pending.todo ≡ p ∷ todo → (sheet_at (sheets_of t) p.block).inner ≡ inner →
      HandlesPlace inner t t2 p test horizon rows → v2 ≡ after_place v (found_from inner v.stamp t p) rows → KeepsVacuum m t t2 v2 test horizon (Swept rows)
  place_kept t2 v2 rows p todo false high there q i D e =
      let ((V1, G), T) = block_step m t p.block test horizon H (omega arith) there t2 rows v.stamp le D in
      let C : VacuumHolds m (sheets_of t) v.stamp v.next v.pending.done (p ∷ todo) (Of test) = subst (λ (xs : List Place). VacuumHolds m (sheets_of t) v.stamp v.next v.pending.done xs (Of test)) q K.cover in (
        T,
        λ left less. subst (λ (w : Vacuum). IsVacuum m t2 w (Of left)) (sym e) (record {
          from = (let k = K.from in omega arith);
          past = subst (λ k. v.stamp ≤ k) (sym (ap (λ (u : Table). u.clock) D.table)) K.past;
          cover = settled_there t2 p todo (found_at v.stamp (sheet_at (sheets_of t) p.block)) left q
              (pending_law m (sheets_of t) (sheets_of t2) V1 t2.touched (spreads 0) v.stamp v.next horizon p v.pending.done todo rows (found_at v.stamp (sheet_at (sheets_of t) p.block)) test left H K.past i G T less C);
        }),
      )
  place_kept t2 v2 rows p todo true high there q i (f, s) e =
      let C : VacuumHolds m (sheets_of t) v.stamp v.next v.pending.done (p ∷ todo) (Of test) = subst (λ (xs : List Place). VacuumHolds m (sheets_of t) v.stamp v.next v.pending.done xs (Of test)) q K.cover in
      let N : Takes m (sheets_of t) (sheets_of t) [] (spreads 0) horizon (HasRow []) = (handles_nothing m (sheets_of t) p.block v.stamp horizon test H i le).1 in
      let L = listing_law m (sheets_of t) v.stamp v.next p v.pending.done todo test H K.past high i C in (
        subst (λ (rs : List RowAt). Takes m (sheets_of t) (sheets_of t2) t2.touched (spreads 0) horizon (HasRow rs)) (sym f) (subst (λ (u : Table). Takes m (sheets_of t) (sheets_of u) u.touched (spreads 0) horizon (HasRow [])) (sym s) N),
        λ left less. subst (λ (w : Vacuum). IsVacuum m t2 w (Of left)) (sym e) (record {
          from = (let k = K.from in omega arith);
          past = subst (λ k. v.stamp ≤ k) (sym (ap (λ (u : Table). u.clock) s)) K.past;
          cover = subst (λ (u : Table). VacuumHolds m (sheets_of u) v.stamp v.next (first_done v.pending.done (listed v.pending.done v.pending.todo (leads_to (tuple_at t p)))).done (first_done v.pending.done (listed v.pending.done v.pending.todo (leads_to (tuple_at t p)))).todo (Of left)) (sym s)
              (settled_there t p todo (leads_to (tuple_at t p)) left q (fewer (λ row l. (less row l).0) L));
        }),
      )

-- ---- what is next
pub block_next : (todo : List Place) (more : Bool) → work_at todo more ≡ works.Block → (todo ≡ []) × (more ≡ true)
block_next (p ∷ ps) more e = cc
block_next [] true e = (refl, refl)
block_next [] false e = cc

pub end_next : (todo : List Place) (more : Bool) → work_at todo more ≡ works.Finish → (todo ≡ []) × (more ≡ false)
end_next (p ∷ ps) more e = cc
end_next [] true e = cc
end_next [] false e = (refl, refl)

pub place_next : (todo : List Place) (more : Bool) → work_at todo more ≡ works.Pending → (p : Place) × (ps : List Place) × (todo ≡ p ∷ ps)
place_next (p ∷ ps) more e = (p, ps, refl)
place_next [] true e = cc
place_next [] false e = cc

pub first_of_todo : (todo : List Place) (p : Place) → first_place todo ≡ Some p → (ps : List Place) × (todo ≡ p ∷ ps)
first_of_todo [] p e = cc
first_of_todo (q ∷ qs) p e = let k : q ≡ p = cc in (qs, ap (λ z. z ∷ qs) k)

-- the place to do is a tuple's
pub place_stands : {Key Recon Cond : Type 0} (m : Meaning Key Recon Cond) (t : Table) (v : Vacuum) (test : RowAt → Bool) → Shape m (sheets_of t) → IsVacuum m t v (Of test) → (p : Place) (ps : List Place) → v.pending.todo ≡ p ∷ ps → 3 ≤ p.block →
    (p.block < length t.pages) × (0 < p.offset) × (p.offset ≤ length (tuples_at t p.block))
place_stands m t v test H K p ps q high =
    let (a, b, c, d) = pending_stands m (sheets_of t) v.stamp v.next p v.pending.done ps test H high (subst (λ (xs : List Place). VacuumHolds m (sheets_of t) v.stamp v.next v.pending.done xs (Of test)) q K.cover) in (a, b, c)

-- at its end a vacuum leaves no target
pub none_left : {Key Recon Cond : Type 0} (m : Meaning Key Recon Cond) (t : Table) (v : Vacuum) → work_of v t ≡ works.Finish → LeavesNone m t v
none_left m t v e targets H K row r =
    let (n, f) = end_next v.pending.todo (nat_lt v.next (length t.pages)) e in
    let h = ltb-false v.next (length t.pages) f in
    finishes m (sheets_of t) v.stamp v.pending.done targets H (earlier h (subst (λ (xs : List Place). VacuumHolds m (sheets_of t) v.stamp v.next v.pending.done xs (Of targets)) n K.cover)) row r
