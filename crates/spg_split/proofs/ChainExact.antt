-- A division below a root names exactly the blocks that it writes or adds.
use Rattle.std.proofs.Common.{◌≡◌, ℕ, zero, suc, ◌-◌, ◌<◌, Bool, true, false, List, [], ◌∷◌, ⊎_elim, Option, Some, None, get_or, get_or-set_same, set, length, refl, sym, ap, ◌∙◌, inl, arith}
use Rattle.std.proofs.lemmas.Bool.{cases_eq}
use Rattle.spg_forest.specs.View.{Place, Leaf}
use Rattle.spg_forest.specs.Spot.{Frame}
use Rattle.spg_forest.specs.Tuples.{Tuple, Inner, Live, Dead, Redirect, Placeholder, put_on}
use Rattle.spg_forest.specs.Pages.{tuple_on, with_tuple}
use Rattle.spg_forest.specs.Sheets.{free_place, links, linked}
use Rattle.spg_forest.specs.Edits.{added as with_leaf}
use Rattle.spg_forest.specs.Exact.{IsWritten}
use Rattle.spg_forest.proofs.Chain.{put_on_same, put_on_other}
use Rattle.spg_forest.proofs.Edits.{tuple_on-with}
use Rattle.spg_forest.proofs.Exact.{written_at, differs}
use Rattle.spg_page.specs.Changes.{added}
use Rattle.spg_page.specs.Told.{number_of}
use Rattle.spg_page.specs.Reads.{frame_in}
use Rattle.spg_page.proofs.SheetFacts.{free_place_free}
use Rattle.spg_chain.specs.Added.{IsLeafIn}
use Rattle.spg_chain.specs.Chains.{chain_members, offsets_of}
use Rattle.spg_chain.specs.Taken.{emptied}
use Rattle.spg_chain.proofs.Laid.{live_tuple, added_alone, added_behind}
use Rattle.spg_chain.proofs.Taking.{emptied_head}
use Rattle.spg_tree.specs.Table.{Table, sheets_of, tuples_at, tuple_at}
use Rattle.spg_tree.specs.declared.want.Want.{Want}
use Rattle.spg_split.specs.declared.homes.Homes.{Homes}
use Rattle.spg_split.specs.Homes.{AreHomes}
use Rattle.spg_split.specs.Placing.{placed}
use Rattle.spg_chain.specs.Listed.{chained}
use Rattle.spg_split.specs.Writing.{taken_from, table_below, MayPart}
use Rattle.spg_chain.proofs.Room.{added_live}
use Rattle.spg_split.proofs.Totals.{total, placed_differs}
use Rattle.spg_chain.proofs.ListTotals.{count}
use Rattle.spg_split.proofs.Written as written
use Rattle.spg_tree.proofs.Pages.{tuples_same, tuples_other, pages_same}

-- ---- a redirect stays where it is while leaves are put

leaf_beside : (ts : List Tuple) (last : Option ℕ) (l : Leaf) (o : ℕ) (to : Place) (stamp : ℕ) → IsLeafIn ts last → tuple_on ts o ≡ Redirect to stamp → tuple_on (with_leaf ts (number_of last) (suc (free_place ts)) l) o ≡ Redirect to stamp
leaf_beside ts None l o to stamp a e =
    ap (λ (T : ℕ → Tuple). T o) (added_alone ts l) ∙ put_on_other (tuple_on ts) (suc (free_place ts)) (Live l 0) o (not_free ts o to stamp e) ∙ e
  where
    not_free : (ts : List Tuple) (o : ℕ) (to : Place) (stamp : ℕ) → tuple_on ts o ≡ Redirect to stamp → o ≡ suc (free_place ts) → ⊥
    not_free ts o to stamp e q = let c : Redirect to stamp ≡ Placeholder = sym e ∙ ap (tuple_on ts) q ∙ free_place_free ts in cc
leaf_beside ts (Some zero) l o to stamp a e = let (k, n, f) = live_tuple (tuple_on ts 0) a in cc
leaf_beside ts (Some (suc j)) l o to stamp a e =
    let (k, n, f) = live_tuple (tuple_on ts (suc j)) a in
    let c : o ≡ suc (free_place ts) → ⊥ = λ q. let c : Redirect to stamp ≡ Placeholder = sym e ∙ ap (tuple_on ts) q ∙ free_place_free ts in cc in
    let d : o ≡ suc j → ⊥ = λ q. let c : Redirect to stamp ≡ Live k n = sym e ∙ ap (tuple_on ts) q ∙ f in cc in
    ap (λ (T : ℕ → Tuple). T o) (added_behind ts j k l n f) ∙ put_on_other (put_on (tuple_on ts) (suc j) (Live k (suc (free_place ts)))) (suc (free_place ts)) (Live l n) o c
    ∙ put_on_other (tuple_on ts) (suc j) (Live k (suc (free_place ts))) o d ∙ e

chain_beside : (ts : List Tuple) (last : Option ℕ) (ls : List Leaf) (o : ℕ) (to : Place) (stamp : ℕ) → IsLeafIn ts last → tuple_on ts o ≡ Redirect to stamp → tuple_on (chained ts (number_of last) ls) o ≡ Redirect to stamp
chain_beside ts last [] o to stamp a e = e
chain_beside ts last (l ∷ ls) o to stamp a e =
    chain_beside (with_leaf ts (number_of last) (suc (free_place ts)) l) (Some (suc (free_place ts))) ls o to stamp (added_live ts last l a) (leaf_beside ts last l o to stamp a e)

lists_beside : (ts : List Tuple) (L : ℕ → List Leaf) (k n o : ℕ) (to : Place) (stamp : ℕ) → tuple_on ts o ≡ Redirect to stamp → tuple_on (placed ts L k n) o ≡ Redirect to stamp
lists_beside ts L k zero o to stamp e = e
lists_beside ts L k (suc n) o to stamp e = lists_beside (chained ts 0 (L k)) L (suc k) n o to stamp (chain_beside ts None (L k) o to stamp tt e)

-- lists that go away go to another page
pub rest_away : (here away : Bool) (t t2 : Table) (b p : ℕ) (w v : Want) (h : Homes) → AreHomes here away t t2 b p w v h → (h.rest ≡ b → ⊥) → away ≡ true
rest_away true false t t2 b p w v h (i, r, e) n = absurd (n r)
rest_away true true t t2 b p w v h A n = refl
rest_away false false t t2 b p w v h (r, q, P) n = absurd (n r)
rest_away false true t t2 b p w v h A n = refl

module _ (t u : Table) (x p : Place) (i q c : ℕ) (inner : Tuple) (L : ℕ → List Leaf) (k n : ℕ) (M : MayPart u x p i q c inner L k n) (same : (b : ℕ) → tuples_at u b ≡ tuples_at t b)
    (wp : Frame) (nsp : List (Option Place)) (above : tuple_at u p ≡ Inner wp nsp) (leads : get_or nsp i None ≡ Some x) where
  abbrev z : Place
  z = written.z u x p i q c inner L k n M

  abbrev t0 : Table
  t0 = written.t0 u x p i q c inner L k n M

  abbrev t1 : Table
  t1 = written.t1 u x p i q c inner L k n M

  abbrev tb : Table
  tb = written.tb u x p i q c inner L k n M

  abbrev t3 : Table
  t3 = written.t3 u x p i q c inner L k n M

  abbrev t4 : Table
  t4 = written.t4 u x p i q c inner L k n M

  abbrev ds : List (Option Place)
  ds = written.ds u x p i q c inner L k n M

  abbrev pub T : Table
  T = table_below u x p i q c inner L k n

  abbrev lp : List Tuple
  lp = with_tuple (tuples_at t4 p.block) p.offset (linked (tuple_at t4 p) i (Some z))

  abbrev lz : List Tuple
  lz = with_tuple (tuples_at t3 q) z.offset (Inner (frame_in (tuple_at t3 z)) ds)

  pub count_T : length T.pages ≡ length u.pages
  count_T = pages_same t4 p.block lp ∙ written.count4 u x p i q c inner L k n M

  -- the tuple above
  p_here : tuples_at T p.block ≡ lp
  p_here = tuples_same t4 p.block lp (let a = written.count4 u x p i q c inner L k n M in let b = M.p_there.1 in omega arith)

  p_now : tuple_at T p ≡ Inner wp (set nsp i (Some z))
  p_now =
      let o = written.p_offset u x p i q c inner L k n M in
      ap (λ (ts : List Tuple). tuple_on ts p.offset) p_here ∙ ap (λ (F : ℕ → Tuple). F p.offset) (tuple_on-with (tuples_at t4 p.block) p.offset (linked (tuple_at t4 p) i (Some z)) o.0 (let b = o.1 in omega arith))
      ∙ put_on_same (tuple_on (tuples_at t4 p.block)) p.offset (linked (tuple_at t4 p) i (Some z)) p.offset refl
      ∙ ap (λ (v : Tuple). linked v i (Some z)) (written.p_tuple u x p i q c inner L k n M ∙ above)

  pub p_written : IsWritten (sheets_of t) (sheets_of T) p.block
  p_written = written_at (sheets_of t) (sheets_of T) p (λ e.
      let a : Inner wp (set nsp i (Some z)) ≡ Inner wp nsp = sym p_now ∙ e ∙ ap (λ (ts : List Tuple). tuple_on ts p.offset) (sym (same p.block)) ∙ above in
      let b : set nsp i (Some z) ≡ nsp = ap links a in
      let h : i < length nsp = let k = M.node in let l = ap (λ (v : Tuple). length (links v)) above in omega arith in
      let d : Some z ≡ Some x = sym (get_or-set_same nsp i (Some z) None h) ∙ ap (λ gs. get_or gs i None) b ∙ leads in
      let f : z ≡ x = cc in M.x_not_q (ap (λ (y : Place). y.block) (sym f)))

  -- the old head
  x_taken : tuple_on (tuples_at t1 x.block) x.offset ≡ Redirect z u.clock
  x_taken =
      let us : List Tuple = emptied (tuples_at u x.block) (offsets_of (chain_members (tuples_at u x.block) x.offset)) in
      let w = (emptied_head (tuples_at u x.block) x.offset M.chained M.begins).0 in
      ap (λ (ts : List Tuple). tuple_on ts x.offset) (written.x_cleared u x p i q c inner L k n M)
      ∙ ap (λ (F : ℕ → Tuple). F x.offset) (tuple_on-with us x.offset (Redirect z u.clock) w.0 (let b = w.1 in omega arith)) ∙ put_on_same (tuple_on us) x.offset (Redirect z u.clock) x.offset refl

  x_listed : tuple_on (tuples_at tb x.block) x.offset ≡ Redirect z u.clock
  x_listed = ap (λ (ts : List Tuple). tuple_on ts x.offset) (tuples_same t1 x.block (placed (tuples_at t1 x.block) L 0 k) (let a = written.count1 u x p i q c inner L k n M in let b = M.x_there.1 in omega arith))
      ∙ lists_beside (tuples_at t1 x.block) L 0 k x.offset z u.clock x_taken

  x_both : tuple_on (tuples_at t3 x.block) x.offset ≡ Redirect z u.clock
  x_both = ⊎_elim
      (λ e. ap (λ (b : ℕ). tuple_on (tuples_at t3 b) x.offset) e
      ∙ ap (λ (ts : List Tuple). tuple_on ts x.offset) (tuples_same tb c (placed (tuples_at tb c) L k (n - k)) (let a = written.countb u x p i q c inner L k n M in let b = M.c_there.1 in omega arith))
      ∙ lists_beside (tuples_at tb c) L k (n - k) x.offset z u.clock (ap (λ (b : ℕ). tuple_on (tuples_at tb b) x.offset) (sym e) ∙ x_listed))
      (λ d. ap (λ (ts : List Tuple). tuple_on ts x.offset) (tuples_other tb c (placed (tuples_at tb c) L k (n - k)) x.block d) ∙ x_listed) (cases_eq x.block c)

  x_now : tuple_at T x ≡ Redirect z u.clock
  x_now = ap (λ (ts : List Tuple). tuple_on ts x.offset) (tuples_other t4 p.block lp x.block M.x_not_p ∙ tuples_other t3 q lz x.block M.x_not_q) ∙ x_both

  pub x_written : IsWritten (sheets_of t) (sheets_of T) x.block
  x_written = written_at (sheets_of t) (sheets_of T) x (λ e.
      let f : Redirect z u.clock ≡ tuple_at u x = sym x_now ∙ e ∙ ap (λ (ts : List Tuple). tuple_on ts x.offset) (sym (same x.block)) in
      ⊎_elim (λ d. let g : Redirect z u.clock ≡ Dead = f ∙ d in cc) (λ (l, m, d, h). let g : Redirect z u.clock ≡ Live l m = f ∙ d in cc) M.begins)

  -- the new inner tuple
  z_linked : tuple_on (tuples_at t4 q) z.offset ≡ Inner (frame_in (tuple_at t3 z)) ds
  z_linked =
      let o = written.z_offset u x p i q c inner L k n M in
      ap (λ (ts : List Tuple). tuple_on ts z.offset) (tuples_same t3 q lz (let a = written.count3 u x p i q c inner L k n M in let b = M.q_there.1 in omega arith))
      ∙ ap (λ (F : ℕ → Tuple). F z.offset) (tuple_on-with (tuples_at t3 q) z.offset (Inner (frame_in (tuple_at t3 z)) ds) o.0 (let b = o.1 in omega arith))
      ∙ put_on_same (tuple_on (tuples_at t3 q)) z.offset (Inner (frame_in (tuple_at t3 z)) ds) z.offset refl

  z_now : tuple_on (tuples_at T q) z.offset ≡ Inner (frame_in (tuple_at t3 z)) ds
  z_now = ⊎_elim here (λ d. ap (λ (ts : List Tuple). tuple_on ts z.offset) (tuples_other t4 p.block lp q (λ a. d (sym a))) ∙ z_linked) (cases_eq p.block q)
    where
      here : p.block ≡ q → tuple_on (tuples_at T q) z.offset ≡ Inner (frame_in (tuple_at t3 z)) ds
      here e =
          let o = written.p_offset u x p i q c inner L k n M in
          ap (λ (b : ℕ). tuple_on (tuples_at T b) z.offset) (sym e) ∙ ap (λ (ts : List Tuple). tuple_on ts z.offset) p_here
          ∙ ap (λ (F : ℕ → Tuple). F z.offset) (tuple_on-with (tuples_at t4 p.block) p.offset (linked (tuple_at t4 p) i (Some z)) o.0 (let b = o.1 in omega arith))
          ∙ put_on_other (tuple_on (tuples_at t4 p.block)) p.offset (linked (tuple_at t4 p) i (Some z)) z.offset (λ f. written.p_not_z u x p i q c inner L k n M e (sym f))
          ∙ ap (λ (b : ℕ). tuple_on (tuples_at t4 b) z.offset) e ∙ z_linked

  pub q_written : IsWritten (sheets_of t) (sheets_of T) q
  q_written = inl (differs (tuples_at T q) (tuples_at t q) z.offset (λ e.
      let f : Inner (frame_in (tuple_at t3 z)) ds ≡ Placeholder = sym z_now ∙ e ∙ ap (λ (ts : List Tuple). tuple_on ts z.offset) (sym (same q)) ∙ free_place_free (tuples_at u q) in cc))

  -- the lists that go away
  pub c_written : (c ≡ x.block → ⊥) → 0 < total count L k (n - k) → IsWritten (sheets_of t) (sheets_of T) c
  c_written d h =
      let a : tuples_at T c ≡ placed (tuples_at tb c) L k (n - k) = tuples_other t4 p.block lp c M.c_not_p ∙ tuples_other t3 q lz c M.c_not_q
      ∙ tuples_same tb c (placed (tuples_at tb c) L k (n - k)) (let a = written.countb u x p i q c inner L k n M in let b = M.c_there.1 in omega arith) in
      let b : tuples_at tb c ≡ tuples_at t c = tuples_other t1 x.block (placed (tuples_at t1 x.block) L 0 k) c d ∙ tuples_other t0 x.block (taken_from (tuples_at t0 x.block) x.offset z t0.clock) c d
      ∙ tuples_other u q (added (tuples_at u q) inner) c M.c_not_q ∙ same c in
      inl (λ e. placed_differs (tuples_at tb c) L k (n - k) h (sym a ∙ e ∙ sym b))
