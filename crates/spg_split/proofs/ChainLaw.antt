-- The pages once a chain below a root is divided.
use Rattle.std.proofs.Common.{◌≡◌, ℕ, zero, suc, ◌+◌, ◌-◌, ◌≤◌, ◌<◌, ℤ, Bool, true, false, List, [], ◌∷◌, ⊎_elim, Option, Some, None, get_or, set, length, length-set, replicate, refl, sym, ap, ◌∙◌, subst, arith}
use Rattle.std.proofs.lemmas.Bool.{cases_eq, cases_lt}
use Rattle.std.proofs.lemmas.List.{length-replicate, get_or-set_same, get_or-set_other, get_or_append_left, get_or_past}
use Rattle.std.proofs.Math.Seq.{get_or-append_right}
use Rattle.spg_opclass.specs.Meaning.{Meaning}
use Rattle.spg_forest.specs.View.{Place, Leaf}
use Rattle.spg_forest.specs.Spot.{Frame, Spot, Branch, Bucket, Nothing, IsIn, put_at}
use Rattle.spg_forest.specs.Tuples.{Tuple, Inner, IsAmong, Shows}
use Rattle.spg_forest.specs.Pages.{place, tuple_on}
use Rattle.spg_forest.specs.Sheets.{Sheets, sheet_at, pages_of, linked}
use Rattle.spg_forest.specs.Shape.{Shape, ArePages, spots, IsKindOf, IsTupleOf, IsRestOf, AreNodes}
use Rattle.spg_forest.specs.Walk.{spread}
use Rattle.spg_forest.specs.Edits.{put, tuple_of, spot_of, CanPut}
use Rattle.spg_forest.specs.Changes.{HasLists, Becomes, IsMovable, moved_to}
use Rattle.spg_forest.proofs.Edits.{sheet_other, sheet_laid, tuple_put}
use Rattle.spg_forest.proofs.Front.{nothing_at}
use Rattle.spg_forest.proofs.Picks.{same_shown}
use Rattle.spg_forest.proofs.Sections.{shape_shown}
use Rattle.spg_forest.proofs.Spots.{put_at_same, put_at_other}
use Rattle.spg_forest.proofs.Stock.{pages_kept, tuple_is}
use Rattle.spg_forest.proofs.Writes.{high_spot, inner_at}
use Rattle.spg_page.specs.Reads.{frame_in}
use Rattle.spg_page.proofs.SheetFacts.{free_place_free}
use Rattle.spg_tree.specs.Table.{Table, sheets_of, tuples_at, tuple_at, with_link}
use Rattle.spg_descend.specs.BareNodes.{bare}
use Rattle.spg_split.specs.Placing.{head_of, downlink, downlinks, HaveRooms}
use Rattle.spg_chain.specs.Listed.{chained}
use Rattle.spg_split.specs.Writing.{table_below, MayPart}
use Rattle.spg_tree.specs.Writes.{new_place}
use Rattle.spg_split.proofs.Chaining.{downlinks_length}
use Rattle.spg_split.proofs.Totals.{total}
use Rattle.spg_chain.proofs.ListTotals.{but_first}
use Rattle.spg_split.proofs.Written as written
use Rattle.spg_split.proofs.TwoPages.{AddsLists, join_lists, cleared_spots, parted_spots, parted_lists}
use Rattle.spg_split.proofs.ChainPages.{ListsStage, added_stage, taken_stage, lists_stage, linked_stage}
use Rattle.spg_descend.proofs.Stages.{Stage, begin_stage}

-- each downlink leads to the page of its list
downlink_block : (b : ℕ) (ts : List Tuple) (L : ℕ → List Leaf) (k n i : ℕ) (y : Place) → get_or (downlinks b ts L k n) i None ≡ Some y → y.block ≡ b
downlink_block b ts L k zero i y e = cc
downlink_block b ts L k (suc n) zero y e = go (head_of ts (L k)) e
  where
    go : (h : Option ℕ) → downlink b h ≡ Some y → y.block ≡ b
    go None e = cc
    go (Some o) e = let q : place b o ≡ y = cc in ap (λ (v : Place). v.block) (sym q)
downlink_block b ts L k (suc n) (suc i) y e = downlink_block b (chained ts 0 (L k)) L (suc k) n i y e

tick_pages : {Key Recon Cond : Type 0} (m : Meaning Key Recon Cond) (S : Sheets) (n : ℕ) → ArePages m S → ArePages m (record S { clock = n })
tick_pages m S n A = record { count = A.count; each = A.each; main = A.main; nulls = A.nulls; empty_root = A.empty_root; trees = A.trees; redirects = A.redirects }

-- what is known where a chain is divided on picked pages
pub record IsChainDivision {Key Recon Cond : Type 0} (m : Meaning Key Recon Cond) (u : Table) (x p : Place) (i q c : ℕ) (w : Frame) (L : ℕ → List Leaf) (k n : ℕ) (ls : List Leaf) (wp : Frame) (nsp : List (Option Place)) : Type 0 where
  pub may : MayPart u x p i q c (Inner w (bare n)) L k n
  pub shape : Shape m (sheets_of u)
  pub x_from : 3 ≤ x.block
  pub q_from : 3 ≤ q
  pub c_from : 3 ≤ c
  pub x_leaf : (sheet_at (sheets_of u) x.block).inner ≡ false
  pub c_leaf : (sheet_at (sheets_of u) c).inner ≡ false
  pub q_inner : (sheet_at (sheets_of u) q).inner ≡ true
  pub x_tree : (sheet_at (sheets_of u) x.block).nulls ≡ (sheet_at (sheets_of u) q).nulls
  pub c_tree : (sheet_at (sheets_of u) c).nulls ≡ (sheet_at (sheets_of u) q).nulls
  pub p_tree : (sheet_at (sheets_of u) p.block).nulls ≡ (sheet_at (sheets_of u) q).nulls
  pub chain : spots (sheets_of u) x ≡ Bucket ls
  pub some_leaf : 0 < length ls
  pub above : tuple_at u p ≡ Inner wp nsp
  pub leads : get_or nsp i None ≡ Some x
  pub rests : (j : ℕ) (l : Leaf) → IsIn l (L j) → IsRestOf m (sheet_at (sheets_of u) q).nulls l.rest
  pub labels : length w.labels ≡ n
  pub some_node : 0 < n
  pub same : w.all_same ≡ true → (label : ℤ) × (w.labels ≡ replicate 8 label)
  pub tuple : IsTupleOf m (sheet_at (sheets_of u) q).nulls w

module _ {Key Recon Cond : Type 0} (m : Meaning Key Recon Cond) (u : Table) (x p : Place) (i q c : ℕ) (w : Frame) (L : ℕ → List Leaf) (k n : ℕ) (ls : List Leaf) (wp : Frame) (nsp : List (Option Place)) (D : IsChainDivision m u x p i q c w L k n ls wp nsp) where
  abbrev M : MayPart u x p i q c (Inner w (bare n)) L k n
  M = D.may

  abbrev S : Sheets
  S = sheets_of u

  abbrev V : Place → Spot
  V = spots (sheets_of u)

  abbrev pub z : Place
  z = new_place u q

  abbrev t0 : Table
  t0 = written.t0 u x p i q c (Inner w (bare n)) L k n D.may

  abbrev t1 : Table
  t1 = written.t1 u x p i q c (Inner w (bare n)) L k n D.may

  abbrev tb : Table
  tb = written.tb u x p i q c (Inner w (bare n)) L k n D.may

  abbrev t3 : Table
  t3 = written.t3 u x p i q c (Inner w (bare n)) L k n D.may

  abbrev t4 : Table
  t4 = written.t4 u x p i q c (Inner w (bare n)) L k n D.may

  abbrev pub ds : List (Option Place)
  ds = written.ds u x p i q c (Inner w (bare n)) L k n D.may

  nodes_for : (ns : List (Option Place)) → length ns ≡ n → AreNodes w ns
  nodes_for ns e = record { each = e ∙ sym D.labels; some = let a = D.some_node in omega arith; same = D.same }

  bare_length : length (bare n) ≡ n
  bare_length = length-replicate n None

  G0 : Stage m S S V
  G0 = begin_stage m S V D.shape.pages (shape_shown m S D.shape)

  -- the inner tuple
  A1 : Stage m S (sheets_of t0) (put_at V z (Branch w (bare n))) × (spread (sheets_of t0) ≡ spread S + 1)
  A1 = added_stage m S S V q w n G0 D.q_from M.q_there.1 D.q_inner (nodes_for (bare n) bare_length) D.tuple M.inner_room

  z_not_x : z ≡ x → ⊥
  z_not_x e = M.x_not_q (sym (ap (λ (y : Place). y.block) e))

  chain_kept : put_at V z (Branch w (bare n)) x ≡ Bucket ls
  chain_kept = put_at_other V z (Branch w (bare n)) x (λ e. z_not_x (sym e)) ∙ D.chain

  -- the redirect
  A2 : Stage m S (sheets_of t1) (cleared_spots V u.clock x z w (bare n)) × (spread (sheets_of t1) + (length ls - 1) ≡ spread (sheets_of t0))
  A2 = taken_stage m S (sheets_of t0) (put_at V z (Branch w (bare n))) x z u.clock ls A1.0 D.x_from M.x_there.1 chain_kept D.some_leaf
      (written.chained_before u x p i q c (Inner w (bare n)) L k n M) (written.begins_before u x p i q c (Inner w (bare n)) L k n M) z_not_x D.q_from M.q_there.1

  -- the lists
  A3 : ListsStage m S (sheets_of t1) (cleared_spots V u.clock x z w (bare n)) x.block L 0 k
  A3 = lists_stage m S (sheets_of t1) (cleared_spots V u.clock x z w (bare n)) x.block L 0 k A2.0 D.x_from M.x_there.1 D.x_leaf
      (subst (λ ts. HaveRooms ts L 0 k) (sym (written.x_cleared u x p i q c (Inner w (bare n)) L k n M)) M.stay) (λ j l a. subst (λ (b : Bool). IsRestOf m b l.rest) (sym D.x_tree) (D.rests j l a))

  A4 : ListsStage m S (sheets_of tb) A3.spots c L k (n - k)
  A4 = lists_stage m S (sheets_of tb) A3.spots c L k (n - k) A3.stage D.c_from M.c_there.1 D.c_leaf M.rest (λ j l a. subst (λ (b : Bool). IsRestOf m b l.rest) (sym D.c_tree) (D.rests j l a))

  pub U : Place → Spot
  U = A4.spots

  both : AddsLists (cleared_spots V u.clock x z w (bare n)) U ds L 0
  unfolding U
  both = join_lists (cleared_spots V u.clock x z w (bare n)) A3.spots A4.spots (downlinks x.block (tuples_at t1 x.block) L 0 k) (downlinks c (tuples_at tb c) L k (n - k)) L A3.lists
      (subst (λ j. AddsLists A3.spots A4.spots (downlinks c (tuples_at tb c) L k (n - k)) L j) (sym (downlinks_length x.block (tuples_at t1 x.block) L 0 k)) A4.lists)

  ds_tree : (j : ℕ) (y : Place) → get_or ds j None ≡ Some y → (sheet_at S y.block).nulls ≡ (sheet_at S q).nulls
  ds_tree j y e =
      let xs : List (Option Place) = downlinks x.block (tuples_at t1 x.block) L 0 k in
      let ys : List (Option Place) = downlinks c (tuples_at tb c) L k (n - k) in
      ⊎_elim
      (λ h. ap (λ b. (sheet_at S b).nulls) (downlink_block x.block (tuples_at t1 x.block) L 0 k j y (sym (get_or_append_left xs ys None j h) ∙ e)) ∙ D.x_tree)
      (λ h. ap (λ b. (sheet_at S b).nulls) (downlink_block c (tuples_at tb c) L k (n - k) (j - length xs) y (sym (get_or-append_right xs ys j None h) ∙ e)) ∙ D.c_tree) (cases_lt j (length xs))

  -- the downlinks
  z_tuple : tuple_at t3 z ≡ Inner w (bare n)
  z_tuple = written.z_tuple u x p i q c (Inner w (bare n)) L k n M

  ds_length : length ds ≡ n
  ds_length = written.ds_length u x p i q c (Inner w (bare n)) L k n M

  linked_as : sheets_of t4 ≡ put (sheets_of t3) z (Inner w ds)
  linked_as = ap (λ (t : Tuple). put (sheets_of t3) z (Inner (frame_in t) ds)) z_tuple

  A5 : Stage m S (sheets_of t4) (put_at U z (Branch w ds)) × (spread (sheets_of t4) ≡ spread (sheets_of t3))
  unfolding U
  A5 =
      let (G, s) = linked_stage m S (sheets_of t3) A4.spots z w (bare n) ds A4.stage M.q_there.1 (written.z_offset u x p i q c (Inner w (bare n)) L k n M) z_tuple (ds_length ∙ sym bare_length) D.q_inner (nodes_for ds ds_length) D.tuple ds_tree in
      subst (λ (Z : Sheets). Stage m S Z (put_at A4.spots z (Branch w ds)) × (spread Z ≡ spread (sheets_of t3))) (sym linked_as)
      (subst (λ (y : Place). Stage m S (put (sheets_of t3) z (Inner w ds)) (put_at A4.spots y (Branch w ds))) (high_spot z D.q_from) G, s)

  -- the tuple above
  p_kind : ((sheet_at S p.block).inner ≡ true) × AreNodes wp nsp × IsTupleOf m (sheet_at S p.block).nulls wp
  p_kind = subst (λ (t : Tuple). IsKindOf m (sheet_at S p.block).inner (sheet_at S p.block).nulls t) D.above ((D.shape.pages.each p.block).kinds p.offset)

  abbrev pub nsp2 : List (Option Place)
  nsp2 = set nsp i (Some (new_place u q))

  p_tree : (j : ℕ) (y : Place) → get_or nsp2 j None ≡ Some y → (sheet_at S y.block).nulls ≡ (sheet_at S p.block).nulls
  p_tree j y e = ⊎_elim
      (λ h. let in_range : i < length nsp = ⊎_elim (λ g. g) (λ g. let f = past nsp i g in let d : None ≡ Some x = sym f ∙ D.leads in cc) (cases_lt i (length nsp)) in
      let f : Some z ≡ Some y = sym (ap (λ a. get_or nsp2 a None) h ∙ get_or-set_same nsp i (Some z) None in_range) ∙ e in let g : z ≡ y = cc in ap (λ (v : Place). (sheet_at S v.block).nulls) (sym g) ∙ sym D.p_tree)
      (λ h. D.shape.pages.trees p y wp nsp j (tuple_is S p ∙ D.above) (sym (get_or-set_other nsp i j (Some z) None h) ∙ e)) (cases_eq j i)
    where
      past : (ns : List (Option Place)) (i : ℕ) → length ns ≤ i → get_or ns i None ≡ None
      past [] i h = refl
      past (a ∷ ns) zero h = absurd (omega arith)
      past (a ∷ ns) (suc i) h = past ns i (omega arith)

  abbrev t5 : Table
  t5 = with_link t4 p i (Some (new_place u q))

  above_now : tuple_at t4 p ≡ Inner wp nsp
  above_now = written.p_tuple u x p i q c (Inner w (bare n)) L k n M ∙ D.above

  relinked_as : sheets_of t5 ≡ put (sheets_of t4) p (Inner wp nsp2)
  relinked_as = ap (λ (t : Tuple). put (sheets_of t4) p (linked t i (Some z))) above_now

  abbrev pub V6 : Place → Spot
  V6 = parted_spots U z w ds (spot_of p) wp nsp2

  A6 : Stage m S (sheets_of t5) V6 × (spread (sheets_of t5) ≡ spread (sheets_of t4))
  A6 =
      let (kind, nodes, tuple) = p_kind in
      let len : length nsp2 ≡ length nsp = length-set nsp i (Some z) in
      let (G, s) = linked_stage m S (sheets_of t4) (put_at U z (Branch w ds)) p wp nsp nsp2 A5.0 M.p_there.1 (written.p_offset u x p i q c (Inner w (bare n)) L k n M) above_now len kind (record { each = len ∙ nodes.each; some = let a = nodes.some in omega arith; same = nodes.same }) tuple p_tree in
      subst (λ (Z : Sheets). Stage m S Z V6 × (spread Z ≡ spread (sheets_of t4))) (sym relinked_as) (G, s)

  -- the whole
  abbrev pub S2 : Sheets
  S2 = sheets_of (table_below u x p i q c (Inner w (bare n)) L k n)

  spread_is : spread S2 + (length ls - 1) ≡ spread S + 1 + total but_first L 0 k + total but_first L k (n - k)
  spread_is = let a = A1.1 in let b = A2.1 in let d = A3.more in let e = A4.more in let f = A5.1 in let g = A6.1 in omega arith

  others : (b : ℕ) → (b ≡ x.block → ⊥) → (b ≡ p.block → ⊥) → (b ≡ q → ⊥) → (b ≡ c → ⊥) → sheet_at S2 b ≡ sheet_at S b
  others b nx np nq nc = sheet_other (sheets_of t4) p.block _ b np ∙ sheet_other (sheets_of t3) q _ b nq ∙ sheet_other (sheets_of tb) c _ b nc ∙ sheet_other (sheets_of t1) x.block _ b nx ∙ sheet_other (sheets_of t0) x.block _ b nx ∙ sheet_other S q _ b nq

  pub becomes : (touched : List ℕ) (more : ℕ) → length touched ≤ 8 → ((b : ℕ) → (IsAmong b touched → ⊥) → (b ≡ x.block → ⊥) × (b ≡ p.block → ⊥) × (b ≡ q → ⊥) × (b ≡ c → ⊥)) →
      1 + total but_first L 0 k + total but_first L k (n - k) ≤ (length ls - 1) + more → Becomes m S S2 V6 (suc S.clock) touched (record { pages = 0; ticks = 1; spread = more })
  becomes touched more few away le = record {
    shown = same_shown (pages_of (sheets_of t5)) (pages_of S2) V6 (λ b. refl) A6.0.shown;
    clock_is = omega arith;
    pages = tick_pages m (sheets_of t5) (u.clock + 1) (pages_kept m S (sheets_of t5) D.shape.pages A6.0.changed);
    within = record {
      others = λ b h. let (nx, np, nq, nc) = away b h in others b nx np nq nc;
      few = few;
      pages = let a = A6.0.count in (omega arith, omega arith);
      clock = (omega arith, omega arith);
      spread = let a = spread_is in omega arith;
    };
    kinds = A6.0.changed.kinds;
  }

  -- where the tuple above shows
  p_shown : V (spot_of p) ≡ Branch wp nsp
  p_shown = (inner_at S V p wp nsp (shape_shown m S D.shape) (record { block = M.p_there.1; positive = M.parent.0; within = let a = M.parent.1 in omega arith }) D.above).shown

  z_free : V z ≡ Nothing
  z_free = nothing_at (tuple_on (tuples_at u q)) z.offset (V z) ((sheet_laid S V q D.q_from (shape_shown m S D.shape)).shows z.offset) (free_place_free (tuples_at u q))

  pub movable : IsMovable V x z (spot_of p) wp nsp i
  movable = record { free = (z_free, λ e. absurd (omega arith)); parent = p_shown; downlink = D.leads }

  pub lists : HasLists (moved_to V S.clock x z (Bucket ls) (spot_of p) wp nsp i) V6 z w ds L
  lists = parted_lists V U u.clock x z (spot_of p) (Bucket ls) w wp (bare n) ds nsp i L
      (λ e. let a : Nothing ≡ Branch wp nsp = sym z_free ∙ ap V e ∙ p_shown in cc) z_not_x
      (λ e. let a : Branch wp nsp ≡ Bucket ls = sym p_shown ∙ ap V e ∙ D.chain in cc) p_shown both

  -- the new tuple and that above it
  pub count_after : length S2.sheets ≡ length S.sheets
  count_after = A6.0.count

  pub z_now : tuple_of S2 z ≡ Inner w ds
  z_now = subst (λ (s : Spot). Shows (tuple_on (sheet_at (sheets_of t5) q).tuples) z.offset s) lists.at ((sheet_laid (sheets_of t5) V6 q D.q_from A6.0.shown).shows z.offset)

  pub p_now : tuple_of S2 p ≡ Inner wp nsp2
  p_now = ap (λ (Z : Sheets). tuple_of Z p) relinked_as ∙ ap (λ (F : Place → Tuple). F p) (tuple_put (sheets_of t4) p (Inner wp nsp2) can) ∙ put_at_same (tuple_of (sheets_of t4)) p (Inner wp nsp2) p refl
    where
      can : CanPut (sheets_of t4) p
      can = let off = written.p_offset u x p i q c (Inner w (bare n)) L k n M in record { block = let a = written.count4 u x p i q c (Inner w (bare n)) L k n M in let b = M.p_there.1 in omega arith; positive = off.0; within = let a = off.1 in omega arith }

  pub leads_now : get_or nsp2 i None ≡ Some z
  leads_now = get_or-set_same nsp i (Some z) None (⊎_elim (λ g. g) (λ g. let f : None ≡ Some x = sym (get_or_past nsp i None g) ∙ D.leads in cc) (cases_lt i (length nsp)))

  pub kinds_after : (b : ℕ) → (sheet_at S2 b).inner ≡ (sheet_at S b).inner
  kinds_after b = (A6.0.kinds b).0
