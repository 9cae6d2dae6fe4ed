-- A root leaf page whose leaves are divided among lists on another page.
use Rattle.std.proofs.Common.{◌≡◌, ℕ, zero, suc, ◌+◌, ◌≤◌, ◌<◌, ℤ, Bool, true, false, List, [], ◌∷◌, ◌⊎◌, ⊎_elim, Option, Some, None, get_or, length, length-set, replicate, refl, sym, ap, ◌∙◌, subst, inl, inr, arith}
use Rattle.std.proofs.lemmas.Bool.{cases_eq}
use Rattle.spg_opclass.specs.Meaning.{Meaning}
use Rattle.spg_forest.specs.View.{Place, Leaf}
use Rattle.spg_forest.specs.Spot.{Frame, Spot, Branch, Bucket, Nothing, IsIn, put_at}
use Rattle.spg_forest.specs.Tuples.{Tuple, Inner}
use Rattle.spg_forest.specs.Pages.{place, tuple_on, IsShown}
use Rattle.spg_forest.specs.Sheets.{Sheet, Sheets, sheet_at, with_tuples, pages_of, size_of}
use Rattle.spg_forest.specs.Shape.{Shape, spots, IsTupleOf, IsRestOf}
use Rattle.spg_forest.specs.Section.{IsWithin}
use Rattle.spg_forest.specs.Walk.{page_spread}
use Rattle.spg_forest.specs.Edits.{with_sheet, tuple_of, MayStand, AreChanged}
use Rattle.spg_forest.specs.Changes.{HasLists, Becomes}
use Rattle.spg_forest.proofs.Blocks.{with_block, in_block, off_block}
use Rattle.spg_forest.proofs.ChainWrites.{block_shown}
use Rattle.spg_forest.proofs.Edits.{sheet_laid, sheet_same, sheet_other, inner_root_shown}
use Rattle.spg_forest.proofs.Sections.{shape_shown}
use Rattle.spg_forest.proofs.Spots.{put_at_same, put_at_other, cases_place}
use Rattle.spg_forest.proofs.Stock.{changed_none, changed_page, pages_kept, spread_set}
use Rattle.spg_forest.proofs.Puts.{may_leaf}
use Rattle.spg_split.specs.Placing.{placed, downlinks, HaveRooms}
use Rattle.spg_split.proofs.Chaining.{ShowsLists, shows_lists, placed_tuple, downlinks_length}
use Rattle.spg_split.proofs.Totals.{placed_fits}

module _ {Key Recon Cond : Type 0} (m : Meaning Key Recon Cond) (S : Sheets) (b root : ℕ) (L : ℕ → List Leaf) (n : ℕ) (w : Frame)
    (H : Shape m S) (high : 3 ≤ b) (there : b < length S.sheets) (pos : 0 < root) (low : root < 3) (leaf_page : (sheet_at S b).inner ≡ false) (tree : (sheet_at S b).nulls ≡ (sheet_at S root).nulls)
    (rooms : HaveRooms (sheet_at S b).tuples L 0 n) (rests : (j : ℕ) (l : Leaf) → IsIn l (L j) → IsRestOf m (sheet_at S root).nulls l.rest)
    (labels : length w.labels ≡ n) (some : 0 < n) (same : w.all_same ≡ true → (label : ℤ) × (w.labels ≡ replicate 8 label)) (tuple : IsTupleOf m (sheet_at S root).nulls w) (small : size_of (Inner w (downlinks b (sheet_at S b).tuples L 0 n)) ≤ 8156) where
  abbrev ts : List Tuple
  ts = (sheet_at S b).tuples

  abbrev us : List Tuple
  us = placed ts L 0 n

  abbrev ds : List (Option Place)
  ds = downlinks b ts L 0 n

  abbrev pub Sb : Sheets
  Sb = with_sheet S b (with_tuples (sheet_at S b) us)

  abbrev pub root_sheet : Sheet
  root_sheet = record { inner = true; nulls = (sheet_at S root).nulls; tuples = Inner w ds ∷ [] }

  abbrev pub S2 : Sheets
  S2 = with_sheet Sb root root_sheet

  apart : root ≡ b → ⊥
  apart e = absurd (omega arith)

  root_there : root < length S.sheets
  root_there = let a = H.pages.count in omega arith

  after_there : root < length Sb.sheets
  after_there = let a = length-set S.sheets b (with_tuples (sheet_at S b) us) in let r = root_there in omega arith

  root_was : sheet_at Sb root ≡ sheet_at S root
  root_was = sheet_other S b (with_tuples (sheet_at S b) us) root apart

  -- what is shown
  Y : ℕ → Spot
  Y o = spots S (place b o)

  T : ShowsLists ts Y b L 0 n
  unfolding Y
  T = shows_lists ts Y b L 0 n (sheet_laid S (spots S) b high (shape_shown m S H))

  pub V2 : Place → Spot
  V2 = put_at (with_block (spots S) b T.spots) (place root 0) (Branch w ds)

  pub shown : IsShown (pages_of S2) V2
  unfolding V2
  shown = inner_root_shown Sb (with_block (spots S) b T.spots) root root_sheet w ds (block_shown S (spots S) b (with_tuples (sheet_at S b) us) T.spots (shape_shown m S H) high there T.laid) pos low after_there refl

  off_root : (x : Place) → x.block ≡ b → V2 x ≡ T.spots x.offset
  unfolding V2
  off_root x e =
      put_at_other (with_block (spots S) b T.spots) (place root 0) (Branch w ds) x (λ q. apart (sym (ap (λ (u : Place). u.block) q) ∙ e))
      ∙ ap (with_block (spots S) b T.spots) (there_at x e) ∙ in_block (spots S) b T.spots x.offset
    where
      there_at : (x : Place) → x.block ≡ b → x ≡ place b x.offset
      there_at x e i = record { block = e i; offset = x.offset }

  pub lists : HasLists (spots S) V2 (place root 0) w ds L
  unfolding V2 Y
  lists = record {
    at = put_at_same (with_block (spots S) b T.spots) (place root 0) (Branch w ds) (place root 0) refl;
    lists = λ j y e. let (p, q, r, z) = T.lists j y e in
        (off_root y p ∙ q ∙ ap (λ i. Bucket (L i)) (zero_plus j), ap (spots S) (at_block y p) ∙ r, z);
    apart = T.apart;
    cases = λ x. ⊎_elim (λ e. inl (inl e)) (λ k. ⊎_elim
        (λ e. ⊎_elim
        (λ (i, q). inl (inr (i, q ∙ ap Some (sym (at_block x e)))))
        (λ q. ⊎_elim (λ c. inl (inr c)) (λ c. inr ((λ d. ⊎_elim k c d), off_root x e ∙ q ∙ ap (spots S) (sym (at_block x e)))) (decided x (off_root x e ∙ q ∙ ap (spots S) (sym (at_block x e))))) (T.cases x.offset))
        (λ e. inr (
          (λ d. ⊎_elim k (λ (i, q). e (T.lists i x q).0) d),
          put_at_other (with_block (spots S) b T.spots) (place root 0) (Branch w ds) x k ∙ off_block (spots S) b T.spots x e,
        )) (cases_eq x.block b)) (cases_place x (place root 0));
  }
    where
      at_block : (x : Place) → x.block ≡ b → x ≡ place b x.offset
      at_block x e i = record { block = e i; offset = x.offset }

      zero_plus : (j : ℕ) → 0 + j ≡ j
      zero_plus j = omega arith

      -- where nothing has changed, no downlink leads
      decided : (x : Place) → V2 x ≡ spots S x → ((j : ℕ) × (get_or ds j None ≡ Some x)) ⊎ ((j : ℕ) × (get_or ds j None ≡ Some x) → ⊥)
      decided x e = inr (λ (j, q). let (p, s, r, z) = T.lists j x q in let a : Bucket (L (0 + j)) ≡ Nothing = sym s ∙ sym (off_root x p) ∙ e ∙ ap (spots S) (at_block x p) ∙ r in cc)

  -- what stands on the pages
  leaf_may : (o : ℕ) → ((tuple_on us o ≡ tuple_of S (place b o)) × ((with_tuples (sheet_at S b) us).inner ≡ (sheet_at S b).inner)) ⊎ MayStand m Sb (place b o) (tuple_on us o)
  leaf_may o = ⊎_elim (λ e. inl (e, refl))
      (λ (j, l, i, a, e). inr (subst (λ (t : Tuple). MayStand m Sb (place b o) t) (sym e)
      (may_leaf m Sb (place b o) l i (ap (λ (s : Sheet). s.inner) leaf_is ∙ leaf_page) (subst (λ (x : Bool). IsRestOf m x l.rest) (sym (ap (λ (s : Sheet). s.nulls) leaf_is ∙ tree)) (rests j l a))))) (placed_tuple ts L 0 n o)
    where
      leaf_is : sheet_at Sb b ≡ with_tuples (sheet_at S b) us
      leaf_is = sheet_same S b (with_tuples (sheet_at S b) us) there

  nulls_at : (d : ℕ) → (sheet_at S2 d).nulls ≡ (sheet_at S d).nulls
  nulls_at d = ⊎_elim
      (λ e. ap (λ (i : ℕ). (sheet_at S2 i).nulls) e ∙ ap (λ (s : Sheet). s.nulls) (sheet_same Sb root root_sheet after_there) ∙ ap (λ (i : ℕ). (sheet_at S i).nulls) (sym e))
      (λ k. ap (λ (s : Sheet). s.nulls) (sheet_other Sb root root_sheet d k) ∙ ⊎_elim
      (λ e. ap (λ (i : ℕ). (sheet_at Sb i).nulls) e ∙ ap (λ (s : Sheet). s.nulls) (sheet_same S b (with_tuples (sheet_at S b) us) there) ∙ ap (λ (i : ℕ). (sheet_at S i).nulls) (sym e))
      (λ k. ap (λ (s : Sheet). s.nulls) (sheet_other S b (with_tuples (sheet_at S b) us) d k)) (cases_eq d b)) (cases_eq d root)

  root_may : (o : ℕ) → MayStand m S2 (place root o) (tuple_on root_sheet.tuples o)
  root_may zero = record { kind = tt; tree = λ y f gs i e h. cc; redirect = λ y u e. cc }
  root_may (suc zero) = record {
    kind = (ap (λ (s : Sheet). s.inner) root_is, record { each = downlinks_length b ts L 0 n ∙ sym labels; some = let e = downlinks_length b ts L 0 n in omega arith; same = same }, subst (λ (x : Bool). IsTupleOf m x w) (sym (nulls_at root)) tuple);
    tree = λ y f gs i e h. let c : ds ≡ gs = cc in let (p, q, r, z) = T.lists i y (ap (λ hs. get_or hs i None) c ∙ h) in nulls_at y.block ∙ ap (λ (d : ℕ). (sheet_at S d).nulls) p ∙ tree ∙ sym (nulls_at root);
    redirect = λ y u e. cc;
  }
    where
      root_is : sheet_at S2 root ≡ root_sheet
      root_is = sheet_same Sb root root_sheet after_there
  root_may (suc (suc o)) = record { kind = tt; tree = λ y f gs i e h. cc; redirect = λ y u e. cc }

  pub changed : AreChanged m S S2
  changed = changed_page m S Sb root root_sheet
      (changed_page m S S b (with_tuples (sheet_at S b) us) (changed_none m S H.pages) there refl (placed_fits ts L 0 n (H.pages.each b).fits rooms) leaf_may (λ k. absurd (omega arith)) (λ k. refl))
      after_there (ap (λ (s : Sheet). s.nulls) (sym root_was)) (omega arith) (λ o. inr (root_may o)) (λ g e. cc) (λ g. absurd (omega arith))

  -- what it costs
  pub within : (more : ℕ) → page_spread root root_sheet.tuples + page_spread b us ≤ page_spread root (sheet_at S root).tuples + page_spread b ts + more → IsWithin S S2 (b ∷ root ∷ []) (record { pages = 0; ticks = 0; spread = more })
  within more le = record {
    others = λ d k. sheet_other Sb root root_sheet d (λ e. k (inr (inl e))) ∙ sheet_other S b (with_tuples (sheet_at S b) us) d (λ e. k (inl e));
    few = omega arith;
    pages = let x = length-set S.sheets b (with_tuples (sheet_at S b) us) in let y = length-set Sb.sheets root root_sheet in (omega arith, omega arith);
    clock = (omega arith, omega arith);
    spread = let x = spread_set S b (with_tuples (sheet_at S b) us) there in let y = spread_set Sb root root_sheet after_there in let z = ap (λ (s : Sheet). page_spread root s.tuples) root_was in omega arith;
  }

  pub becomes : (more : ℕ) → page_spread root root_sheet.tuples + page_spread b us ≤ page_spread root (sheet_at S root).tuples + page_spread b ts + more → Becomes m S S2 V2 S.clock (b ∷ root ∷ []) (record { pages = 0; ticks = 0; spread = more })
  becomes more le = record { shown = shown; clock_is = refl; pages = pages_kept m S S2 H.pages changed; within = within more le; kinds = changed.kinds }
