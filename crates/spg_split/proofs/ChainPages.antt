-- The pages while a chain below a root is divided: what each write shows, and what it costs.
use Rattle.std.proofs.Common.{◌≡◌, ℕ, zero, suc, ◌+◌, ◌-◌, ◌≤◌, ◌<◌, Bool, true, false, List, ◌⊎◌, ⊎_elim, Option, Some, None, get_or, length, length-set, refl, sym, ap, ◌∙◌, subst, inl, inr, arith}
use Rattle.std.proofs.lemmas.Bool.{cases_eq}
use Rattle.spg_opclass.specs.Meaning.{Meaning}
use Rattle.spg_forest.specs.View.{Place, Leaf}
use Rattle.spg_forest.specs.Spot.{Frame, Spot, Branch, Bucket, Forward, IsIn, put_at}
use Rattle.spg_forest.specs.Tuples.{Tuple, Inner, Live, Redirect, Placeholder}
use Rattle.spg_forest.specs.Pages.{place, tuple_on, with_tuple}
use Rattle.spg_forest.specs.Sheets.{Sheets, sheet_at, with_tuples, size_of, free_place}
use Rattle.spg_forest.specs.Shape.{IsTupleOf, IsRestOf, AreNodes}
use Rattle.spg_forest.specs.Walk.{spread, spread_at, is_live}
use Rattle.spg_forest.specs.Edits.{with_sheet, tuple_of, put, CanPut, MayStand, spot_of}
use Rattle.spg_forest.proofs.Blocks.{with_block}
use Rattle.spg_forest.proofs.ChainWrites.{block_shown}
use Rattle.spg_forest.proofs.Edits.{sheet_laid, sheet_shown, write_shown}
use Rattle.spg_forest.proofs.Stock.{changed_page, changed_put, spread_set, spread_put}
use Rattle.spg_forest.proofs.Puts.{may_leaf}
use Rattle.spg_forest.proofs.Writes.{inner_at}
use Rattle.spg_page.specs.Changes.{room_of}
use Rattle.spg_page.specs.Kinds.{IsOffset}
use Rattle.spg_page.proofs.SheetFacts.{free_place_free, free_place_length, weight-replaced, added_fits}
use Rattle.spg_chain.specs.Chains.{IsChainedPage, BeginsChain}
use Rattle.spg_chain.proofs.Taking.{takes_laid_out}
use Rattle.spg_descend.specs.BareNodes.{bare}
use Rattle.spg_split.specs.Writing.{taken_from}
use Rattle.spg_descend.proofs.Stages.{Stage, high_spread, kinds_set}
use Rattle.spg_split.proofs.Emptying.{chain_taken}
use Rattle.spg_chain.proofs.Room.{least_weight}
use Rattle.spg_split.specs.Placing.{placed, downlinks, HaveRooms}
use Rattle.spg_split.proofs.Chaining.{ShowsLists, shows_lists, placed_tuple}
use Rattle.spg_split.proofs.Totals.{placed_fits, total, placed_spread}
use Rattle.spg_chain.proofs.ListTotals.{but_first}
use Rattle.spg_split.proofs.TwoPages.{AddsLists, page_lists}

module _ {Key Recon Cond : Type 0} (m : Meaning Key Recon Cond) (S : Sheets) where
  -- lists put on a page
  pub record ListsStage (S1 : Sheets) (V : Place → Spot) (b : ℕ) (L : ℕ → List Leaf) (k n : ℕ) : Type 0 where
    pub spots : Place → Spot
    pub stage : Stage m S (with_sheet S1 b (with_tuples (sheet_at S1 b) (placed (sheet_at S1 b).tuples L k n))) spots
    pub lists : AddsLists V spots (downlinks b (sheet_at S1 b).tuples L k n) L k
    pub more : spread (with_sheet S1 b (with_tuples (sheet_at S1 b) (placed (sheet_at S1 b).tuples L k n))) ≡ spread S1 + total but_first L k n

  pub lists_stage : (S1 : Sheets) (V : Place → Spot) (b : ℕ) (L : ℕ → List Leaf) (k n : ℕ) → Stage m S S1 V → 3 ≤ b → b < length S.sheets → (sheet_at S b).inner ≡ false → HaveRooms (sheet_at S1 b).tuples L k n → ((j : ℕ) (l : Leaf) → IsIn l (L j) → IsRestOf m (sheet_at S b).nulls l.rest) → ListsStage S1 V b L k n
  lists_stage S1 V b L k n G high there leaf rooms rests = record {
    spots = with_block V b T.spots;
    stage = record {
      shown = block_shown S1 V b (with_tuples (sheet_at S1 b) us) T.spots G.shown high there1 T.laid;
      changed = changed_page m S S1 b (with_tuples (sheet_at S1 b) us) G.changed there1 refl (placed_fits ts L k n (G.changed.fits b) rooms) may (λ h. absurd (omega arith)) (λ h. refl);
      count = length-set S1.sheets b (with_tuples (sheet_at S1 b) us) ∙ G.count;
      kinds = λ d. let (a, c) = kinds_set S1 b us there1 d in let (e, f) = G.kinds d in (a ∙ e, c ∙ f);
    };
    lists = page_lists V b ts L k n T;
    more = let a = spread_set S1 b (with_tuples (sheet_at S1 b) us) there1 in let c = high_spread b us high in let d = high_spread b ts high in let e = placed_spread ts L k n in omega arith;
  }
    where
      ts : List Tuple
      ts = (sheet_at S1 b).tuples

      us : List Tuple
      us = placed (sheet_at S1 b).tuples L k n

      there1 : b < length S1.sheets
      there1 = let c = G.count in omega arith

      T : ShowsLists (sheet_at S1 b).tuples (λ o. V (place b o)) b L k n
      T = shows_lists (sheet_at S1 b).tuples (λ o. V (place b o)) b L k n (sheet_laid S1 V b high G.shown)

      may : (o : ℕ) → ((tuple_on (placed (sheet_at S1 b).tuples L k n) o ≡ tuple_of S1 (place b o)) × ((sheet_at S1 b).inner ≡ (sheet_at S1 b).inner)) ⊎ MayStand m (with_sheet S1 b (with_tuples (sheet_at S1 b) (placed (sheet_at S1 b).tuples L k n))) (place b o) (tuple_on (placed (sheet_at S1 b).tuples L k n) o)
      may o = ⊎_elim (λ e. inl (e, refl))
          (λ (j, l, i, a, e). inr (subst (λ (t : Tuple). MayStand m (with_sheet S1 b (with_tuples (sheet_at S1 b) (placed (sheet_at S1 b).tuples L k n))) (place b o) t) (sym e)
          (let (p, q) = kinds_set S1 b us there1 b in let (r, s) = G.kinds b in
          may_leaf m (with_sheet S1 b (with_tuples (sheet_at S1 b) (placed (sheet_at S1 b).tuples L k n))) (place b o) l i (p ∙ r ∙ leaf) (subst (λ (x : Bool). IsRestOf m x l.rest) (sym (q ∙ s)) (rests j l a))))) (placed_tuple (sheet_at S1 b).tuples L k n o)

  put_kinds : (S1 : Sheets) (V : Place → Spot) (x : Place) (t : Tuple) → Stage m S S1 V → x.block < length S1.sheets → (d : ℕ) → ((sheet_at (put S1 x t) d).inner ≡ (sheet_at S d).inner) × ((sheet_at (put S1 x t) d).nulls ≡ (sheet_at S d).nulls)
  put_kinds S1 V x t G h d = let (a, c) = kinds_set S1 x.block (with_tuple (sheet_at S1 x.block).tuples x.offset t) h d in let (e, f) = G.kinds d in (a ∙ e, c ∙ f)

  -- an inner tuple that leads nowhere, at the free place of a page
  pub added_stage : (S1 : Sheets) (V : Place → Spot) (b : ℕ) (w : Frame) (n : ℕ) → Stage m S S1 V → 3 ≤ b → b < length S.sheets → (sheet_at S b).inner ≡ true → AreNodes w (bare n) → IsTupleOf m (sheet_at S b).nulls w → size_of (Inner w (bare n)) + 4 ≤ room_of (sheet_at S1 b).tuples 1 →
      let z : Place = place b (suc (free_place (sheet_at S1 b).tuples)) in Stage m S (put S1 z (Inner w (bare n))) (put_at V z (Branch w (bare n))) × (spread (put S1 z (Inner w (bare n))) ≡ spread S1 + 1)
  added_stage S1 V b w n G high there kind nodes tuple room = (
    record {
      shown = write_shown S1 V z t (Branch w (bare n)) G.shown high can (λ l i e. let c : Placeholder ≡ Live l i = sym (free_place_free ts) ∙ e in cc) refl;
      changed = changed_put m S S1 z t G.changed can may (added_fits ts t (G.changed.fits b) room) (inl high);
      count = length-set S1.sheets b (with_tuples (sheet_at S1 b) (with_tuple ts z.offset t)) ∙ G.count;
      kinds = put_kinds S1 V z t G can.block;
    },
    let a = spread_put S1 z t can (inl high) in let e = ap spread_at (free_place_free ts) in omega arith,
  )
    where
      ts : List Tuple
      ts = (sheet_at S1 b).tuples

      z : Place
      z = place b (suc (free_place (sheet_at S1 b).tuples))

      t : Tuple
      t = Inner w (bare n)

      can : CanPut S1 (place b (suc (free_place (sheet_at S1 b).tuples)))
      can = record { block = let c = G.count in omega arith; positive = omega arith; within = let f = free_place_length (sheet_at S1 b).tuples in omega arith }

      nothing : (n i : ℕ) (y : Place) → get_or (bare n) i None ≡ Some y → ⊥
      nothing zero i y e = cc
      nothing (suc n) zero y e = cc
      nothing (suc n) (suc i) y e = nothing n i y e

      may : MayStand m S1 (place b (suc (free_place (sheet_at S1 b).tuples))) (Inner w (bare n))
      may = let (p, q) = G.kinds b in record {
        kind = (p ∙ kind, nodes, subst (λ (i : Bool). IsTupleOf m i w) (sym q) tuple);
        tree = λ y v ns i e h. let c : bare n ≡ ns = cc in absurd (nothing n i y (ap (λ (us : List (Option Place)). get_or us i None) c ∙ h));
        redirect = λ y u e. cc;
      }

  -- a chain taken away, with a redirect in its place
  pub taken_stage : (S1 : Sheets) (V : Place → Spot) (x to : Place) (stamp : ℕ) (ls : List Leaf) → Stage m S S1 V → 3 ≤ x.block → x.block < length S.sheets → V x ≡ Bucket ls → 0 < length ls → IsChainedPage (sheet_at S1 x.block).tuples → BeginsChain (sheet_at S1 x.block).tuples x.offset →
      (to ≡ x → ⊥) → 3 ≤ to.block → to.block < length S.sheets →
      let us : List Tuple = taken_from (sheet_at S1 x.block).tuples x.offset to stamp in Stage m S (with_sheet S1 x.block (with_tuples (sheet_at S1 x.block) us)) (put_at V x (Forward to stamp)) × (spread (with_sheet S1 x.block (with_tuples (sheet_at S1 x.block) us)) + (length ls - 1) ≡ spread S1)
  taken_stage S1 V x to stamp ls G high there e some chained begins apart from to_there =
      let ts : List Tuple = (sheet_at S1 x.block).tuples in
      let us : List Tuple = taken_from ts x.offset to stamp in
      let there1 : x.block < length S1.sheets = let c = G.count in omega arith in
      let laid = sheet_laid S1 V x.block high G.shown in
      let (T, tuples, head) = chain_taken ts (λ o. V (place x.block o)) x.offset ls to stamp laid e some in
      let lw = least_weight ls in
      let fit = G.changed.fits x.block in (
        record {
          shown = sheet_shown S1 V x.block x.offset us (Forward to stamp) there1 high G.shown (takes_laid_out ts x.offset to stamp chained begins (λ o. V (place x.block o)) ls laid e);
          changed = changed_page m S S1 x.block (with_tuples (sheet_at S1 x.block) us) G.changed there1 refl (let a = T.weight_is in omega arith)
              (λ o. ⊎_elim
              (λ q. inr (subst (λ i. MayStand m (with_sheet S1 x.block (with_tuples (sheet_at S1 x.block) us)) (place x.block i) (tuple_on us i)) (sym q) (subst (λ (t : Tuple). MayStand m (with_sheet S1 x.block (with_tuples (sheet_at S1 x.block) us)) x t) (sym head) (redirect us))))
              (λ q. ⊎_elim (λ f. inl (f, refl)) (λ f. inr (subst (λ (t : Tuple). MayStand m (with_sheet S1 x.block (with_tuples (sheet_at S1 x.block) us)) (place x.block o) t) (sym f) (record { kind = tt; tree = λ y w ns i g h. cc; redirect = λ y u g. cc }))) (tuples o q)) (cases_eq o x.offset))
              (λ h. absurd (omega arith)) (λ h. refl);
          count = length-set S1.sheets x.block (with_tuples (sheet_at S1 x.block) us) ∙ G.count;
          kinds = λ d. let (a, c) = kinds_set S1 x.block us there1 d in let (f, g) = G.kinds d in (a ∙ f, c ∙ g);
        },
        let a = spread_set S1 x.block (with_tuples (sheet_at S1 x.block) us) there1 in let c = high_spread x.block us high in let d = high_spread x.block ts high in let f = T.spread_is in omega arith,
      )
    where
      redirect : (us : List Tuple) → MayStand m (with_sheet S1 x.block (with_tuples (sheet_at S1 x.block) us)) x (Redirect to stamp)
      redirect us = record {
        kind = tt;
        tree = λ y w ns i g h. cc;
        redirect = λ y u g. let q : to ≡ y = cc in subst (λ (v : Place). (v ≡ x → ⊥) × (3 ≤ v.block) × (v.block < length (with_sheet S1 x.block (with_tuples (sheet_at S1 x.block) us)).sheets)) q (apart, from, let a = length-set S1.sheets x.block (with_tuples (sheet_at S1 x.block) us) in let c = G.count in omega arith);
      }

  -- an inner tuple with other downlinks
  pub linked_stage : (S1 : Sheets) (V : Place → Spot) (x : Place) (w : Frame) (ns us : List (Option Place)) → Stage m S S1 V → x.block < length S.sheets → IsOffset (sheet_at S1 x.block).tuples x.offset → tuple_of S1 x ≡ Inner w ns → length us ≡ length ns →
      (sheet_at S x.block).inner ≡ true → AreNodes w us → IsTupleOf m (sheet_at S x.block).nulls w → ((i : ℕ) (y : Place) → get_or us i None ≡ Some y → (sheet_at S y.block).nulls ≡ (sheet_at S x.block).nulls) →
      Stage m S (put S1 x (Inner w us)) (put_at V (spot_of x) (Branch w us)) × (spread (put S1 x (Inner w us)) ≡ spread S1)
  linked_stage S1 V x w ns us G there off e len kind nodes tuple trees = (
    record {
      shown = (inner_at S1 V x w ns G.shown can e).changed w us;
      changed = changed_put m S S1 x (Inner w us) G.changed can may (let a = weight-replaced (sheet_at S1 x.block).tuples x.offset (Inner w us) off in let q = ap size_of e in let f = G.changed.fits x.block in omega arith) (inr (λ q. cc));
      count = length-set S1.sheets x.block (with_tuples (sheet_at S1 x.block) (with_tuple (sheet_at S1 x.block).tuples x.offset (Inner w us))) ∙ G.count;
      kinds = put_kinds S1 V x (Inner w us) G can.block;
    },
    let a = spread_put S1 x (Inner w us) can (inr (sym (ap is_live e))) in let q = ap spread_at e in omega arith,
  )
    where
      can : CanPut S1 x
      can = record { block = let c = G.count in omega arith; positive = off.0; within = let a = off.1 in omega arith }

      may : MayStand m S1 x (Inner w us)
      may = let (p, q) = G.kinds x.block in record {
        kind = (p ∙ kind, nodes, subst (λ (i : Bool). IsTupleOf m i w) (sym q) tuple);
        tree = λ y v vs i f h. let c : us ≡ vs = cc in let (r, s) = G.kinds y.block in s ∙ trees i y (ap (λ (zs : List (Option Place)). get_or zs i None) c ∙ h) ∙ sym q;
        redirect = λ y u f. cc;
      }
