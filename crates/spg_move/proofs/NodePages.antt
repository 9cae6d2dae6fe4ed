-- The pages while a node is put into an inner tuple: what each write shows, and what it costs.
use Rattle.std.proofs.Common.{◌≡◌, ℕ, ◌+◌, ◌≤◌, ◌<◌, Bool, true, List, Option, Some, None, get_or, length, length-set, refl, sym, ap, ◌∙◌, subst, inl, inr, arith}
use Rattle.spg_opclass.specs.Meaning.{Meaning}
use Rattle.spg_forest.specs.View.{Place, Leaf}
use Rattle.spg_forest.specs.Spot.{Frame, Spot, Branch, put_at}
use Rattle.spg_forest.specs.Tuples.{Tuple, Inner, Live}
use Rattle.spg_forest.specs.Pages.{with_tuple, IsShown}
use Rattle.spg_forest.specs.Sheets.{Sheets, sheet_at, with_tuples, pages_of, weight}
use Rattle.spg_forest.specs.Shape.{Shape, IsTupleOf, AreNodes}
use Rattle.spg_forest.specs.Walk.{spread, spread_at, is_live}
use Rattle.spg_forest.specs.Edits.{tuple_of, put, CanPut, MayStand, spot_of}
use Rattle.spg_forest.proofs.Edits.{write_shown}
use Rattle.spg_forest.proofs.Joins.{put_inner, put_nulls}
use Rattle.spg_forest.proofs.Plain.{IsPlain}
use Rattle.spg_forest.proofs.Stock.{changed_put, spread_put}
use Rattle.spg_forest.proofs.Writes.{inner_at}
use Rattle.spg_descend.proofs.Stages.{Stage}

module _ {Key Recon Cond : Type 0} (m : Meaning Key Recon Cond) (S : Sheets) where
  -- the pages at another moment
  pub timed_stage : (V : Place → Spot) (n : ℕ) → Shape m S → IsShown (pages_of S) V → Stage m S (record S { clock = n }) V
  timed_stage V n H A = record {
    shown = record { meta = A.meta; root = A.root; low = A.low; pages = A.pages };
    changed = record { count = omega arith; nulls = λ b. refl; fits = λ b. (H.pages.each b).fits; tuples = λ x. inl (refl, refl); empty_root = H.pages.empty_root; kinds = λ b g. refl };
    count = refl;
    kinds = λ b. (refl, refl);
  }

  kinds_put : (S1 : Sheets) (V : Place → Spot) (x : Place) (t : Tuple) → Stage m S S1 V → x.block < length S1.sheets → (d : ℕ) → ((sheet_at (put S1 x t) d).inner ≡ (sheet_at S d).inner) × ((sheet_at (put S1 x t) d).nulls ≡ (sheet_at S d).nulls)
  kinds_put S1 V x t G h d = let (a, b) = G.kinds d in (put_inner S1 x t d h ∙ a, put_nulls S1 x t d h ∙ b)

  -- a tuple that is no leaf, on a page from 3 on where none is
  pub put_stage : (S1 : Sheets) (V : Place → Spot) (x : Place) (t : Tuple) (s : Spot) → Stage m S S1 V → 3 ≤ x.block → CanPut S1 x → ((l : Leaf) (n : ℕ) → tuple_of S1 x ≡ Live l n → ⊥) → IsPlain t s → MayStand m S1 x t → weight (with_tuple (sheet_at S1 x.block).tuples x.offset t) ≤ 8160 →
      Stage m S (put S1 x t) (put_at V x s) × (spread (put S1 x t) + spread_at (tuple_of S1 x) ≡ spread S1 + spread_at t)
  put_stage S1 V x t s G high can bare plain may fits = (
    record {
      shown = write_shown S1 V x t s G.shown high can bare plain;
      changed = changed_put m S S1 x t G.changed can may fits (inl high);
      count = length-set S1.sheets x.block (with_tuples (sheet_at S1 x.block) (with_tuple (sheet_at S1 x.block).tuples x.offset t)) ∙ G.count;
      kinds = kinds_put S1 V x t G can.block;
    },
    spread_put S1 x t can (inl high),
  )

  pub may_inner : (S1 : Sheets) (V : Place → Spot) (x : Place) (v : Frame) (us : List (Option Place)) → Stage m S S1 V → (sheet_at S x.block).inner ≡ true → AreNodes v us → IsTupleOf m (sheet_at S x.block).nulls v →
      ((i : ℕ) (y : Place) → get_or us i None ≡ Some y → (sheet_at S y.block).nulls ≡ (sheet_at S x.block).nulls) → MayStand m S1 x (Inner v us)
  may_inner S1 V x v us G kind nodes tuple trees = let (p, q) = G.kinds x.block in record {
    kind = (p ∙ kind, nodes, subst (λ (i : Bool). IsTupleOf m i v) (sym q) tuple);
    tree = λ y w vs i f h. let c : us ≡ vs = cc in let (r, s) = G.kinds y.block in s ∙ trees i y (ap (λ (zs : List (Option Place)). get_or zs i None) c ∙ h) ∙ sym q;
    redirect = λ y u f. cc;
  }

  -- another inner tuple in the place of one
  pub inner_stage : (S1 : Sheets) (V : Place → Spot) (x : Place) (w v : Frame) (ns us : List (Option Place)) → Stage m S S1 V → CanPut S1 x → tuple_of S1 x ≡ Inner w ns → weight (with_tuple (sheet_at S1 x.block).tuples x.offset (Inner v us)) ≤ 8160 →
      (sheet_at S x.block).inner ≡ true → AreNodes v us → IsTupleOf m (sheet_at S x.block).nulls v → ((i : ℕ) (y : Place) → get_or us i None ≡ Some y → (sheet_at S y.block).nulls ≡ (sheet_at S x.block).nulls) →
      Stage m S (put S1 x (Inner v us)) (put_at V (spot_of x) (Branch v us)) × (spread (put S1 x (Inner v us)) ≡ spread S1)
  inner_stage S1 V x w v ns us G can e fits kind nodes tuple trees = (
    record {
      shown = (inner_at S1 V x w ns G.shown can e).changed v us;
      changed = changed_put m S S1 x (Inner v us) G.changed can (may_inner S1 V x v us G kind nodes tuple trees) fits (inr (λ q. cc));
      count = length-set S1.sheets x.block (with_tuples (sheet_at S1 x.block) (with_tuple (sheet_at S1 x.block).tuples x.offset (Inner v us))) ∙ G.count;
      kinds = kinds_put S1 V x (Inner v us) G can.block;
    },
    let a = spread_put S1 x (Inner v us) can (inr (sym (ap is_live e))) in let q = ap spread_at e in omega arith,
  )
