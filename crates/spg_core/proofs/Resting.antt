-- The rests of leaves that are compared one after another, where they stand.
use Rattle.std.proofs.Common.{◌≡◌, ◌<◌, ◌+◌, ℕ, zero, suc, List, [], ◌∷◌, ◌++◌, Some, length, length-append, take, get_or, refl, sym, ap, ◌∙◌, arith}
use Rattle.std.specs.Prelude.{slice_get}
use Rattle.std.proofs.lemmas.List.{take_more_same, length-map}
use Rattle.std.proofs.lemmas.Option.{slice_get_within, slice_get_read, slice_get-get_or, get_or_from_slice_get}
use Rattle.std.proofs.Math.Seq.{take-length}
use Rattle.spg_forest.specs.View.{Leaf}
use Rattle.spg_forest.specs.Tuples.{Tuple}
use Rattle.spg_forest.specs.Pages.{tuple_on}
use Rattle.spg_forest.specs.Links.{leaves_on}
use Rattle.spg_forest.specs.Divisions.{rests_of}
use Rattle.spg_page.specs.Reads.{no_leaf, leaf_in}
use Rattle.spg_chain.specs.Chains.{Member, leaves_of}
use Rattle.spg_chain.proofs.LiveLists.{length-all_live}
use Rattle.spg_split.specs.Dividing.{AreAllLive}
use Rattle.spg_split.proofs.Reading.{live_at}
use Rattle.spg_split.proofs.Standing.{slice_first, slice_last}

module _ {X : Type 0} (xs ys : List X) (k : ℕ) (x : X) where
  -- where the next item of both is the same, one more is
  pub one_more : take k xs ≡ take k ys → slice_get xs k ≡ Some x → slice_get ys k ≡ Some x → take (k + 1) xs ≡ take (k + 1) ys
  one_more front a b = take_more_same xs ys k x (slice_get_within xs k x a) (slice_get_within ys k x b) front (get_or_from_slice_get xs k x x a ∙ sym (get_or_from_slice_get ys k x x b))

  -- where the last item of both is the same, they are one list
  pub ends_same : take k xs ≡ take k ys → slice_get xs k ≡ Some x → slice_get ys k ≡ Some x → length xs ≡ k + 1 → length ys ≡ k + 1 → xs ≡ ys
  ends_same front a b n m = sym (take-length xs) ∙ ap (λ (i : ℕ). take i xs) n ∙ one_more front a b ∙ ap (λ (i : ℕ). take i ys) (sym m) ∙ take-length ys

-- ---- leaves, and one behind them

pub rests_count : (ls : List Leaf) (new : Leaf) → length (rests_of (ls ++ new ∷ [])) ≡ length ls + 1
rests_count ls new = length-map (ls ++ new ∷ []) (λ (l : Leaf). l.rest) ∙ length-append ls (new ∷ [])

-- on a page that has nothing else
module _ (ts : List Tuple) (new : Leaf) (live : AreAllLive ts) where
  pub leaf_count : length ts ≡ length (leaves_on ts)
  leaf_count = ap length live ∙ length-all_live (leaves_on ts)

  pub page_rest : (k : ℕ) → k < length ts → slice_get (rests_of (leaves_on ts ++ new ∷ [])) k ≡ Some (leaf_in (tuple_on ts (k + 1))).rest
  page_rest k h =
      let (n, a) = live_at ts k live h in
      let s : k + 1 ≡ suc k = omega arith in
      let b : (leaf_in (tuple_on ts (k + 1))).rest ≡ (get_or (leaves_on ts) k no_leaf).rest = ap (λ i. (leaf_in (tuple_on ts i)).rest) s ∙ ap (λ (t : Tuple). (leaf_in t).rest) a in
      slice_first (leaves_on ts) new (get_or (leaves_on ts) k no_leaf) k (slice_get-get_or (leaves_on ts) k no_leaf (omega arith)) ∙ ap Some (sym b)

  pub page_last : slice_get (rests_of (leaves_on ts ++ new ∷ [])) (length ts) ≡ Some new.rest
  page_last = ap (λ i. slice_get (rests_of (leaves_on ts ++ new ∷ [])) i) leaf_count ∙ slice_last (leaves_on ts) new

  pub page_count : length (rests_of (leaves_on ts ++ new ∷ [])) ≡ length ts + 1
  page_count = rests_count (leaves_on ts) new ∙ ap (λ n. n + 1) (sym leaf_count)

-- of a chain
module _ (ms : List Member) (new : Leaf) where
  pub chain_rest : (k : ℕ) (x : Member) → k < length ms → x ≡ get_or ms k x → slice_get (rests_of (leaves_of ms ++ new ∷ [])) k ≡ Some x.leaf.rest
  chain_rest k x h e = slice_first (leaves_of ms) new x.leaf k (there ms k x (slice_get_read ms (length ms) k x refl h e))
    where
      there : (ns : List Member) (i : ℕ) (y : Member) → slice_get ns i ≡ Some y → slice_get (leaves_of ns) i ≡ Some y.leaf
      there [] i y f = cc
      there (n ∷ ns) zero y f = let g : n ≡ y = cc in ap (λ (z : Member). Some z.leaf) g
      there (n ∷ ns) (suc i) y f = there ns i y f

  pub chain_last : slice_get (rests_of (leaves_of ms ++ new ∷ [])) (length ms) ≡ Some new.rest
  chain_last = ap (λ i. slice_get (rests_of (leaves_of ms ++ new ∷ [])) i) (sym (length-map ms (λ (m : Member). m.leaf))) ∙ slice_last (leaves_of ms) new

  pub chain_count : length (rests_of (leaves_of ms ++ new ∷ [])) ≡ length ms + 1
  chain_count = rests_count (leaves_of ms) new ∙ ap (λ n. n + 1) (length-map ms (λ (m : Member). m.leaf))
