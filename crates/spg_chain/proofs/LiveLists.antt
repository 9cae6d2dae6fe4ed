-- Lists of leaf tuples without links.
use Rattle.std.proofs.Common.{◌≡◌, ℕ, zero, suc, ◌+◌, ◌<◌, List, [], ◌∷◌, length, take, get_or, refl, ap, arith}
use Rattle.std.proofs.lemmas.List.{take_more}
use Rattle.spg_forest.specs.View.{Leaf}
use Rattle.spg_forest.specs.Tuples.{Tuple, Live, Placeholder}
use Rattle.spg_forest.specs.Pages.{all_live}
use Rattle.spg_forest.specs.Sheets.{weight, size_of}
use Rattle.spg_page.specs.Reads.{leaf_in}
use Rattle.spg_page.proofs.SheetFacts.{weight-append}
use Rattle.spg_chain.specs.Listed.{leaves_in}

pub length-all_live : (ls : List Leaf) → length (all_live ls) ≡ length ls
length-all_live [] = refl
length-all_live (l ∷ ls) = ap suc (length-all_live ls)

pub all_live_at : (ls : List Leaf) (k : ℕ) (d : Leaf) → k < length ls → get_or (all_live ls) k Placeholder ≡ Live (get_or ls k d) 0
all_live_at [] k d h = absurd (omega arith)
all_live_at (l ∷ ls) zero d h = refl
all_live_at (l ∷ ls) (suc k) d h = all_live_at ls k d (omega arith)

pub leaves_in_live : (ls : List Leaf) → leaves_in (all_live ls) ≡ ls
leaves_in_live [] = refl
leaves_in_live (l ∷ ls) = ap (λ zs. l ∷ zs) (leaves_in_live ls)

-- one tuple more
pub weight_more : (ts : List Tuple) (k : ℕ) (d : Tuple) → k < length ts → weight (take (k + 1) ts) ≡ weight (take k ts) + (size_of (get_or ts k d) + 4)
weight_more ts k d h = let a = ap weight (take_more ts k d h) in let b = weight-append (take k ts) (get_or ts k d ∷ []) in omega arith

-- each of the leaf tuples has no link
pub unlinked_at : (ts : List Tuple) (k : ℕ) (d : Tuple) → ts ≡ all_live (leaves_in ts) → k < length ts → get_or ts k d ≡ Live (leaf_in (get_or ts k d)) 0
unlinked_at ts k d e h = rw e (go (leaves_in ts) k (let n = ap length e in omega arith))
  where
    go : (ls : List Leaf) (k : ℕ) → k < length (all_live ls) → get_or (all_live ls) k d ≡ Live (leaf_in (get_or (all_live ls) k d)) 0
    go [] k h = absurd (omega arith)
    go (l ∷ ls) zero h = refl
    go (l ∷ ls) (suc k) h = go ls k (omega arith)
