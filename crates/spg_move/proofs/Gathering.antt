-- The leaf tuples of a chain, read one after another.
use Rattle.std.proofs.Common.{◌≡◌, ℕ, zero, suc, ◌+◌, ◌≤◌, ◌<◌, List, [], ◌∷◌, ◌++◌, length, map, get_or, refl, ap, arith}
use Rattle.spg_opclass.specs.Laws.{leaf_size}
use Rattle.spg_forest.specs.Tuples.{Live}
use Rattle.spg_forest.specs.Pages.{all_live}
use Rattle.spg_forest.specs.Sheets.{weight}
use Rattle.spg_chain.specs.declared.walk.ChainLeaf.{ChainLeaf}
use Rattle.spg_chain.specs.Chains.{Member, member_of, leaves_of}

-- one leaf more
pub tuples_more : (xs : List ChainLeaf) (x : ChainLeaf) → all_live (leaves_of (map member_of (xs ++ x ∷ []))) ≡ all_live (leaves_of (map member_of xs)) ++ Live (member_of x).leaf 0 ∷ []
tuples_more [] x = refl
tuples_more (y ∷ ys) x = ap (λ ts. Live (member_of y).leaf 0 ∷ ts) (tuples_more ys x)

-- a leaf takes no more than all
small_at : (ms : List Member) (k : ℕ) (d : Member) → k < length ms → leaf_size (get_or ms k d).leaf.rest + 4 ≤ weight (all_live (leaves_of ms))
small_at [] k d h = absurd (omega arith)
small_at (m ∷ ms) zero d h = omega arith
small_at (m ∷ ms) (suc k) d h = let a = small_at ms k d (omega arith) in omega arith

pub small_member : (ms : List Member) (k : ℕ) (a : Member) → k < length ms → a ≡ get_or ms k a → weight (all_live (leaves_of ms)) ≤ 8160 → leaf_size a.leaf.rest ≤ 8156
small_member ms k a h e w = let b = small_at ms k a h in let c = ap (λ (m : Member). leaf_size m.leaf.rest) e in omega arith
