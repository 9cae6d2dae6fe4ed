-- The nodes of an inner tuple that leads nowhere.
use Rattle.std.proofs.Common.{◌≡◌, suc, ◌<◌, List, [], ◌∷◌, length, refl, ap}
use Rattle.std.specs.List.{AllByRecursion}
use Rattle.std.specs.Prelude.{IfSome, ℤ, None}
use Rattle.spg_page.specs.Told.{labels_of, links_of}
use Rattle.spg_page.specs.declared.tuple.Node.{Node}
use Rattle.spg_descend.specs.BareNodes.{nodes_of, bare}

-- the nodes of an inner tuple that leads nowhere
pub bare_labels : (ls : List ℤ) → labels_of (nodes_of ls) ≡ ls
bare_labels [] = refl
bare_labels (l ∷ ls) = ap (λ zs. l ∷ zs) (bare_labels ls)

pub bare_links : (ls : List ℤ) → links_of (nodes_of ls) ≡ bare (length ls)
bare_links [] = refl
bare_links (l ∷ ls) = ap (λ zs. None ∷ zs) (bare_links ls)

pub bare_length : (ls : List ℤ) → length (nodes_of ls) ≡ length ls
bare_length [] = refl
bare_length (l ∷ ls) = ap suc (bare_length ls)

pub bare_all : (ls : List ℤ) → AllByRecursion (λ (n : Node). IfSome n.link (λ to. (0 < to.block) × (0 < to.offset))) (nodes_of ls)
bare_all [] = tt
bare_all (l ∷ ls) = (tt, bare_all ls)
