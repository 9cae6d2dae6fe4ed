-- The nodes of an inner tuple, with one more among them.
use Rattle.std.proofs.Common.{◌≡◌, ℕ, zero, suc, ◌+◌, ◌≤◌, ◌<◌, List, [], ◌∷◌, ◌++◌, insert, length, map, take, drop, Option, Some, None, refl, sym, ap, ap₂, ◌∙◌, subst, append_assoc, length-append, arith, ◌*◌}
use Rattle.std.specs.List.{AllByRecursion}
use Rattle.std.specs.Prelude.{IfSome, ℤ}
use Rattle.std.proofs.lemmas.List.{length-map}
use Rattle.spg_forest.specs.View.{Place}
use Rattle.spg_forest.specs.Tuples.{Tuple, Inner}
use Rattle.spg_forest.specs.Sheets.{size_of}
use Rattle.spg_page.specs.declared.tuple.Node.{Node}
use Rattle.spg_page.specs.declared.tuple.InnerTuple.{InnerTuple}
use Rattle.spg_page.specs.Told.{labels_of, links_of, frame_of}
use Rattle.spg_page.specs.Spelling.{IsNode, IsInner, IsPlace, padded}
use Rattle.spg_move.specs.Widening.{widened}

map_insert : {A B : Type 0} (f : A → B) (xs : List A) (i : ℕ) (x : A) → map f (insert xs i x) ≡ insert (map f xs) i (f x)
map_insert f xs zero x = refl
map_insert f [] (suc i) x = refl
map_insert f (y ∷ ys) (suc i) x = ap (λ zs. f y ∷ zs) (map_insert f ys i x)

all_insert : {A : Type 0} (P : A → Type 0) (xs : List A) (i : ℕ) (x : A) → AllByRecursion P xs → P x → AllByRecursion P (insert xs i x)
all_insert P xs zero x a b = (b, a)
all_insert P [] (suc i) x a b = (b, tt)
all_insert P (y ∷ ys) (suc i) x a b = (a.0, all_insert P ys i x a.1 b)

-- the node that is put in
abbrev pub new_node : ℤ → Node
new_node label = record { label = label; link = None }

-- the parts put one after another
pub put_together : (a b c ns : List Node) (at : ℕ) (label : ℤ) → a ≡ [] ++ take at ns → b ≡ a ++ new_node label ∷ [] → c ≡ b ++ drop at ns → c ≡ insert ns at (new_node label)
put_together a b c ns at label e f g = g ∙ ap (λ zs. zs ++ drop at ns) (f ∙ ap (λ zs. zs ++ new_node label ∷ []) e) ∙ append_assoc (take at ns) (new_node label ∷ []) (drop at ns)

-- downlinks that can be written
abbrev pub CanWrite : Node → Type 0
CanWrite n = IfSome n.link (λ to. (0 < to.block) × (0 < to.offset))

can_write : (ns : List Node) → AllByRecursion IsNode ns → AllByRecursion CanWrite ns
can_write [] a = tt
can_write (n ∷ ns) a = (go n.link a.0.link, can_write ns a.1)
  where
    go : (l : Option Place) → IfSome l (λ to. IsPlace to × (0 < to.block)) → IfSome l (λ to. (0 < to.block) × (0 < to.offset))
    go None h = tt
    go (Some to) h = (h.1, h.0.offset_from)

insert_written : (t : InnerTuple) (at : ℕ) (label : ℤ) → IsInner t → AllByRecursion CanWrite (insert t.nodes at (new_node label))
insert_written t at label h = all_insert CanWrite t.nodes at (new_node label) (can_write t.nodes h.nodes) tt

-- the tuple that is spelled
pub widened_told : (t : InnerTuple) (u : Tuple) (at : ℕ) (label : ℤ) (ns : List Node) → Inner (frame_of t) (links_of t.nodes) ≡ u → ns ≡ insert t.nodes at (new_node label) →
    Inner (record { all_same = t.all_same; prefix = t.prefix; labels = labels_of ns }) (links_of ns) ≡ widened u at label
widened_told t u at label ns e f =
    ap₂ (λ (ls : List ℤ) (ks : List (Option Place)). Inner (record { all_same = t.all_same; prefix = t.prefix; labels = ls }) ks) (ap labels_of f ∙ map_insert (λ (n : Node). n.label) t.nodes at (new_node label)) (ap links_of f ∙ map_insert (λ (n : Node). n.link) t.nodes at (new_node label))
    ∙ ap (λ (v : Tuple). widened v at label) e

insert_some : {A : Type 0} (xs : List A) (i : ℕ) (x : A) → 0 < length (insert xs i x)
insert_some xs i x = let a = length-append (take i xs) (x ∷ drop i xs) in omega arith

-- what the spelling asks
pub may_spell : (t : InnerTuple) (u : Tuple) (at : ℕ) (label : ℤ) (ns : List Node) → Inner (frame_of t) (links_of t.nodes) ≡ u → ns ≡ insert t.nodes at (new_node label) → IsInner t → size_of (widened u at label) ≤ 8156 →
    (0 < length ns) × AllByRecursion CanWrite ns × (8 + padded (length t.prefix) + 8 * length ns ≤ 8156)
may_spell t u at label ns e f h small = (
  (let a = insert_some t.nodes at (new_node label) in let b = ap length f in omega arith),
  subst (λ (ks : List Node). AllByRecursion CanWrite ks) (sym f) (insert_written t at label h),
  let a = ap size_of (widened_told t u at label ns e f) in let b = ap (λ n. 8 * n) (length-map ns (λ (n : Node). n.link)) in omega arith,
)
