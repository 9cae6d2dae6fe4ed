-- The page that is picked for the lists.
use Rattle.std.proofs.Common.{◌≡◌, ℕ, ◌≤◌, Bool, List, None, length, sym, ap, ap₂, ◌∙◌, subst, arith}
use Rattle.spg_forest.specs.Tuples.{Tuple}
use Rattle.spg_forest.specs.Sheets.{weight}
use Rattle.spg_page.specs.Changes.{room_of}
use Rattle.spg_page.specs.declared.tuple.PageKind.TheVariants as kinds
use Rattle.spg_tree.specs.Table.{Table, sheet_at}
use Rattle.spg_tree.specs.Pick.{Picks}
use Rattle.spg_tree.specs.Picked.{IsPicked, want_of}
use Rattle.spg_tree.specs.declared.want.Want.{Want}
use Rattle.spg_split.specs.declared.parts.Parts.{Parts}
use Rattle.spg_split.specs.Parts.{divided_table, lists_want, PutsLists}

pub picked_room : (us vs ws : List Tuple) (need count : ℕ) → need ≤ room_of us count → need ≡ weight vs → vs ≡ ws → length ws ≡ count → weight ws ≤ room_of us (length ws)
picked_room us vs ws need count r a b c = rw c (let d = ap weight b in omega arith)

want_is : (nulls n2 : Bool) (leaves : List Tuple) (need count seat : ℕ) → nulls ≡ n2 → need ≡ weight leaves → count ≡ length leaves → want_of kinds.Leaf nulls None need count None seat ≡ lists_want n2 leaves seat
want_is nulls n2 leaves need count seat a b c = ap₂ (λ (i : Bool) (k : ℕ). want_of kinds.Leaf i None k count None seat) a b ∙ ap (λ (k : ℕ). want_of kinds.Leaf n2 None (weight leaves) k None seat) c

pub puts_lists : (t t1 t2 : Table) (root b seat : ℕ) (p : Parts) (us leaves : List Tuple) (nodes : List ℕ) (nulls : Bool) (need count : ℕ) → us ≡ leaves → nodes ≡ p.node_of → nulls ≡ (sheet_at t root).nulls → need ≡ weight us → length leaves ≡ count →
    Picks t (want_of kinds.Leaf nulls None need count None seat) b t1 → IsPicked t (want_of kinds.Leaf nulls None need count None seat) b t1 → t2 ≡ divided_table t1 root b us nodes p.inner (length p.links) → PutsLists t t2 root seat p leaves
puts_lists t t1 t2 root b seat p us leaves nodes nulls need count e f g h i P Q a =
    let w = want_is nulls (sheet_at t root).nulls leaves need count seat g (h ∙ ap weight e) (sym i) in
    record {
      picked = t1;
      block = b;
      picks = subst (λ (z : Want). Picks t z b t1) w P;
      is_picked = subst (λ (z : Want). IsPicked t z b t1) w Q;
      after = a ∙ ap₂ (λ xs ys. divided_table t1 root b xs ys p.inner (length p.links)) e f;
    }
