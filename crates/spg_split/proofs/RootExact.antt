-- A division at a root names exactly the blocks that it writes.
use Rattle.std.proofs.Common.{◌≡◌, ℕ, ◌+◌, ◌-◌, ◌≤◌, ◌<◌, List, [], ◌∷◌, Option, length, length-set, refl, sym, ap, ◌∙◌, subst, inl, arith}
use Rattle.std.proofs.lemmas.List.{length-take-le, length-map}
use Rattle.spg_forest.specs.View.{Place, Leaf}
use Rattle.spg_forest.specs.Spot.{Frame}
use Rattle.spg_forest.specs.Tuples.{Tuple, Inner}
use Rattle.spg_forest.specs.Pages.{all_live}
use Rattle.spg_forest.specs.Divisions.{rests_of}
use Rattle.spg_forest.specs.Links.{leaves_on}
use Rattle.spg_forest.specs.Sheets.{Sheet}
use Rattle.spg_forest.specs.Exact.{IsExact}
use Rattle.spg_forest.proofs.Edits.{sheet_same, sheet_other}
use Rattle.spg_forest.proofs.Exact.{exact_two}
use Rattle.spg_page.specs.Reads.{frame_in}
use Rattle.spg_tree.specs.Table.{Table, sheets_of, sheet_at, tuples_at, with_tuples_at}
use Rattle.spg_descend.proofs.Picked.{PicksLeaf, picks_leaf, new_at_end}
use Rattle.spg_split.specs.declared.parts.Parts.{Parts}
use Rattle.spg_split.specs.declared.put.Divided.{Divided}
use Rattle.spg_split.specs.declared.put.Divided.TheVariants.{With, Without}
use Rattle.spg_split.specs.Dividing.{AreAllLive}
use Rattle.spg_split.specs.Parts.{AreReady, PutsLists, divided_table, lists_want, going}
use Rattle.spg_split.specs.Placing.{taken_by, placed, downlinks, inner_root}
use Rattle.spg_split.proofs.Plans.{length-leaves_in}
use Rattle.spg_split.proofs.Totals.{total, total_all, count_sum, placed_differs}
use Rattle.spg_chain.proofs.ListTotals.{count}
use Rattle.spg_tree.proofs.Pages.{tuples_same, pages_same}

-- a page of leaf tuples alone has no inner tuple
no_inner : (ls : List Leaf) (f : Frame) (gs : List (Option Place)) → Inner f gs ∷ [] ≡ all_live ls → ⊥
no_inner [] f gs e = cc
no_inner (l ∷ ls) f gs e = cc

pub several_leaves : (ls : List Leaf) → 2 ≤ length (rests_of ls) → 2 ≤ length ls
several_leaves ls h = let e = length-map ls (λ (l : Leaf). l.rest) in omega arith

-- how many go
pub going_some : (p : Parts) (way : Divided) → 2 ≤ length p.leaves → (0 < length (going p way)) × (length (going p way) ≤ length p.leaves)
going_some p With h = (omega arith, omega arith)
going_some p (Without in_one) h = let e = length-take-le (length p.leaves - 1) p.leaves (omega arith) in (omega arith, omega arith)

module _ (t t2 : Table) (root seat : ℕ) (p : Parts) (ws : List Tuple) (count3 : 3 ≤ length t.pages) (low : root < 3) (live : AreAllLive (tuples_at t root)) (some : 0 < length ws) (few : length ws ≤ length p.node_of) (R : AreReady p) (W : PutsLists t t2 root seat p ws) where
  abbrev b : ℕ
  b = W.block

  abbrev t1 : Table
  t1 = W.picked

  abbrev n : ℕ
  n = length p.links

  abbrev L : ℕ → List Leaf
  L = λ j. taken_by j ws p.node_of

  abbrev us : List Tuple
  us = placed (tuples_at t1 b) L 0 n

  abbrev ta : Table
  ta = with_tuples_at t1 b us

  abbrev rs : Sheet
  rs = inner_root (sheet_at t1 root).nulls p.inner (downlinks b (tuples_at t1 b) L 0 n)

  abbrev T : Table
  T = divided_table t1 root b ws p.node_of p.inner n

  b_not_root : b ≡ root → ⊥
  b_not_root e = let k = W.is_picked.from in absurd (omega arith)

  count_a : length ta.pages ≡ length t1.pages
  count_a = pages_same t1 b us

  count_t : length T.pages ≡ length t1.pages
  count_t = length-set ta.pages root rs ∙ count_a

  leaves : 0 < total count L 0 n
  leaves = let a = total_all (λ l. 1) count count_sum ws p.node_of n few R.there in let e = length-leaves_in ws in omega arith

  b_written : tuples_at T b ≡ tuples_at t b → ⊥
  b_written q =
      let a : tuples_at T b ≡ us = ap (λ (s : Sheet). s.tuples) (sheet_other (sheets_of ta) root rs b b_not_root) ∙ tuples_same t1 b us W.is_picked.there in
      placed_differs (tuples_at t1 b) L 0 n leaves (sym a ∙ q ∙ sym (W.is_picked.tuples b))

  root_written : tuples_at T root ≡ tuples_at t root → ⊥
  root_written q =
      let h : root < length ta.pages = let k = W.is_picked.least in let e = count_a in omega arith in
      let a : tuples_at T root ≡ rs.tuples = ap (λ (s : Sheet). s.tuples) (sheet_same (sheets_of ta) root rs h) in
      no_inner (leaves_on (tuples_at t root)) (frame_in p.inner) (downlinks b (tuples_at t1 b) L 0 n) (sym a ∙ q ∙ live)

  new_is_b : (c : ℕ) → length t.pages ≤ c → c < length T.pages → c ≡ b
  new_is_b c g h =
      let K : PicksLeaf t b t1 = picks_leaf t t1 (lists_want (sheet_at t root).nulls ws seat) b count3 refl W.is_picked W.picks in
      let k : length T.pages ≡ length t1.pages = count_t in
      let more : length t1.pages ≤ length t.pages + 1 = K.more in
      let a : b ≡ length t.pages = new_at_end t t1 (lists_want (sheet_at t root).nulls ws seat) b refl W.picks (omega arith) in omega arith

  pub root_exact : IsExact (sheets_of t) (sheets_of t2) t2.touched
  root_exact = subst (λ (z : Table). IsExact (sheets_of t) (sheets_of z) z.touched) (sym W.after) (exact_two (sheets_of t) (sheets_of T) b root b_not_root (inl b_written) (inl root_written) new_is_b)
