-- A page of tuples with its block number reads as the page.
use Rattle.std.proofs.Common.{◌≡◌, ℕ, ◌<◌, ◌≤◌, ◌==◌, ◌⊎◌, Bool, true, false, if◌then◌else◌, inl, inr, List, length, get_or, map, refl, sym, ap, ◌∙◌, arith}
use Rattle.spg_forest.specs.Sheets.{Sheet}
use Rattle.spg_page.specs.Numbers.{two_at, four_at}
use Rattle.spg_page.specs.Layout.{piece_at, IsLaid}
use Rattle.spg_page.specs.Versions.{HasMark}
use Rattle.spg_page.specs.Stored.{kind_code, tuples_in}
use Rattle.spg_page.specs.Told.{told}
use Rattle.spg_page.specs.Came.{sheet_in}
use Rattle.spg_page.specs.Kinds.{page_kind}
use Rattle.spg_page.specs.Inside.{IsPageOf}
use Rattle.spg_page.proofs.Numbers.{two_same}
use Rattle.spg_page.proofs.Layouts.{laid_same, piece_same}
use Rattle.spg_page.proofs.StoredLaws.{tuples_same}
use Rattle.spg_image.specs.Page.{IsPageAt}

kind_is : (inner : Bool) → (kind_code (page_kind inner) ≡ 2) ⊎ (kind_code (page_kind inner) ≡ 3)
kind_is true = inl refl
kind_is false = inr refl

kind_tells : (inner : Bool) → (kind_code (page_kind inner) == 2) ≡ inner
kind_tells true = refl
kind_tells false = refl

abbrev tree_code : Bool → ℕ
tree_code nulls = if nulls then 1 else 0

tree_is : (nulls : Bool) → (tree_code nulls ≡ 0) ⊎ (tree_code nulls ≡ 1)
tree_is true = inr refl
tree_is false = inl refl

tree_tells : (nulls : Bool) → (tree_code nulls == 1) ≡ nulls
tree_tells true = refl
tree_tells false = refl

module _ (version : ℕ) (old now : List ℕ) (s : Sheet) (b : ℕ) (is : IsPageOf old s) (len : length now ≡ 8192) (mark : HasMark version now) (number : four_at now 8 ≡ b) (kept : (k : ℕ) → 6 ≤ k → k < 8 → get_or now k 0 ≡ get_or old k 0) (above : (k : ℕ) → 12 ≤ k → get_or now k 0 ≡ get_or old k 0) where
  from : (k : ℕ) → 16 ≤ k → get_or now k 0 ≡ get_or old k 0
  from k h = above k (omega arith)

  count : two_at now 12 ≡ length s.tuples
  count = two_same now old 12 12 (above 12 (omega arith)) (above 13 (omega arith)) ∙ is.head.count_is

  upper : two_at now 14 ≡ two_at old 14
  upper = two_same now old 14 14 (above 14 (omega arith)) (above 15 (omega arith))

  laid : IsLaid now (length s.tuples) (two_at old 14)
  laid = laid_same old now from (length s.tuples) (two_at old 14) len is.laid

  piece : (i : ℕ) → i < length s.tuples → piece_at now i ≡ piece_at old i
  piece = piece_same old now from (length s.tuples) (two_at old 14) len is.laid

  kind_byte : get_or now 6 0 ≡ kind_code (page_kind s.inner)
  kind_byte = kept 6 (omega arith) (omega arith) ∙ is.head.first.kind_is

  tree_byte : get_or now 7 0 ≡ tree_code s.nulls
  tree_byte = kept 7 (omega arith) (omega arith) ∙ is.head.first.tree_is

  pub page_is : IsPageAt version b now
  page_is = record {
    mark = mark;
    kind = rw kind_byte (kind_is s.inner);
    tree = rw tree_byte (tree_is s.nulls);
    block = number;
    zeros = λ k h l. above k (omega arith) ∙ is.head.zeros k h l;
    tail = λ k h. above k (omega arith) ∙ is.head.tail k h;
    laid = rw (count, upper) laid;
    tuples = λ i l. (let li : i < length s.tuples = omega (arith, count) in rw (piece i li) (is.stored i li));
  }

  pub page_shows : sheet_in now ≡ s
  page_shows =
      let kind : (get_or now 6 0 == 2) ≡ s.inner = rw kind_byte (kind_tells s.inner) in
      let tree : (get_or now 7 0 == 1) ≡ s.nulls = rw tree_byte (tree_tells s.nulls) in
      let tuples : map told (tuples_in now (two_at now 12)) ≡ s.tuples = rw count (ap (map told) (tuples_same old now (length s.tuples) piece) ∙ sym is.tuples) in
      rw (kind, tree, tuples) refl
