-- The header of a page: what stands in its bytes, and that it stays where they do.
use Rattle.std.proofs.Common.{◌≡◌, ◌≢◌, ℕ, zero, ◌+◌, ◌<◌, ◌≤◌, Bool, if◌then◌else◌, List, [], ◌∷◌, get_or, replicate, inl, inr, sym, ap, ◌∙◌, arith}
use Rattle.std.specs.Prelude.{slice_range}
use Rattle.std.proofs.lemmas.Bool.{cases_lt}
use Rattle.std.proofs.lemmas.List.{get_or-replicate, get_or_past, length-replicate}
use Rattle.std.proofs.lemmas.List.Edits.{get_or-between}
use Rattle.spg_page.specs.declared.tuple.PageKind.{PageKind}
use Rattle.spg_page.specs.Numbers.{two_at}
use Rattle.spg_page.specs.Versions.{HasMark}
use Rattle.spg_page.specs.Stored.{kind_code, IsBegun, IsHead}
use Rattle.spg_page.proofs.Numbers.{two_same, four_same, four_zero}

pub all_zero : (n k : ℕ) → get_or {A = ℕ} (replicate n 0) k 0 ≡ zero
all_zero n k = let zs : List ℕ = replicate n 0 in elim (cases_lt k n) [ inl l ↦ get_or-replicate {A = ℕ} n k 0 0 l | inr g ↦ get_or_past zs k 0 (omega (arith, length-replicate {A = ℕ} n 0)) ]

-- what stands in bytes that did not change
pub mark_same : (version : ℕ) (old now : List ℕ) → ((k : ℕ) → k < 6 → get_or now k 0 ≡ get_or old k 0) → HasMark version old → HasMark version now
mark_same version old now same m = record { letters_are = λ k l. same k (omega arith) ∙ m.letters_are k l; version_is = two_same now old 4 4 (same 4 (omega arith)) (same 5 (omega arith)) ∙ m.version_is }

pub begun_same : (old now : List ℕ) (kind : PageKind) (nulls : Bool) → ((k : ℕ) → k < 12 → get_or now k 0 ≡ get_or old k 0) → IsBegun old kind nulls → IsBegun now kind nulls
begun_same old now kind nulls same i = record {
  mark = mark_same 1 old now (λ k l. same k (omega arith)) i.mark;
  kind_is = same 6 (omega arith) ∙ i.kind_is;
  tree_is = same 7 (omega arith) ∙ i.tree_is;
  block_is = four_same now old 8 (λ k a b. same k (omega arith)) ∙ i.block_is;
}

module _ (b0 b1 b2 b3 b4 : List ℕ) (kind : PageKind) (nulls : Bool) (zeros : (k : ℕ) → get_or b0 k 0 ≡ 0)
    (mark : HasMark 1 b1) (o1 : (k : ℕ) → 6 ≤ k → get_or b1 k 0 ≡ get_or b0 k 0)
    (here : slice_range b2 6 8 ≡ kind_code kind ∷ (if nulls then 1 else 0) ∷ []) (below : (k : ℕ) → k < 6 → get_or b2 k 0 ≡ get_or b1 k 0) (above : (k : ℕ) → 8 ≤ k → get_or b2 k 0 ≡ get_or b1 k 0)
    (count : two_at b3 12 ≡ 0) (o3 : (k : ℕ) → k ≢ 12 → k ≢ 13 → get_or b3 k 0 ≡ get_or b2 k 0)
    (upper : two_at b4 14 ≡ 8184) (o4 : (k : ℕ) → k ≢ 14 → k ≢ 15 → get_or b4 k 0 ≡ get_or b3 k 0) where
  begin : (k : ℕ) → k < 12 → get_or b4 k 0 ≡ get_or b2 k 0
  begin k l = o4 k (omega arith) (omega arith) ∙ o3 k (omega arith) (omega arith)

  byte : (k : ℕ) → k < 2 → get_or b2 (6 + k) 0 ≡ get_or (kind_code kind ∷ (if nulls then 1 else 0) ∷ []) k 0
  byte k l = sym (get_or-between b2 6 8 k 0 (omega arith)) ∙ ap (λ x. get_or x k 0) here

  zero_from : (k : ℕ) → 8 ≤ k → get_or b2 k 0 ≡ 0
  zero_from k a = above k a ∙ o1 k (omega arith) ∙ zeros k

  pub head_written : IsHead b4 kind nulls 0 8184
  head_written = record {
    first = begun_same b2 b4 kind nulls begin (record {
      mark = mark_same 1 b1 b2 below mark;
      kind_is = byte 0 (omega arith);
      tree_is = byte 1 (omega arith);
      block_is = four_zero b2 8 (λ k a l. zero_from k a);
    });
    count_is = two_same b4 b3 12 12 (o4 12 (omega arith) (omega arith)) (o4 13 (omega arith) (omega arith)) ∙ count;
    upper_is = upper;
    zeros = λ k a l. o4 k (omega arith) (omega arith) ∙ o3 k (omega arith) (omega arith) ∙ zero_from k (omega arith);
    tail = λ k a. o4 k (omega arith) (omega arith) ∙ o3 k (omega arith) (omega arith) ∙ zero_from k (omega arith);
  }
