-- Labels that stand in the bytes of nodes.
use Rattle.std.proofs.Common.{◌≡◌, refl, ap, ap₂, subst, ◌∙◌, ℕ, zero, suc, ◌+◌, ◌*◌, ◌/◌, ◌<◌, arith, List, length, drop, Some, slice_get}
use Rattle.std.specs.Int.{w16, cast_signed}
use Rattle.std.proofs.lemmas.List.{get_or-drop, drop-drop}
use Rattle.spg_opclass.specs.StoredLabels.{label_at, labels_of}

pub labels_count : (n : ℕ) (bytes : List ℕ) → length (labels_of n bytes) ≡ n
labels_count zero bytes = refl
labels_count (suc n) bytes = ap suc (labels_count n (drop 8 bytes))

labels_drop : (n : ℕ) (bytes : List ℕ) (k : ℕ) → k < n → slice_get (labels_of n bytes) k ≡ Some (label_at (drop (8 * k) bytes) 0)
labels_drop zero bytes k l = absurd (omega arith)
labels_drop (suc n) bytes zero l = refl
labels_drop (suc n) bytes (suc k) l =
    labels_drop n (drop 8 bytes) k (omega arith) ∙ ap (λ rest. Some (label_at rest 0)) (drop-drop (8 * k) 8 bytes ∙ ap (λ at. drop at bytes) (let e : 8 + 8 * k ≡ 8 * suc k = omega arith in e))

pub has_label : (n : ℕ) (bytes : List ℕ) (k : ℕ) → k < n → slice_get (labels_of n bytes) k ≡ Some (label_at bytes k)
has_label n bytes k l =
    labels_drop n bytes k l ∙ ap₂ (λ a b. Some (cast_signed w16 (a + b * 256))) (get_or-drop (8 * k) bytes 6 0) (get_or-drop (8 * k) bytes 7 0)

-- a node below the count of whole nodes has all its bytes
pub within : (bytes : List ℕ) (k : ℕ) → k < length (labels_of (length bytes / 8) bytes) → 8 * k + 7 < length bytes
within bytes k l =
    let low : k < length bytes / 8 = subst (λ n. k < n) (labels_count (length bytes / 8) bytes) l in
    omega (arith, low)
