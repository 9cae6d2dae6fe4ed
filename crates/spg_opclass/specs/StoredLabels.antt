-- Labels that are read where they stand.
use Rattle.std.specs.Prelude.{ℕ, zero, suc, ◌+◌, ◌*◌, ◌/◌, ℤ, List, [], ◌∷◌, drop, length, slice_index}
use Rattle.std.specs.Int.{w16, cast_signed}
use Rattle.spg_opclass.specs.declared.labels_ref.LabelsRef.{LabelsRef}
use Rattle.spg_opclass.specs.declared.labels_ref.LabelsRef.TheVariants.{Listed, Stored}

-- the label of a node, of 8 bytes each: the last two of them, the low one first
abbrev pub label_at : List ℕ → ℕ → ℤ
label_at bytes node = cast_signed w16 (slice_index bytes (8 * node + 6) + slice_index bytes (8 * node + 7) * 256)

-- those of so many nodes
abbrev pub labels_of : ℕ → List ℕ → List ℤ
labels_of zero bytes = []
labels_of (suc n) bytes = label_at bytes 0 ∷ labels_of n (drop 8 bytes)

abbrev pub labels_in : LabelsRef → List ℤ
labels_in (Listed labels) = labels.now
labels_in (Stored nodes) = labels_of (length nodes.now / 8) nodes.now
