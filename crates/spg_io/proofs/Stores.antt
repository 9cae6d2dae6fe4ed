-- Files in memory: what stands under a name, and what a change leaves under each.
use Rattle.std.proofs.Common.{◌≡◌, ◌≢◌, ℕ, zero, suc, ◌<◌, Bool, true, false, List, [], ◌∷◌, ◌++◌, length, get_or, set, Option, Some, None, refl, sym, ap, subst, ◌∙◌, ◌⊎◌, inl, inr, arith}
use Rattle.std.specs.Str.{bytes_eq}
use Rattle.std.specs.Option.{option_map}
use Rattle.std.proofs.lemmas.Slice.Eq.{bytes_eq-Decides}
use Rattle.spg_io.specs.declared.store.File.{File}
use Rattle.spg_io.specs.Files.{bytes_under, place_of, with_bytes}

abbrev pub no_file : File
no_file = record { name = []; bytes = [] }

abbrev pub has_name : File → List ℕ → Bool
has_name f name = bytes_eq f.name name

-- ---- the search

pub place_first : (fs : List File) (name : List ℕ) (at : ℕ) → at < length fs → ((k : ℕ) → k < at → has_name (get_or fs k no_file) name ≡ false) → has_name (get_or fs at no_file) name ≡ true → place_of fs name ≡ Some at
place_first [] name at l low here = absurd (omega arith)
place_first (f ∷ fs) name zero l low here = rw here refl
place_first (f ∷ fs) name (suc at) l low here = rw (low 0 (omega arith), place_first fs name at (omega arith) (λ k h. low (suc k) (omega arith)) here) refl

pub place_none : (fs : List File) (name : List ℕ) → ((k : ℕ) → k < length fs → has_name (get_or fs k no_file) name ≡ false) → place_of fs name ≡ None
place_none [] name low = refl
place_none (f ∷ fs) name low = rw (low 0 (omega arith), place_none fs name (λ k h. low (suc k) (omega arith))) refl

-- ---- what the place tells

-- the file at the place is the one that the name goes by
pub record IsFileAt (fs : List File) (name : List ℕ) (at : ℕ) : Type 0 where
  pub within : at < length fs
  pub under : bytes_under fs name ≡ Some (get_or fs at no_file).bytes
  pub set : (bytes : List ℕ) → set fs at (record { name = (get_or fs at no_file).name; bytes = bytes }) ≡ with_bytes fs name bytes

file_first : (f : File) (fs : List File) (name : List ℕ) → has_name f name ≡ true → IsFileAt (f ∷ fs) name 0
file_first f fs name e = record { within = omega arith; under = rw e refl; set = λ bytes. rw e refl }

file_behind : (f : File) (fs : List File) (name : List ℕ) (at : ℕ) → has_name f name ≡ false → IsFileAt fs name at → IsFileAt (f ∷ fs) name (suc at)
file_behind f fs name at e h = record { within = omega (arith, h.within); under = rw e h.under; set = λ bytes. rw e (ap (λ gs. f ∷ gs) (h.set bytes)) }

some_inside : (at : ℕ) (x : Option ℕ) → option_map suc x ≡ Some at → (k : ℕ) × (x ≡ Some k) × (suc k ≡ at)
some_inside at None e = cc
some_inside at (Some k) e = (k, refl, cc)

none_inside : (x : Option ℕ) → option_map suc x ≡ None → x ≡ None
none_inside None e = refl
none_inside (Some k) e = cc

tested : (b : Bool) → (b ≡ true) ⊎ (b ≡ false)
tested true = inl refl
tested false = inr refl

pub file_at : (fs : List File) (name : List ℕ) (at : ℕ) → place_of fs name ≡ Some at → IsFileAt fs name at
file_at [] name at e = cc
file_at (f ∷ fs) name at e = elim (tested (has_name f name)) [
  | inl t ↦
      let p : Some 0 ≡ Some at = rw t at e in
      let z : 0 ≡ at = cc in
      subst (λ k. IsFileAt (f ∷ fs) name k) z (file_first f fs name t)
  | inr t ↦
      let p : option_map suc (place_of fs name) ≡ Some at = rw t at e in
      let s = some_inside at (place_of fs name) p in
      subst (λ k. IsFileAt (f ∷ fs) name k) s.2 (file_behind f fs name s.0 t (file_at fs name s.0 s.1))
]

pub no_file_at : (fs : List File) (name : List ℕ) → place_of fs name ≡ None → bytes_under fs name ≡ None
no_file_at [] name e = refl
no_file_at (f ∷ fs) name e = elim (tested (has_name f name)) [
  | inl t ↦ (let p : Some 0 ≡ None = rw t at e in cc)
  | inr t ↦ (let p : option_map suc (place_of fs name) ≡ None = rw t at e in rw t (no_file_at fs name (none_inside (place_of fs name) p)))
]

pub no_file_with : (fs : List File) (name bytes : List ℕ) → place_of fs name ≡ None → fs ++ record { name = name; bytes = bytes } ∷ [] ≡ with_bytes fs name bytes
no_file_with [] name bytes e = refl
no_file_with (f ∷ fs) name bytes e = elim (tested (has_name f name)) [
  | inl t ↦ (let p : Some 0 ≡ None = rw t at e in cc)
  | inr t ↦ (let p : option_map suc (place_of fs name) ≡ None = rw t at e in rw t (ap (λ gs. f ∷ gs) (no_file_with fs name bytes (none_inside (place_of fs name) p))))
]

-- ---- what a change leaves

same : (name : List ℕ) → bytes_eq name name ≡ true
same name = (bytes_eq-Decides name name).1 refl

pub under_with : (fs : List File) (name bytes : List ℕ) → bytes_under (with_bytes fs name bytes) name ≡ Some bytes
under_with [] name bytes = rw (same name) refl
under_with (f ∷ fs) name bytes = elim (tested (has_name f name)) [
  | inl t ↦ rw (t, t) refl
  | inr t ↦ rw (t, t) (under_with fs name bytes)
]

pub under_others : (fs : List File) (name bytes other : List ℕ) → other ≢ name → bytes_under (with_bytes fs name bytes) other ≡ bytes_under fs other
under_others [] name bytes other ne = elim (tested (bytes_eq name other)) [
  | inl t ↦ absurd (ne (sym ((bytes_eq-Decides name other).0 t)))
  | inr t ↦ rw t refl
]
under_others (f ∷ fs) name bytes other ne = elim (tested (has_name f name)) [
  | inl t ↦ rw t (elim (tested (has_name f other)) [
    | inl u ↦ absurd (ne (sym ((bytes_eq-Decides f.name other).0 u) ∙ (bytes_eq-Decides f.name name).0 t))
    | inr u ↦ rw u refl
  ])
  | inr t ↦ rw t (elim (tested (has_name f other)) [
    | inl u ↦ rw u refl
    | inr u ↦ rw u (under_others fs name bytes other ne)
  ])
]

-- this name alone holds something else
pub changed_with : (fs gs : List File) (name bytes : List ℕ) → gs ≡ with_bytes fs name bytes → (bytes_under gs name ≡ Some bytes) × ((other : List ℕ) → other ≢ name → bytes_under gs other ≡ bytes_under fs other)
changed_with fs gs name bytes e = rw e (under_with fs name bytes, under_others fs name bytes)
