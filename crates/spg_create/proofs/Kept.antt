-- Inserts are kept one after another.
use Rattle.std.proofs.Common.{◌≡◌, inl, inr, ◌<◌, ◌+◌, ℕ, zero, suc, List, [], ◌∷◌, length, drop, get_or, refl, sym, ap, ◌∙◌, subst, arith}
use Rattle.std.specs.List.{AllByRecursion}
use Rattle.std.proofs.lemmas.List.{at_drop_more, drop_all}
use Rattle.spg_script.specs.declared.inserts.Insert.{Insert}
use Rattle.spg_script.specs.Speech.{Speech}
use Rattle.spg_build.specs.declared.entry.Entry.{Entry}
use Rattle.spg_create.specs.Keeps.{IsKnownInsert, KeepsOne, Keeps}

module _ {Key Cond : Type 0} (speech : Speech Key Cond) where
  -- what these inserts lead to from here is what all lead to, with so many skipped before
  abbrev pub KeptSoFar : List Insert → List Insert → List (Entry Key) → ℕ → Type 0
  KeptSoFar all left kept skipped = (entries : List (Entry Key)) (more : ℕ) → Keeps speech kept left entries more → Keeps speech [] all entries (skipped + more)

  pub kept_none : (all : List Insert) → KeptSoFar all all [] 0
  kept_none all = λ entries more keeps.
      let n : more ≡ 0 + more = omega arith in
      subst (λ (k : ℕ). Keeps speech [] all entries k) n keeps

  one_more : (all left : List Insert) (i : Insert) (kept now : List (Entry Key)) (skipped more : ℕ) → KeptSoFar all (i ∷ left) kept skipped → KeepsOne speech kept i now skipped more → KeptSoFar all left now more
  one_more all left i kept now skipped more so_far (inl (there, same, count)) = λ entries later keeps.
      let n : skipped + suc later ≡ more + later = omega (arith, count) in
      subst (λ (k : ℕ). Keeps speech [] all entries k) n
      (so_far entries (suc later) (inl (there, (later, refl, subst (λ (es : List (Entry Key)). Keeps speech es left entries later) same keeps))))
  one_more all left i kept now skipped more so_far (inr (new, (key, named, added), count)) = λ entries later keeps.
      subst (λ (n : ℕ). Keeps speech [] all entries (n + later)) (sym count)
      (so_far entries later (inr (new, (key, named, subst (λ (es : List (Entry Key)). Keeps speech es left entries later) added keeps))))

  -- the insert at i
  pub kept_more : (all : List Insert) (i : ℕ) (one : Insert) → i < length all → one ≡ get_or all i one → (kept now : List (Entry Key)) (skipped more : ℕ) → KeptSoFar all (drop i all) kept skipped → KeepsOne speech kept one now skipped more → KeptSoFar all (drop (i + 1) all) now more
  kept_more all i one within is kept now skipped more so_far keeps =
      let split : drop i all ≡ one ∷ drop (i + 1) all = at_drop_more (λ (l : List Insert). l) all i one within ∙ ap (λ (x : Insert). x ∷ drop (i + 1) all) (sym is) in
      one_more all (drop (i + 1) all) one kept now skipped more (subst (λ (l : List Insert). KeptSoFar all l kept skipped) split so_far) keeps

  pub kept_all : (all : List Insert) (i : ℕ) (kept entries : List (Entry Key)) (skipped : ℕ) → length all ≡ i → entries ≡ kept → KeptSoFar all (drop i all) kept skipped → Keeps speech [] all entries skipped
  kept_all all i kept entries skipped at_end is so_far =
      let none : drop i all ≡ [] = drop_all i all (omega (arith, at_end)) in
      let n : skipped + 0 ≡ skipped = omega arith in
      subst (λ (k : ℕ). Keeps speech [] all entries k) n (so_far entries 0 (subst (λ (l : List Insert). Keeps speech kept l entries 0) (sym none) (is, refl)))

  pub known_at : (all : List Insert) (i : ℕ) (one : Insert) → i < length all → one ≡ get_or all i one → AllByRecursion (IsKnownInsert speech) all → IsKnownInsert speech one
  known_at [] i one within is known = absurd (omega (arith, within))
  known_at (x ∷ all) zero one within is known = subst (IsKnownInsert speech) (sym is) known.0
  known_at (x ∷ all) (suc i) one within is known = known_at all i one (omega (arith, within)) is known.1
