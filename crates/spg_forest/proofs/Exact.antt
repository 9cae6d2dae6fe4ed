-- That a section names exactly the blocks that it changes or adds.
use Rattle.std.proofs.Common.{◌≡◌, ℕ, zero, suc, ◌+◌, ◌-◌, ◌<◌, ◌≤◌, List, [], ◌∷◌, ◌++◌, ◌⊎◌, ⊎_elim, length, refl, ap, subst, sym, inl, inr, arith}
use Rattle.std.specs.List.{range_with_len}
use Rattle.std.proofs.lemmas.Bool.{cases_eq, cases_lt}
use Rattle.spg_forest.specs.View.{Place}
use Rattle.spg_forest.specs.Tuples.{Tuple, IsAmong}
use Rattle.spg_forest.specs.Pages.{tuple_on}
use Rattle.spg_forest.specs.Sheets.{Sheets, sheet_at}
use Rattle.spg_forest.specs.Edits.{tuple_of}
use Rattle.spg_forest.specs.Exact.{IsWritten, AreOnce, IsExact}

-- a page on which a tuple differs
pub differs : (us ts : List Tuple) (o : ℕ) → (tuple_on us o ≡ tuple_on ts o → ⊥) → us ≡ ts → ⊥
differs us ts o n e = n (ap (λ (vs : List Tuple). tuple_on vs o) e)

pub written_at : (S S2 : Sheets) (x : Place) → (tuple_of S2 x ≡ tuple_of S x → ⊥) → IsWritten S S2 x.block
written_at S S2 x n = inl (differs (sheet_at S2 x.block).tuples (sheet_at S x.block).tuples x.offset n)

-- one block, two or three, of which the first alone may be new
pub exact_one : (S S2 : Sheets) (a : ℕ) → IsWritten S S2 a → length S2.sheets ≤ length S.sheets → IsExact S S2 (a ∷ [])
exact_one S S2 a w h = record {
  each = λ b i. each b i;
  added = λ b g k. absurd (omega arith);
  once = ((λ i. i), tt);
}
  where
    each : (b : ℕ) → IsAmong b (a ∷ []) → IsWritten S S2 b
    each b (inl e) = subst (IsWritten S S2) (sym e) w
    each b (inr i) = absurd i

pub exact_two : (S S2 : Sheets) (a c : ℕ) → (a ≡ c → ⊥) → IsWritten S S2 a → IsWritten S S2 c → ((b : ℕ) → length S.sheets ≤ b → b < length S2.sheets → b ≡ a) → IsExact S S2 (a ∷ c ∷ [])
exact_two S S2 a c n w v new = record {
  each = λ b i. each b i;
  added = λ b g k. inl (new b g k);
  once = ((λ i. apart i), ((λ i. i), tt));
}
  where
    each : (b : ℕ) → IsAmong b (a ∷ c ∷ []) → IsWritten S S2 b
    each b (inl e) = subst (IsWritten S S2) (sym e) w
    each b (inr (inl e)) = subst (IsWritten S S2) (sym e) v
    each b (inr (inr i)) = absurd i

    apart : IsAmong a (c ∷ []) → ⊥
    apart (inl e) = n e
    apart (inr i) = i

pub exact_three : (S S2 : Sheets) (a c d : ℕ) → (a ≡ c → ⊥) → (a ≡ d → ⊥) → (c ≡ d → ⊥) → IsWritten S S2 a → IsWritten S S2 c → IsWritten S S2 d → ((b : ℕ) → length S.sheets ≤ b → b < length S2.sheets → b ≡ a) → IsExact S S2 (a ∷ c ∷ d ∷ [])
exact_three S S2 a c d ac ad cd w v u new = record {
  each = λ b i. each b i;
  added = λ b g k. inl (new b g k);
  once = ((λ i. apart i), ((λ i. other i), ((λ i. i), tt)));
}
  where
    each : (b : ℕ) → IsAmong b (a ∷ c ∷ d ∷ []) → IsWritten S S2 b
    each b (inl e) = subst (IsWritten S S2) (sym e) w
    each b (inr (inl e)) = subst (IsWritten S S2) (sym e) v
    each b (inr (inr (inl e))) = subst (IsWritten S S2) (sym e) u
    each b (inr (inr (inr i))) = absurd i

    apart : IsAmong a (c ∷ d ∷ []) → ⊥
    apart (inl e) = ac e
    apart (inr (inl e)) = ad e
    apart (inr (inr i)) = i

    other : IsAmong c (d ∷ []) → ⊥
    other (inl e) = cd e
    other (inr i) = i

-- ---- more blocks, and behind them all that are new

pub among_cases : (e : ℕ) (xs ys : List ℕ) → IsAmong e (xs ++ ys) → IsAmong e xs ⊎ IsAmong e ys
among_cases e [] ys a = inr a
among_cases e (x ∷ xs) ys (inl q) = inl (inl q)
among_cases e (x ∷ xs) ys (inr a) = ⊎_elim (λ b. inl (inr b)) (λ b. inr b) (among_cases e xs ys a)

among_behind : (e : ℕ) (xs ys : List ℕ) → IsAmong e ys → IsAmong e (xs ++ ys)
among_behind e [] ys a = a
among_behind e (x ∷ xs) ys a = inr (among_behind e xs ys a)

pub once_both : (xs ys : List ℕ) → AreOnce xs → AreOnce ys → ((e : ℕ) → IsAmong e xs → IsAmong e ys → ⊥) → AreOnce (xs ++ ys)
once_both [] ys h k n = k
once_both (x ∷ xs) ys (a, h) k n = ((λ i. ⊎_elim a (λ b. n x (inl refl) b) (among_cases x xs ys i)), once_both xs ys h k (λ e i j. n e (inr i) j))

range_within : (k n e : ℕ) → IsAmong e (range_with_len n k) → (n ≤ e) × (e < n + k)
range_within zero n e a = absurd a
range_within (suc k) n e (inl q) = (omega arith, omega arith)
range_within (suc k) n e (inr a) = let (g, h) = range_within k (n + 1) e a in (omega arith, omega arith)

range_has : (k n e : ℕ) → n ≤ e → e < n + k → IsAmong e (range_with_len n k)
range_has zero n e g h = absurd (omega arith)
range_has (suc k) n e g h = ⊎_elim (λ q. inl q) (λ q. inr (range_has k (n + 1) e (⊎_elim (λ z. absurd (q (omega arith))) (λ z. z) (cases_lt e (n + 1))) (omega arith))) (cases_eq e n)

range_once : (k n : ℕ) → AreOnce (range_with_len n k)
range_once zero n = tt
range_once (suc k) n = ((λ a. let (g, h) = range_within k (n + 1) n a in absurd (omega arith)), range_once k (n + 1))

pub exact_range : (S S2 : Sheets) (us : List ℕ) (n now : ℕ) → n ≡ length S.sheets → now ≡ length S2.sheets → n ≤ now → AreOnce us → ((e : ℕ) → IsAmong e us → (e < n) × IsWritten S S2 e) → IsExact S S2 (us ++ range_with_len n (now - n))
exact_range S S2 us n now en el le once w = record {
  each = λ b a. ⊎_elim (λ i. (w b i).1) (λ i. let (g, h) = range_within (now - n) n b i in inr (omega arith, omega arith)) (among_cases b us (range_with_len n (now - n)) a);
  added = λ b g h. among_behind b us (range_with_len n (now - n)) (range_has (now - n) n b (omega arith) (omega arith));
  once = once_both us (range_with_len n (now - n)) once (range_once (now - n) n) (λ e i j. let (g, h) = range_within (now - n) n e j in let k = (w e i).0 in absurd (omega arith));
}
