-- Ranges and conditions on them: what is spelled is read, and what is read is spelled.
use Rattle.std.proofs.Common.{◌≡◌, inl, inr, ℕ, Bool, true, false, List, [], ◌∷◌, ◌++◌, length, take, drop, Option, Some, None, refl, sym, ap, ◌∙◌, subst, arith, cond, ◌==◌, ◌≤ℤ◌, take-append-drop}
use Rattle.std.specs.Prelude.{codes, int_le}
use Rattle.std.proofs.lemmas.Option.{same_Some}
use Rattle.std.proofs.lemmas.Bool.Decides.{eqb_tells}
use Rattle.std.proofs.lemmas.List.{take_at, drop_at, append_assoc}
use Rattle.std.proofs.lemmas.Int.{ints}
use Rattle.spg_base.specs.Text.{point_text}
use Rattle.spg_base.specs.declared.point.Point.{Point}
use Rattle.spg_range.specs.declared.range.RangeCond.{RangeCond}
use Rattle.spg_range.specs.declared.range.RangeCond.TheVariants.{Eq, Overlap, Contains, Within, Left, Right}
use Rattle.spg_script.specs.Spelling.{range_text, range_word, range_named, range_cond_text, IsRange}
use Rattle.spg_script.specs.Reading.{◌>>=◌, len_before, split_at, point_of, after, bracketed, range_from, range_of, range_cond_of, range_cond_then}
use Rattle.spg_script.proofs.Options.{bind_some, pair_some, word_or, after_some}
use Rattle.spg_script.proofs.Digits.{HasNo, HasNo-cons, HasNo-append, split_at-front, spelled-split_at, point_apart, point_under, point_of-text, spelled-point_of}
use Rattle.spg_script.proofs.CondLines.{IsBlank, named_length}

-- ---- ranges

bracketed-text : (inner : List ℕ) → HasNo 93 inner → bracketed (91 ∷ (inner ++ 93 ∷ [])) ≡ Some inner
unfolding bracketed
bracketed-text inner apart = rw (split_at-front 93 inner [] apart) refl

spelled-bracketed : (bytes inner : List ℕ) → bracketed bytes ≡ Some inner → bytes ≡ 91 ∷ (inner ++ 93 ∷ [])
unfolding bracketed
spelled-bracketed bytes inner is =
    let a = bind_some (λ (more : List ℕ). split_at 93 more >>= λ parts. cond (length parts.1 == 0) (Some parts.0) None) (after (codes "[") bytes) inner is in
    let b = bind_some (λ (parts : List ℕ × List ℕ). cond (length parts.1 == 0) (Some parts.0) None) (split_at 93 a.0) inner a.2 in
    after_some (codes "[") bytes a.0 a.1 ∙ ap (λ l. 91 ∷ l) (spelled-split_at 93 a.0 b.0.0 b.0.1 b.1 ∙ ends b.0.0 b.0.1 b.2)
  where
    ends : (front back : List ℕ) → cond (length back == 0) (Some front) None ≡ Some inner → front ++ 93 ∷ back ≡ inner ++ 93 ∷ []
    ends front [] h = ap (λ l. l ++ 93 ∷ []) (same_Some front inner h)
    ends front (b ∷ back) h = elim (eqb_tells (length (b ∷ back)) 0) [
      | inl same ↦ absurd (omega (arith, same.1))
      | inr other ↦ let clash : None ≡ Some inner = rw other.0 at h in (cc)
    ]

pub range_of-text : (range : Option Point) → IsRange range → range_of (range_text range) ≡ Some range
unfolding range_of
range_of-text None is = refl
range_of-text (Some ends) is = let order : int_le ends.x ends.y ≡ true = grind (arith, ints, is.1) in rw (bracketed-text (point_text ends) (point_under 93 ends (omega arith) is.0), point_of-text ends is.0, order) refl

from_is : (ends : Point) (range : Option Point) → range_from ends ≡ Some range → (Some ends ≡ range) × (ends.x ≤ℤ ends.y)
from_is ends range is = go (int_le ends.x ends.y) refl is
  where
    go : (t : Bool) → int_le ends.x ends.y ≡ t → cond t (Some (Some ends)) None ≡ Some range → (Some ends ≡ range) × (ends.x ≤ℤ ends.y)
    go true e h = (same_Some _ _ h, omega (arith, ints))
    go false e h = (cc)

pub spelled-range_of : (bytes : List ℕ) (range : Option Point) → range_of bytes ≡ Some range → (bytes ≡ range_text range) × IsRange range
unfolding range_of
spelled-range_of bytes range is = elim (word_or bytes (codes "empty") _ _ range is) [
  | inl a ↦ subst (λ (r : Option Point). (bytes ≡ range_text r) × IsRange r) (same_Some _ _ a.1) (a.0, tt)
  | inr is ↦
      let a = bind_some (λ (inner : List ℕ). point_of inner >>= λ ends. range_from ends) (bracketed bytes) range is in
      let b = bind_some (λ (ends : Point). range_from ends) (point_of a.0) range a.2 in
      let point = spelled-point_of a.0 b.0 b.1 in
      let from = from_is b.0 range b.2 in
      subst (λ (r : Option Point). (bytes ≡ range_text r) × IsRange r) from.0 (spelled-bracketed bytes a.0 a.1 ∙ ap (λ l. 91 ∷ (l ++ 93 ∷ [])) point.0, (point.1, from.1))
]

range_apart : (range : Option Point) → IsRange range → HasNo 32 (range_text range)
range_apart None is = refl
range_apart (Some ends) is = HasNo-cons 32 91 (point_text ends ++ 93 ∷ []) refl (HasNo-append 32 (point_text ends) (93 ∷ []) (point_apart 32 ends (omega arith) is.0) refl)

-- no range is spelled as a null is
pub null_no_range : range_of (codes "null") ≡ None
unfolding range_of bracketed
null_no_range = refl

-- ---- conditions

word_apart : (c : RangeCond) → HasNo 32 (range_word c)
word_apart (Eq r) = refl
word_apart (Overlap r) = refl
word_apart (Contains r) = refl
word_apart (Within r) = refl
word_apart (Left r) = refl
word_apart (Right r) = refl

range_cond_of-word : (c : RangeCond) → range_cond_of (range_word c) (range_named c) ≡ Some c
unfolding range_cond_of
range_cond_of-word (Eq r) = refl
range_cond_of-word (Overlap r) = refl
range_cond_of-word (Contains r) = refl
range_cond_of-word (Within r) = refl
range_cond_of-word (Left r) = refl
range_cond_of-word (Right r) = refl

abbrev Names : List ℕ → Option Point → RangeCond → Type 0
Names kind range c = (kind ≡ range_word c) × (range ≡ range_named c)

names : (kind : List ℕ) (range : Option Point) (made c : RangeCond) → kind ≡ range_word made → range ≡ range_named made → Some made ≡ Some c → Names kind range c
names kind range made c is t h = subst (λ (k : RangeCond). Names kind range k) (same_Some _ _ h) (is, t)

range_cond_is : (kind : List ℕ) (range : Option Point) (c : RangeCond) → range_cond_of kind range ≡ Some c → Names kind range c
unfolding range_cond_of
range_cond_is kind range c is = elim (word_or kind (codes "eq") _ _ c is) [
  | inl a ↦ names kind range (Eq range) c a.0 refl a.1
  | inr is ↦ elim (word_or kind (codes "overlap") _ _ c is) [
    | inl a ↦ names kind range (Overlap range) c a.0 refl a.1
    | inr is ↦ elim (word_or kind (codes "contains") _ _ c is) [
      | inl a ↦ names kind range (Contains range) c a.0 refl a.1
      | inr is ↦ elim (word_or kind (codes "within") _ _ c is) [
        | inl a ↦ names kind range (Within range) c a.0 refl a.1
        | inr is ↦ elim (word_or kind (codes "left") _ _ c is) [
          | inl a ↦ names kind range (Left range) c a.0 refl a.1
          | inr is ↦ elim (word_or kind (codes "right") _ _ c is) [
            | inl a ↦ names kind range (Right range) c a.0 refl a.1
            | inr is ↦ (cc)
          ]
        ]
      ]
    ]
  ]
]

pub range_cond_then-spelled : (c : RangeCond) (bytes left : List ℕ) → bytes ≡ range_cond_text c ++ left → IsRange (range_named c) → IsBlank left → range_cond_then bytes ≡ Some (c, left)
unfolding range_cond_then
range_cond_then-spelled c bytes left is fine blank =
    let text : List ℕ = range_text (range_named c) in
    rw (is ∙ append_assoc (range_word c) (32 ∷ text) left)
    (rw (split_at-front 32 (range_word c) (text ++ left) (word_apart c))
    (rw (named_length text left (range_apart (range_named c) fine) blank, take_at text left (length text) refl, drop_at text left (length text) refl)
    (rw (range_of-text (range_named c) fine, range_cond_of-word c) refl)))

pub spelled-range_cond_then : (bytes : List ℕ) (c : RangeCond) (left : List ℕ) → range_cond_then bytes ≡ Some (c, left) → (bytes ≡ range_cond_text c ++ left) × IsRange (range_named c)
unfolding range_cond_then
spelled-range_cond_then bytes c left is =
    let a = bind_some (λ (parts : List ℕ × List ℕ). range_of (take (len_before 32 parts.1) parts.1) >>= λ range. (range_cond_of parts.0 range >>= λ k. Some (k, drop (len_before 32 parts.1) parts.1))) (split_at 32 bytes) (c, left) is in
    let at = len_before 32 a.0.1 in
    let b = bind_some (λ (range : Option Point). range_cond_of a.0.0 range >>= λ k. Some (k, drop at a.0.1)) (range_of (take at a.0.1)) (c, left) a.2 in
    let d = bind_some (λ (k : RangeCond). Some (k, drop at a.0.1)) (range_cond_of a.0.0 b.0) (c, left) b.2 in
    let same = pair_some d.0 c (drop at a.0.1) left d.2 in
    let says = subst (λ (k : RangeCond). Names a.0.0 b.0 k) same.0 (range_cond_is a.0.0 b.0 d.0 d.1) in
    let range = subst (λ (r : Option Point). (take at a.0.1 ≡ range_text r) × IsRange r) says.1 (spelled-range_of (take at a.0.1) b.0 b.1) in
    let words : bytes ≡ range_word c ++ 32 ∷ (range_text (range_named c) ++ drop at a.0.1) = spelled-split_at 32 bytes a.0.0 a.0.1 a.1 ∙ ap (λ l. l ++ 32 ∷ a.0.1) says.0
    ∙ ap (λ l. range_word c ++ 32 ∷ l) (sym (take-append-drop at a.0.1) ∙ ap (λ l. l ++ drop at a.0.1) range.0) in
    (words ∙ sym (append_assoc (range_word c) (32 ∷ range_text (range_named c)) (drop at a.0.1)) ∙ ap (λ l. range_cond_text c ++ l) same.1, range.1)
