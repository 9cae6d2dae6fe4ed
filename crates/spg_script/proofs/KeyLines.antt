-- Keys: what is spelled is read, and what is read is spelled.
use Rattle.std.proofs.Common.{◌≡◌, inl, inr, ◌<◌, ◌^◌, ℕ, Bool, true, false, List, ◌++◌, length, take, drop, Option, Some, None, refl, sym, ap, ◌∙◌, subst, arith, take-append-drop}
use Rattle.std.specs.Prelude.{codes, bytes_eq}
use Rattle.std.specs.Fmt.{decimal}
use Rattle.std.proofs.lemmas.Slice.Eq.{bytes_eq-Decides}
use Rattle.std.proofs.lemmas.Option.{same_Some}
use Rattle.std.proofs.lemmas.List.{take_at, drop_at}
use Rattle.spg_base.specs.Text.{point_text}
use Rattle.spg_base.specs.declared.point.Point.{Point}
use Rattle.spg_script.specs.declared.key_form.KeyForm.{KeyForm}
use Rattle.spg_script.specs.declared.key_form.KeyForm.TheVariants as form
use Rattle.spg_script.specs.declared.any_key.AnyKey.{AnyKey}
use Rattle.spg_script.specs.declared.any_key.AnyKey.TheVariants as any_key
use Rattle.spg_script.specs.Spelling.{value_text, IsPoint}
use Rattle.spg_script.specs.Quoted.{IsQuoted}
use Rattle.spg_script.specs.Line.{form_of, SpellsAnyKey, SpellsKey, SpellsKeyOrNull}
use Rattle.spg_script.specs.Reading.{◌>>=◌, len_before, split_at, point_of, number_below, quoted_of, whole_text_of, range_of, after, value_behind, point_value_of, text_value_of, any_key_of, key_of}
use Rattle.spg_script.proofs.Options.{bind_some, word_or, after_some}
use Rattle.spg_script.proofs.Digits.{number_below-decimal, spelled-number_below, len_before-front, point_apart, point_of-text, spelled-point_of}
use Rattle.spg_script.proofs.TextLemmas.{quoted_of-spelled, spelled-quoted_of, whole_text_of-spelled, spelled-whole_text_of}
use Rattle.spg_script.proofs.RangeLines.{range_of-text, spelled-range_of, null_no_range}

-- ---- the number beside a key

value_behind-text : (value : ℕ) → value < 2 ^ 64 → value_behind (value_text value) ≡ Some value
unfolding value_behind
value_behind-text value small = number_below-decimal (2 ^ 64) value (omega arith) small

spelled-value_behind : (bytes : List ℕ) (value : ℕ) → value_behind bytes ≡ Some value → (bytes ≡ value_text value) × (value < 2 ^ 64)
unfolding value_behind
spelled-value_behind bytes value is =
    let a = bind_some (λ (digits : List ℕ). number_below (2 ^ 64) digits) (after (codes " value ") bytes) value is in
    let number = spelled-number_below (2 ^ 64) a.0 value (omega arith) (omega arith) a.2 in
    (after_some (codes " value ") bytes a.0 a.1 ∙ ap (λ l. codes " value " ++ l) number.0, number.1)

-- ---- keys of each form

point_value_of-text : (point : Point) (value : ℕ) → IsPoint point → value < 2 ^ 64 → point_value_of (point_text point ++ value_text value) ≡ Some (any_key.PointValue point value)
unfolding point_value_of
point_value_of-text point value is small =
    rw (len_before-front 32 (point_text point) (codes "value " ++ decimal value) (point_apart 32 point (omega arith) is))
    (rw (take_at (point_text point) (value_text value) (length (point_text point)) refl, drop_at (point_text point) (value_text value) (length (point_text point)) refl)
    (rw (point_of-text point is, value_behind-text value small) refl))

text_value_of-spelled : (text bytes : List ℕ) (value : ℕ) → SpellsAnyKey (any_key.TextValue text value) bytes → text_value_of bytes ≡ Some (any_key.TextValue text value)
unfolding text_value_of
text_value_of-spelled text bytes value is = rw (quoted_of-spelled text bytes (value_text value) is.0, value_behind-text value is.1) refl

any_key_of-spelled : (key : AnyKey) (bytes : List ℕ) → SpellsAnyKey key bytes → any_key_of (form_of key) bytes ≡ Some key
unfolding any_key_of
any_key_of-spelled (any_key.Point point) bytes is = rw is.0 (rw (point_of-text point is.1) refl)
any_key_of-spelled (any_key.Text text) bytes is = rw (whole_text_of-spelled text bytes is) refl
any_key_of-spelled (any_key.PointValue point value) bytes is = rw is.0 (point_value_of-text point value is.1 is.2)
any_key_of-spelled (any_key.TextValue text value) bytes is = text_value_of-spelled text bytes value is
any_key_of-spelled (any_key.Range range) bytes is = rw is.0 (rw (range_of-text range is.1) refl)

-- a key, where it is made of what was read
said : (keys : KeyForm) (bytes : List ℕ) (made key : AnyKey) → keys ≡ form_of made → SpellsAnyKey made bytes → Some made ≡ Some key → SpellsKey keys key bytes
said keys bytes made key form says h = subst (λ (k : AnyKey). SpellsKey keys k bytes) (same_Some _ _ h) (form, says)

spelled-point_value_of : (bytes : List ℕ) (key : AnyKey) → point_value_of bytes ≡ Some key → SpellsKey form.PointValue key bytes
unfolding point_value_of
spelled-point_value_of bytes key is =
    let at = len_before 32 bytes in
    let a = bind_some (λ (point : Point). value_behind (drop at bytes) >>= λ value. Some (any_key.PointValue point value)) (point_of (take at bytes)) key is in
    let b = bind_some (λ (value : ℕ). Some (any_key.PointValue a.0 value)) (value_behind (drop at bytes)) key a.2 in
    let point = spelled-point_of (take at bytes) a.0 a.1 in
    let value = spelled-value_behind (drop at bytes) b.0 b.1 in
    let text : bytes ≡ point_text a.0 ++ value_text b.0 = sym (take-append-drop at bytes) ∙ ap (λ l. l ++ drop at bytes) point.0 ∙ ap (λ l. point_text a.0 ++ l) value.0 in
    said form.PointValue bytes (any_key.PointValue a.0 b.0) key refl (text, point.1, value.1) b.2

spelled-text_value_of : (bytes : List ℕ) (key : AnyKey) → text_value_of bytes ≡ Some key → SpellsKey form.TextValue key bytes
unfolding text_value_of
spelled-text_value_of bytes key is =
    let a = bind_some (λ (text : List ℕ × List ℕ). value_behind text.1 >>= λ value. Some (any_key.TextValue text.0 value)) (quoted_of bytes) key is in
    let b = bind_some (λ (value : ℕ). Some (any_key.TextValue a.0.0 value)) (value_behind a.0.1) key a.2 in
    let value = spelled-value_behind a.0.1 b.0 b.1 in
    let says : SpellsAnyKey (any_key.TextValue a.0.0 b.0) bytes = (subst (λ (l : List ℕ). IsQuoted a.0.0 bytes l) value.0 (spelled-quoted_of bytes a.0.0 a.0.1 a.1), value.1) in
    said form.TextValue bytes (any_key.TextValue a.0.0 b.0) key refl says b.2

spelled-any_key_of : (keys : KeyForm) (bytes : List ℕ) (key : AnyKey) → any_key_of keys bytes ≡ Some key → SpellsKey keys key bytes
unfolding any_key_of
spelled-any_key_of form.Point bytes key is =
    let a = bind_some (λ (point : Point). Some (any_key.Point point)) (point_of bytes) key is in
    said form.Point bytes (any_key.Point a.0) key refl (spelled-point_of bytes a.0 a.1) a.2
spelled-any_key_of form.Text bytes key is =
    let a = bind_some (λ (text : List ℕ). Some (any_key.Text text)) (whole_text_of bytes) key is in
    said form.Text bytes (any_key.Text a.0) key refl (spelled-whole_text_of bytes a.0 a.1) a.2
spelled-any_key_of form.PointValue bytes key is = spelled-point_value_of bytes key is
spelled-any_key_of form.TextValue bytes key is = spelled-text_value_of bytes key is
spelled-any_key_of form.Range bytes key is =
    let a = bind_some (λ (range : Option Point). Some (any_key.Range range)) (range_of bytes) key is in
    said form.Range bytes (any_key.Range a.0) key refl (spelled-range_of bytes a.0 a.1) a.2

-- ---- a null is no key

null_no_key : (keys : KeyForm) → any_key_of keys (codes "null") ≡ None
unfolding any_key_of point_of split_at point_value_of text_value_of whole_text_of quoted_of
null_no_key form.Point = refl
null_no_key form.Text = refl
null_no_key form.PointValue = refl
null_no_key form.TextValue = refl
null_no_key form.Range = rw null_no_range refl

not_true : (b : Bool) → (b ≡ true → ⊥) → b ≡ false
not_true true other = absurd (other refl)
not_true false other = refl

key_no_null : (key : AnyKey) (bytes : List ℕ) → SpellsAnyKey key bytes → bytes_eq bytes (codes "null") ≡ false
key_no_null key bytes is = not_true (bytes_eq bytes (codes "null")) (λ same.
    let read : any_key_of (form_of key) (codes "null") ≡ Some key = sym (ap (any_key_of (form_of key)) ((bytes_eq-Decides bytes (codes "null")).0 same)) ∙ any_key_of-spelled key bytes is in
    let clash : None ≡ Some key = sym (null_no_key (form_of key)) ∙ read in
    (cc))

pub key_of-spelled : (keys : KeyForm) (key : Option AnyKey) (bytes : List ℕ) → SpellsKeyOrNull keys key bytes → key_of keys bytes ≡ Some key
unfolding key_of
key_of-spelled keys None bytes is = rw is refl
key_of-spelled keys (Some key) bytes is = rw (is.0, key_no_null key bytes is.1) (rw (any_key_of-spelled key bytes is.1) refl)

pub spelled-key_of : (keys : KeyForm) (bytes : List ℕ) (key : Option AnyKey) → key_of keys bytes ≡ Some key → SpellsKeyOrNull keys key bytes
unfolding key_of
spelled-key_of keys bytes key is = elim (word_or bytes (codes "null") _ _ key is) [
  | inl a ↦ subst (λ (k : Option AnyKey). SpellsKeyOrNull keys k bytes) (same_Some _ _ a.1) a.0
  | inr is ↦
      let a = bind_some (λ (k : AnyKey). Some (Some k)) (any_key_of keys bytes) key is in
      let says : SpellsKeyOrNull keys (Some a.0) bytes = spelled-any_key_of keys bytes a.0 a.1 in
      subst (λ (k : Option AnyKey). SpellsKeyOrNull keys k bytes) (same_Some _ _ a.2) says
]
