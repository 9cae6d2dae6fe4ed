-- The name of an image is ASCII, so it is a text.
use Rattle.std.proofs.Common.{◌≡◌, ◌<◌, ◌≤◌, ◌==◌, ◌&&◌, ◌||◌, ℕ, zero, suc, Bool, true, false, cond, Option, Some, None, List, [], ◌∷◌, length, nat_le, ⊎_elim, refl, sym, ap, ◌∙◌, arith}
use Rattle.std.specs.List.{list_all}
use Rattle.std.specs.Str.{IsAscii, IsUtf8}
use Rattle.std.proofs.lemmas.Bool.{cases_lt, and_parts, and_from, and_right, or_from, lt-leb, ne_eqb}
use Rattle.std.proofs.lemmas.Str.{IsUtf8-from_ascii}
use Rattle.spg_io.specs.Names.{is_first_byte, is_name_byte, is_name}
use Rattle.spg_words.specs.Asked.{image_name}

-- no byte from 128 on is in a name
high_first : (b : ℕ) → 128 ≤ b → is_first_byte b ≡ false
high_first b high = or_from ((nat_le 97 b && nat_le b 122) || (nat_le 48 b && nat_le b 57)) (b == 95)
    (or_from (nat_le 97 b && nat_le b 122) (nat_le 48 b && nat_le b 57) (and_right (nat_le 97 b) (nat_le b 122) (lt-leb b 122 (omega arith))) (and_right (nat_le 48 b) (nat_le b 57) (lt-leb b 57 (omega arith)))) (ne_eqb b 95 (λ same. absurd (omega arith)))

high_byte : (b : ℕ) → 128 ≤ b → is_name_byte b ≡ false
high_byte b high = or_from (is_first_byte b || (b == 45)) (b == 46) (or_from (is_first_byte b) (b == 45) (high_first b high) (ne_eqb b 45 (λ same. absurd (omega arith)))) (ne_eqb b 46 (λ same. absurd (omega arith)))

byte_ascii : (b : ℕ) → is_name_byte b ≡ true → b < 128
byte_ascii b is = ⊎_elim (λ low. low) (λ high. (let clash : false ≡ true = sym (high_byte b high) ∙ is in (cc))) (cases_lt b 128)

bytes_ascii : (name : List ℕ) → list_all is_name_byte name ≡ true → IsAscii name
bytes_ascii [] is i = omega arith
bytes_ascii (b ∷ name) is zero = byte_ascii b (and_parts (is_name_byte b) (list_all is_name_byte name) is).0
bytes_ascii (b ∷ name) is (suc i) = bytes_ascii name (and_parts (is_name_byte b) (list_all is_name_byte name) is).1 i

name_ascii : (name : List ℕ) → is_name name ≡ true → IsAscii name
name_ascii [] is i = omega arith
name_ascii (b ∷ name) is i =
    let parts = and_parts (is_first_byte b) (list_all is_name_byte name) (and_parts (is_first_byte b && list_all is_name_byte name) (nat_le (length name) 63) is).0 in
    let within : is_name_byte b ≡ true = ap (λ (t : Bool). t || (b == 45) || (b == 46)) parts.0 in
    bytes_ascii (b ∷ name) (and_from (is_name_byte b) (list_all is_name_byte name) within parts.1) i

pub name_utf8 : (name : List ℕ) → is_name name ≡ true → IsUtf8 name
name_utf8 name is = IsUtf8-from_ascii name (name_ascii name is)

-- ---- words that name no image

pub no_name : (word name : List ℕ) → name ≡ word → is_name name ≡ false → None ≡ image_name word
no_name word name same is = sym (ap (λ (t : Bool). cond t (Some word) None) (ap is_name (sym same) ∙ is))

pub no_text : (word : List ℕ) → (IsUtf8 word → ⊥) → None ≡ image_name word
no_text word no_utf8 = go (is_name word) refl
  where
    go : (t : Bool) → is_name word ≡ t → None ≡ cond t (Some word) None
    go true e = absurd (no_utf8 (name_utf8 word e))
    go false e = refl
