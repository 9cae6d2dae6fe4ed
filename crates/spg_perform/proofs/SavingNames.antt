-- The name of a save is ASCII, so it is a text.
use Rattle.std.proofs.Common.{◌≡◌, ◌<◌, ◌≤◌, ◌==◌, ◌&&◌, ◌||◌, ℕ, zero, suc, Bool, true, false, List, [], ◌∷◌, length, nat_le, ⊎_elim, sym, ap, ◌∙◌, arith}
use Rattle.std.specs.List.{list_all}
use Rattle.std.specs.Str.{IsAscii, IsUtf8}
use Rattle.std.proofs.lemmas.Bool.{cases_lt, and_parts, and_from, and_right, or_from, lt-leb, ne_eqb}
use Rattle.std.proofs.lemmas.Str.{IsUtf8-from_ascii}
use Rattle.spg_script.specs.Line.{is_first_of_name, is_in_name, is_name}

-- no byte from 128 on is in a name
high_first : (b : ℕ) → 128 ≤ b → is_first_of_name b ≡ false
high_first b high = or_from ((nat_le 97 b && nat_le b 122) || (nat_le 48 b && nat_le b 57)) (b == 95)
    (or_from (nat_le 97 b && nat_le b 122) (nat_le 48 b && nat_le b 57) (and_right (nat_le 97 b) (nat_le b 122) (lt-leb b 122 (omega arith))) (and_right (nat_le 48 b) (nat_le b 57) (lt-leb b 57 (omega arith)))) (ne_eqb b 95 (λ same. absurd (omega arith)))

high_byte : (b : ℕ) → 128 ≤ b → is_in_name b ≡ false
high_byte b high = or_from (is_first_of_name b || (b == 45)) (b == 46) (or_from (is_first_of_name b) (b == 45) (high_first b high) (ne_eqb b 45 (λ same. absurd (omega arith)))) (ne_eqb b 46 (λ same. absurd (omega arith)))

byte_ascii : (b : ℕ) → is_in_name b ≡ true → b < 128
byte_ascii b is = ⊎_elim (λ low. low) (λ high. (let clash : false ≡ true = sym (high_byte b high) ∙ is in (cc))) (cases_lt b 128)

bytes_ascii : (name : List ℕ) → list_all is_in_name name ≡ true → IsAscii name
bytes_ascii [] is i = omega arith
bytes_ascii (b ∷ name) is zero = byte_ascii b (and_parts (is_in_name b) (list_all is_in_name name) is).0
bytes_ascii (b ∷ name) is (suc i) = bytes_ascii name (and_parts (is_in_name b) (list_all is_in_name name) is).1 i

name_ascii : (name : List ℕ) → is_name name ≡ true → IsAscii name
name_ascii [] is i = omega arith
name_ascii (b ∷ name) is i =
    let parts = and_parts (is_first_of_name b) (list_all is_in_name name) (and_parts (is_first_of_name b && list_all is_in_name name) (nat_le (length name) 63) is).0 in
    let within : is_in_name b ≡ true = ap (λ (t : Bool). t || (b == 45) || (b == 46)) parts.0 in
    bytes_ascii (b ∷ name) (and_from (is_in_name b) (list_all is_in_name name) within parts.1) i

pub name_utf8 : (name : List ℕ) → is_name name ≡ true → IsUtf8 name
name_utf8 name is = IsUtf8-from_ascii name (name_ascii name is)
