-- What is printed spells what is said.
use Rattle.std.proofs.Common.{◌≡◌, inl, inr, ◌<◌, ◌≤◌, ◌^◌, ◌+◌, ◌/◌, ◌%◌, ◌==◌, ◌&&◌, ℕ, zero, suc, Bool, true, false, cond, List, [], ◌∷◌, ◌++◌, length, Option, Some, None, ℤ, FitsSigned, refl, sym, ap, ◌∙◌, subst, arith, append-nil}
use Rattle.std.specs.Prelude.{codes, nat_lt, nat_le, option_and_then, option_map}
use Rattle.std.specs.Int.{w32}
use Rattle.std.specs.Fmt.{decimal, signed_decimal}
use Rattle.std.proofs.lemmas.Option.{same_Some}
use Rattle.std.specs.List.{AllByRecursion, flat_map}
use Rattle.std.proofs.lemmas.Bool.{ltb-true, leb-true}
use Rattle.std.proofs.lemmas.Bool.Decides.{eqb_tells}
use Rattle.std.proofs.lemmas.List.{append_assoc}
use Rattle.spg_base.specs.Text.{point_text}
use Rattle.spg_base.specs.declared.point.Point.{Point}
use Rattle.spg_base.specs.declared.point.PointCond.{PointCond}
use Rattle.spg_base.specs.declared.point.PointCond.TheVariants.{Eq, Left, Right, Below, Above, Inside}
use Rattle.spg_opclass.specs.declared.query.Query.{Query}
use Rattle.spg_opclass.specs.declared.query.Query.TheVariants as asks
use Rattle.spg_radix.specs.declared.condition.TextCond.TheVariants as text_cond
use Rattle.spg_radix.specs.declared.condition.TextCond.{TextCond}
use Rattle.spg_radix.specs.Texts.{is_bytes, is_text}
use Rattle.spg_radix.specs.Conditions.{named}
use Rattle.spg_range.specs.declared.range.RangeCond.{RangeCond}
use Rattle.spg_range.specs.declared.range.RangeCond.TheVariants as range_cond
use Rattle.spg_script.specs.declared.key_form.KeyForm.{KeyForm}
use Rattle.spg_script.specs.declared.any_key.AnyKey.{AnyKey}
use Rattle.spg_script.specs.declared.any_key.AnyKey.TheVariants as any_key
use Rattle.spg_script.specs.declared.any_cond.AnyCond.{AnyCond}
use Rattle.spg_script.specs.declared.any_cond.AnyCond.TheVariants as any_cond
use Rattle.spg_script.specs.declared.any_query.AnyQuery.{AnyQuery}
use Rattle.spg_script.specs.declared.any_query.AnyQuery.TheVariants.{All, Null, Where}
use Rattle.spg_script.specs.Quoted.{hex_of, hex_digit, is_plain, escaped, first_byte, byte_text, quoted, SpellsText, IsQuoted}
use Rattle.spg_script.specs.Spelling.{IsCond, IsRange, cond_text, conds_text, value_text, range_text, range_word, range_named}
use Rattle.spg_script.specs.Line.{word_of, SpellsAnyKey, SpellsKeyOrNull, SpellsAnyCond, SpellsCond, SpellsConds, SpellsQuery}
use Rattle.spg_script.specs.Speech.{Speech, SpeaksAsPrinted, key_or_null_in, conds_in, query_in, key_or_null_text, query_text, any_key_text, any_cond_text, any_key_or_null_text, any_query_text}
use Rattle.spg_script.proofs.Digits.{HasNo, HasNo-cons, HasNo-append, HasNo-decimal, HasNo-signed, byte_other, point_apart}
use Rattle.spg_script.specs.Laws.{IsSoundKey, IsKeyOrNull, IsSoundCond, IsAnyCond, IsQuery}

-- ---- keys

hex_back : (n : ℕ) → n < 16 → hex_of (hex_digit n) ≡ Some n
hex_back zero _ = refl
hex_back (suc zero) _ = refl
hex_back (suc (suc zero)) _ = refl
hex_back (suc (suc (suc zero))) _ = refl
hex_back (suc (suc (suc (suc zero)))) _ = refl
hex_back (suc (suc (suc (suc (suc zero))))) _ = refl
hex_back (suc (suc (suc (suc (suc (suc zero)))))) _ = refl
hex_back (suc (suc (suc (suc (suc (suc (suc zero))))))) _ = refl
hex_back (suc (suc (suc (suc (suc (suc (suc (suc zero)))))))) _ = refl
hex_back (suc (suc (suc (suc (suc (suc (suc (suc (suc zero))))))))) _ = refl
hex_back (suc (suc (suc (suc (suc (suc (suc (suc (suc (suc zero)))))))))) _ = refl
hex_back (suc (suc (suc (suc (suc (suc (suc (suc (suc (suc (suc zero))))))))))) _ = refl
hex_back (suc (suc (suc (suc (suc (suc (suc (suc (suc (suc (suc (suc zero)))))))))))) _ = refl
hex_back (suc (suc (suc (suc (suc (suc (suc (suc (suc (suc (suc (suc (suc zero))))))))))))) _ = refl
hex_back (suc (suc (suc (suc (suc (suc (suc (suc (suc (suc (suc (suc (suc (suc zero)))))))))))))) _ = refl
hex_back (suc (suc (suc (suc (suc (suc (suc (suc (suc (suc (suc (suc (suc (suc (suc zero))))))))))))))) _ = refl
hex_back (suc (suc (suc (suc (suc (suc (suc (suc (suc (suc (suc (suc (suc (suc (suc (suc n)))))))))))))))) small = absurd (omega arith)

pub not_backslash : (b : ℕ) → is_plain b ≡ true → (b == 92) ≡ false
not_backslash b plain = elim (eqb_tells b 92) [
  | inl same ↦ let clash : false ≡ true = rw same.1 at plain in (cc)
  | inr other ↦ other.0
]

pub plain_first : (b : ℕ) (rest : List ℕ) → (b == 92) ≡ false → is_plain b ≡ true → first_byte (b ∷ rest) ≡ Some (b, rest)
plain_first b rest other plain = ap (λ (t : Bool). cond t (escaped rest) (cond (is_plain b) (Some (b, rest)) None)) other ∙ ap (λ (t : Bool). cond t (Some (b, rest)) None) plain

first_printed : (b : ℕ) (rest : List ℕ) → b < 256 → first_byte (byte_text b ++ rest) ≡ Some (b, rest)
first_printed b rest small = go (is_plain b) refl
  where
    go : (t : Bool) → is_plain b ≡ t → first_byte (cond t (b ∷ []) (92 ∷ 120 ∷ hex_digit (b / 16) ∷ hex_digit (b % 16) ∷ []) ++ rest) ≡ Some (b, rest)
    go true e = plain_first b rest (not_backslash b e) e
    go false e =
        let high : b / 16 < 16 = omega arith in
        let low : b % 16 < 16 = omega arith in
        rw (hex_back (b / 16) high, hex_back (b % 16) low) (ap (λ (x : ℕ). Some (x, rest)) (omega arith))

bytes_head : (b : ℕ) (text : List ℕ) → is_bytes (b ∷ text) ≡ true → (b < 256) × (is_bytes text ≡ true)
bytes_head b text is = go (nat_lt b 256) refl is
  where
    go : (t : Bool) → nat_lt b 256 ≡ t → (t && is_bytes text) ≡ true → (b < 256) × (is_bytes text ≡ true)
    go true e h = (ltb-true b 256 e, h)
    go false e h = (cc)

spells_printed : (text left : List ℕ) → is_bytes text ≡ true → SpellsText text (flat_map byte_text text ++ 34 ∷ left) left
spells_printed [] left is = refl
spells_printed (b ∷ text) left is =
    let parts = bytes_head b text is in
    (flat_map byte_text text ++ 34 ∷ left, ap first_byte (append_assoc (byte_text b) (flat_map byte_text text) (34 ∷ left)) ∙ first_printed b (flat_map byte_text text ++ 34 ∷ left) parts.0, spells_printed text left parts.1)

text_parts : (text : List ℕ) → is_text text ≡ true → (is_bytes text ≡ true) × (length text ≤ 3900)
text_parts text is = go (is_bytes text) refl (nat_le (length text) 3900) refl is
  where
    go : (t : Bool) → is_bytes text ≡ t → (u : Bool) → nat_le (length text) 3900 ≡ u → (t && u) ≡ true → (is_bytes text ≡ true) × (length text ≤ 3900)
    go true e true f h = (e, leb-true (length text) 3900 f)
    go true e false f h = (cc)
    go false e u f h = (cc)

pub quoted_printed : (text left : List ℕ) → is_text text ≡ true → IsQuoted text (quoted text ++ left) left
quoted_printed text left is =
    let parts = text_parts text is in
    record {
      inner = flat_map byte_text text ++ 34 ∷ left;
      opened = ap (λ l. 34 ∷ l) (append_assoc (flat_map byte_text text) (34 ∷ []) left);
      spelled = spells_printed text left parts.0;
      short = parts.1;
    }

-- ---- keys, conditions and queries

any_key_printed : (key : AnyKey) → IsSoundKey key → SpellsAnyKey key (any_key_text key)
any_key_printed (any_key.Point point) is = (refl, is)
any_key_printed (any_key.Text text) is = subst (λ (l : List ℕ). IsQuoted text l []) (append-nil (quoted text)) (quoted_printed text [] is)
any_key_printed (any_key.PointValue point value) is = (refl, is.0, is.1)
any_key_printed (any_key.TextValue text value) is = (quoted_printed text (value_text value) is.0, is.1)
any_key_printed (any_key.Range range) is = (refl, is)

pub key_printed : (keys : KeyForm) (key : Option AnyKey) → IsKeyOrNull keys key → SpellsKeyOrNull keys key (any_key_or_null_text key)
key_printed keys None is = refl
key_printed keys (Some key) is = (is.0, any_key_printed key is.1)

any_cond_printed : (c : AnyCond) (left : List ℕ) → IsSoundCond c → SpellsAnyCond c (any_cond_text c ++ left) left
any_cond_printed (any_cond.Point c) left is = (refl, is)
any_cond_printed (any_cond.Text c) left is = (quoted (named c) ++ left, append_assoc (word_of c) (32 ∷ quoted (named c)) left, quoted_printed (named c) left is)
any_cond_printed (any_cond.Range c) left is = (refl, is)

pub cond_printed : (keys : KeyForm) (c : AnyCond) (left : List ℕ) → IsAnyCond keys c → SpellsCond keys c (any_cond_text c ++ left) left
cond_printed keys c left is = (is.0, any_cond_printed c left is.1)

conds_printed : (keys : KeyForm) (word : List ℕ) (conds : List AnyCond) → AllByRecursion (IsAnyCond keys) conds → SpellsConds keys word conds (conds_text any_cond_text word conds)
conds_printed keys word [] is = refl
conds_printed keys word (c ∷ conds) is =
    (any_cond_text c ++ conds_text any_cond_text (codes " and ") conds, conds_text any_cond_text (codes " and ") conds, append_assoc word (any_cond_text c) (conds_text any_cond_text (codes " and ") conds), cond_printed keys c (conds_text any_cond_text (codes " and ") conds) is.0, conds_printed keys (codes " and ") conds is.1)

pub query_printed : (keys : KeyForm) (query : AnyQuery) → IsQuery keys query → SpellsQuery keys query (any_query_text query)
query_printed keys All is = refl
query_printed keys Null is = refl
query_printed keys (Where conds) is = (conds_printed keys (codes "where ") conds is.0, is.1, is.2)

-- ---- no line ends within

no_lf_flat : {A : Type 0} (f : A → List ℕ) (xs : List A) → ((x : A) → HasNo 10 (f x)) → HasNo 10 (flat_map f xs)
no_lf_flat f [] each = refl
no_lf_flat f (x ∷ xs) each = HasNo-append 10 (f x) (flat_map f xs) (each x) (no_lf_flat f xs each)

plain_no_lf : (b : ℕ) → is_plain b ≡ true → (b == 10) ≡ false
plain_no_lf b plain = elim (eqb_tells b 10) [
  | inl same ↦ let clash : false ≡ true = rw same.1 at plain in (cc)
  | inr other ↦ other.0
]

hex_no_lf : (n : ℕ) → (hex_digit n == 10) ≡ false
hex_no_lf n = go (nat_lt n 10)
  where
    go : (t : Bool) → (cond t (48 + n) (87 + n) == 10) ≡ false
    go true = byte_other 10 (48 + n) (omega arith)
    go false = byte_other 10 (87 + n) (omega arith)

two_no_lf : (high low : ℕ) → (high == 10) ≡ false → (low == 10) ≡ false → HasNo 10 (92 ∷ 120 ∷ high ∷ low ∷ [])
two_no_lf high low h l = HasNo-cons 10 92 (120 ∷ high ∷ low ∷ []) refl (HasNo-cons 10 120 (high ∷ low ∷ []) refl (HasNo-cons 10 high (low ∷ []) h (HasNo-cons 10 low [] l refl)))

byte_no_lf : (b : ℕ) → HasNo 10 (byte_text b)
byte_no_lf b = go (is_plain b) refl
  where
    go : (t : Bool) → is_plain b ≡ t → HasNo 10 (cond t (b ∷ []) (92 ∷ 120 ∷ hex_digit (b / 16) ∷ hex_digit (b % 16) ∷ []))
    go true e = HasNo-cons 10 b [] (plain_no_lf b e) refl
    go false e = two_no_lf (hex_digit (b / 16)) (hex_digit (b % 16)) (hex_no_lf (b / 16)) (hex_no_lf (b % 16))

quoted_no_lf : (text : List ℕ) → HasNo 10 (quoted text)
quoted_no_lf text = HasNo-cons 10 34 (flat_map byte_text text ++ 34 ∷ []) refl (HasNo-append 10 (flat_map byte_text text) (34 ∷ []) (no_lf_flat byte_text text byte_no_lf) refl)

signed_no_lf : (z : ℤ) → FitsSigned w32 z → HasNo 10 (signed_decimal z)
signed_no_lf z fits = HasNo-signed 10 z (omega arith) fits

comma_no_lf : (z : ℤ) (more : List ℕ) → FitsSigned w32 z → HasNo 10 more → HasNo 10 (signed_decimal z ++ 44 ∷ more)
comma_no_lf z more fits rest = HasNo-append 10 (signed_decimal z) (44 ∷ more) (signed_no_lf z fits) (HasNo-cons 10 44 more refl rest)

value_no_lf : (value : ℕ) → value < 2 ^ 64 → HasNo 10 (value_text value)
value_no_lf value small = HasNo-append 10 (codes " value ") (decimal value) refl (HasNo-decimal 10 value (omega arith) small)

range_no_lf : (range : Option Point) → IsRange range → HasNo 10 (range_text range)
range_no_lf None is = refl
range_no_lf (Some ends) is = HasNo-cons 10 91 (point_text ends ++ 93 ∷ []) refl (HasNo-append 10 (point_text ends) (93 ∷ []) (point_apart 10 ends (omega arith) is.0) refl)

any_key_no_lf : (key : AnyKey) → IsSoundKey key → HasNo 10 (any_key_text key)
any_key_no_lf (any_key.Point p) is = point_apart 10 p (omega arith) is
any_key_no_lf (any_key.Text text) is = quoted_no_lf text
any_key_no_lf (any_key.PointValue p value) is = HasNo-append 10 (point_text p) (value_text value) (point_apart 10 p (omega arith) is.0) (value_no_lf value is.1)
any_key_no_lf (any_key.TextValue text value) is = HasNo-append 10 (quoted text) (value_text value) (quoted_no_lf text) (value_no_lf value is.1)
any_key_no_lf (any_key.Range range) is = range_no_lf range is

pub key_no_lf : (keys : KeyForm) (key : Option AnyKey) → IsKeyOrNull keys key → HasNo 10 (any_key_or_null_text key)
key_no_lf keys None is = refl
key_no_lf keys (Some key) is = any_key_no_lf key is.1

word_no_lf : (c : TextCond) → HasNo 10 (word_of c)
word_no_lf (text_cond.Eq t) = refl
word_no_lf (text_cond.Lt t) = refl
word_no_lf (text_cond.Le t) = refl
word_no_lf (text_cond.Gt t) = refl
word_no_lf (text_cond.Ge t) = refl
word_no_lf (text_cond.Starts t) = refl

point_cond_no_lf : (c : PointCond) → IsCond c → HasNo 10 (cond_text c)
point_cond_no_lf (Eq p) is = HasNo-append 10 (codes "eq ") (point_text p) refl (comma_no_lf p.x (signed_decimal p.y) is.x (signed_no_lf p.y is.y))
point_cond_no_lf (Left x) is = HasNo-append 10 (codes "left ") (signed_decimal x) refl (signed_no_lf x is)
point_cond_no_lf (Right x) is = HasNo-append 10 (codes "right ") (signed_decimal x) refl (signed_no_lf x is)
point_cond_no_lf (Below y) is = HasNo-append 10 (codes "below ") (signed_decimal y) refl (signed_no_lf y is)
point_cond_no_lf (Above y) is = HasNo-append 10 (codes "above ") (signed_decimal y) refl (signed_no_lf y is)
point_cond_no_lf (Inside x1 y1 x2 y2) is = HasNo-append 10 (codes "in ") _ refl (comma_no_lf x1 _ is.0.x (comma_no_lf y1 _ is.0.y (comma_no_lf x2 _ is.1.x (signed_no_lf y2 is.1.y))))

range_word_no_lf : (c : RangeCond) → HasNo 10 (range_word c)
range_word_no_lf (range_cond.Eq r) = refl
range_word_no_lf (range_cond.Overlap r) = refl
range_word_no_lf (range_cond.Contains r) = refl
range_word_no_lf (range_cond.Within r) = refl
range_word_no_lf (range_cond.Left r) = refl
range_word_no_lf (range_cond.Right r) = refl

any_cond_no_lf : (c : AnyCond) → IsSoundCond c → HasNo 10 (any_cond_text c)
any_cond_no_lf (any_cond.Point c) is = point_cond_no_lf c is
any_cond_no_lf (any_cond.Text c) is = HasNo-append 10 (word_of c) (32 ∷ quoted (named c)) (word_no_lf c) (HasNo-cons 10 32 (quoted (named c)) refl (quoted_no_lf (named c)))
any_cond_no_lf (any_cond.Range c) is = HasNo-append 10 (range_word c) (32 ∷ range_text (range_named c)) (range_word_no_lf c) (HasNo-cons 10 32 (range_text (range_named c)) refl (range_no_lf (range_named c) is))

pub cond_no_lf : (keys : KeyForm) (c : AnyCond) → IsAnyCond keys c → HasNo 10 (any_cond_text c)
cond_no_lf keys c is = any_cond_no_lf c is.1

conds_no_lf : (keys : KeyForm) (word : List ℕ) (conds : List AnyCond) → HasNo 10 word → AllByRecursion (IsAnyCond keys) conds → HasNo 10 (conds_text any_cond_text word conds)
conds_no_lf keys word [] before is = refl
conds_no_lf keys word (c ∷ conds) before is =
    HasNo-append 10 (word ++ any_cond_text c) (conds_text any_cond_text (codes " and ") conds) (HasNo-append 10 word (any_cond_text c) before (cond_no_lf keys c is.0)) (conds_no_lf keys (codes " and ") conds refl is.1)

pub query_no_lf : (keys : KeyForm) (query : AnyQuery) → IsQuery keys query → HasNo 10 (any_query_text query)
query_no_lf keys All is = refl
query_no_lf keys Null is = refl
query_no_lf keys (Where conds) is = conds_no_lf keys (codes "where ") conds refl is.0

-- ---- a class's keys are the printed ones

module _ {Key Cond : Type 0} (speech : Speech Key Cond) (law : SpeaksAsPrinted speech) where
  pub key_text_is : (key : Option AnyKey) (k : Option Key) → key_or_null_in speech key ≡ Some k → key_or_null_text speech k ≡ any_key_or_null_text key
  key_text_is None k is = ap (key_or_null_text speech) (sym (same_Some None k is))
  key_text_is (Some key) k is = go (speech.key_in key) refl is
    where
      go : (found : Option Key) → speech.key_in key ≡ found → option_map (λ (x : Key). Some x) found ≡ Some k → key_or_null_text speech k ≡ any_key_text key
      go None e h = (cc)
      go (Some x) e h = ap (key_or_null_text speech) (sym (same_Some (Some x) k h)) ∙ law.key key x e

  conds_text_are : (word : List ℕ) (conds : List AnyCond) (found : List Cond) → conds_in speech conds ≡ Some found → conds_text speech.cond_text word found ≡ conds_text any_cond_text word conds
  conds_text_are word [] found is = ap (conds_text speech.cond_text word) (sym (same_Some [] found is))
  conds_text_are word (c ∷ conds) found is = go (λ later f. conds_text_are (codes " and ") conds later f) (speech.cond_in c) refl (conds_in speech conds) refl is
    where
      go : ((later : List Cond) → conds_in speech conds ≡ Some later → conds_text speech.cond_text (codes " and ") later ≡ conds_text any_cond_text (codes " and ") conds) → (one : Option Cond) → speech.cond_in c ≡ one → (more : Option (List Cond)) → conds_in speech conds ≡ more
          → option_and_then (λ d. option_map (λ later. d ∷ later) more) one ≡ Some found → conds_text speech.cond_text word found ≡ conds_text any_cond_text word (c ∷ conds)
      go rest None e more f h = (cc)
      go rest (Some d) e None f h = (cc)
      go rest (Some d) e (Some later) f h =
          ap (conds_text speech.cond_text word) (sym (same_Some (d ∷ later) found h)) ∙ ap (λ l. (word ++ l) ++ conds_text speech.cond_text (codes " and ") later) (law.cond c d e) ∙ ap (λ l. (word ++ any_cond_text c) ++ l) (rest later f)

  abbrev where_of : {O Recon : Type 0} → List Cond → Query O Key Recon Cond
  where_of found = asks.Where found

  pub query_text_is : {O Recon : Type 0} (query : AnyQuery) (asked : Query O Key Recon Cond) → query_in speech query ≡ Some asked → query_text speech asked ≡ any_query_text query
  query_text_is All asked is = ap (query_text speech) (sym (same_Some _ asked is))
  query_text_is Null asked is = ap (query_text speech) (sym (same_Some _ asked is))
  query_text_is {O = O} {Recon = Recon} (Where conds) asked is = go (conds_in speech conds) refl is
    where
      go : (found : Option (List Cond)) → conds_in speech conds ≡ found → option_map (λ (l : List Cond). where_of {O = O} {Recon = Recon} l) found ≡ Some asked → query_text speech asked ≡ any_query_text (Where conds)
      go None e h = (cc)
      go (Some found) e h = ap (query_text speech) (sym (same_Some (where_of {O = O} {Recon = Recon} found) asked h)) ∙ conds_text_are (codes "where ") conds found e
