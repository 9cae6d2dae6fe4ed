-- The reader takes words apart exactly: what it makes is what they are put together of.
use Rattle.std.proofs.Common.{◌≡◌, ◌⊎◌, inl, inr, ℕ, Bool, true, false, cond, List, [], ◌∷◌, ◌++◌, length, drop, Option, Some, None, refl, sym, ap, ◌∙◌, append-nil}
use Rattle.std.specs.Prelude.{option_and_then, nat_eq, codes}
use Rattle.std.specs.List.{starts_with, AllByRecursion}
use Rattle.std.proofs.lemmas.Bool.{eqb-true, eq-eqb}
use Rattle.std.proofs.lemmas.Bool.Decides.{eqb_tells}
use Rattle.std.proofs.lemmas.List.{append_assoc}
use Rattle.std.proofs.lemmas.Option.{same_Some}
use Rattle.std.proofs.lemmas.Slice.Eq.{starts_is}
use Rattle.spg_words.specs.declared.option_name.OptionName.{OptionName}
use Rattle.spg_words.specs.declared.option_name.OptionName.TheVariants.{Limit, Lanes, Class, From, Workers}
use Rattle.spg_words.specs.Parts.{Part, plain, joined, apart, words_of, IsPlain, IsPart, options_of, IsOneOf, AreOf}
use Rattle.spg_words.specs.Reading.{◌>>=◌, is_plain, Held, Taken, Sought, awaits, has, setting_in, option_in, with_plain, with_option, ready, with_value, with_sought, read_on, read}

-- ---- options that are none

pub bind_some : {A B : Type 0} (f : A → Option B) (o : Option A) (y : B) → option_and_then f o ≡ Some y → (x : A) × (o ≡ Some x) × (f x ≡ Some y)
bind_some f None y is = (cc)
bind_some f (Some x) y is = (x, refl, is)

ready_some : (o : Option Held) (f : Taken → Option Held) (y : Held) → (ready o >>= f) ≡ Some y → (h : Held) × (o ≡ Some h) × (f (record { words = h; awaited = None }) ≡ Some y)
ready_some None f y is = (cc)
ready_some (Some h) f y is = (h, refl, is)

ready_bind : (o : Option Held) (f : Taken → Option Held) (g : Held → Option Held) → ((h : Held) → f (record { words = h; awaited = None }) ≡ g h) → (ready o >>= f) ≡ (o >>= g)
ready_bind None f g same = refl
ready_bind (Some h) f g same = same h

-- ---- the names of options

abbrev pub text : OptionName → List ℕ
text Limit = codes "limit"
text Lanes = codes "lanes"
text Class = codes "class"
text From = codes "from"
text Workers = codes "workers"

abbrev pub all : List (List ℕ)
all = codes "limit" ∷ codes "lanes" ∷ codes "class" ∷ codes "from" ∷ codes "workers" ∷ []

name_in : (name : List ℕ) → IsOneOf all name → (n : OptionName) × (name ≡ text n)
name_in name (inl is) = (Limit, is)
name_in name (inr (inl is)) = (Lanes, is)
name_in name (inr (inr (inl is))) = (Class, is)
name_in name (inr (inr (inr (inl is)))) = (From, is)
name_in name (inr (inr (inr (inr (inl is))))) = (Workers, is)
name_in name (inr (inr (inr (inr (inr none))))) = absurd none

-- ---- words that are no option

plain_true : (word : List ℕ) → IsPlain word → is_plain word ≡ true
plain_true [] is = refl
plain_true (b ∷ word) is = elim (eqb_tells b 45) [ inl same ↦ absurd (is same.1) | inr other ↦ rw other.0 refl ]

true_plain : (word : List ℕ) → is_plain word ≡ true → IsPlain word
true_plain [] is = tt
true_plain (b ∷ word) is = elim (eqb_tells b 45) [ inl same ↦ let clash : false ≡ true = rw same.0 at is in absurd (cc) | inr other ↦ other.1 ]

-- ---- the option that a word names

abbrev word_for : Sought → List ℕ
word_for (awaits name) = codes "--" ++ text name
word_for (has name value) = codes "--" ++ text name ++ codes "=" ++ value

-- behind the front, which names the option
setting_tells : (name : OptionName) (front rest : List ℕ) (s : Sought) → front ≡ codes "--" ++ text name → setting_in name rest ≡ Some s → front ++ rest ≡ word_for s
setting_tells name front [] s at is = append-nil front ∙ at ∙ ap word_for (same_Some (awaits name) s is)
setting_tells name front (b ∷ value) s at is = elim (eqb_tells b 61) [
  | inl same ↦
      let found : ◌≡◌ {A = Option Sought} (Some (has name value)) (Some s) = rw same.0 at is in
      ap (λ c. front ++ c ∷ value) same.1 ∙ sym (append_assoc front (61 ∷ []) value) ∙ ap (λ l. l ++ codes "=" ++ value) at ∙ ap word_for (same_Some (has name value) s found)
  | inr other ↦ let clash : ◌≡◌ {A = Option Sought} None (Some s) = rw other.0 at is in (cc)
]

front_or : (word front : List ℕ) (x y : Option Sought) (s : Sought) → cond (starts_with nat_eq word front) x y ≡ Some s → ((word ≡ front ++ drop (length front) word) × (x ≡ Some s)) ⊎ (y ≡ Some s)
front_or word front x y s is = go (starts_with nat_eq word front) refl is
  where
    go : (t : Bool) → starts_with nat_eq word front ≡ t → cond t x y ≡ Some s → ((word ≡ front ++ drop (length front) word) × (x ≡ Some s)) ⊎ (y ≡ Some s)
    go true e h = inl ((starts_is (λ a b. (eqb-true a b, eq-eqb a b)) word front (starts_with nat_eq word front) refl).0 e, h)
    go false e h = inr h

spelled-option_in : (word : List ℕ) (s : Sought) → option_in word ≡ Some s → word ≡ word_for s
spelled-option_in word s is = elim (front_or word (codes "--limit") _ _ s is) [
  | inl (at, found) ↦ at ∙ setting_tells Limit (codes "--limit") (drop 7 word) s refl found
  | inr more ↦ elim (front_or word (codes "--lanes") _ _ s more) [
    | inl (at, found) ↦ at ∙ setting_tells Lanes (codes "--lanes") (drop 7 word) s refl found
    | inr rest ↦ elim (front_or word (codes "--class") _ _ s rest) [
      | inl (at, found) ↦ at ∙ setting_tells Class (codes "--class") (drop 7 word) s refl found
      | inr last ↦ elim (front_or word (codes "--from") _ _ s last) [
        | inl (at, found) ↦ at ∙ setting_tells From (codes "--from") (drop 6 word) s refl found
        | inr late ↦ elim (front_or word (codes "--workers") _ _ s late) [
          | inl (at, found) ↦ at ∙ setting_tells Workers (codes "--workers") (drop 9 word) s refl found
          | inr none ↦ (cc)
        ]
      ]
    ]
  ]
]

-- ---- parts whose options are known

pub data Piece : Type 0 where
  alone : List ℕ → Piece
  tied : OptionName → List ℕ → Piece
  loose : OptionName → List ℕ → Piece

abbrev pub parts_of : List Piece → List Part
parts_of [] = []
parts_of (alone word ∷ pieces) = plain word ∷ parts_of pieces
parts_of (tied name value ∷ pieces) = joined (text name) value ∷ parts_of pieces
parts_of (loose name value ∷ pieces) = apart (text name) value ∷ parts_of pieces

pub pieces_of : (parts : List Part) → AreOf all (options_of parts) → (pieces : List Piece) × (parts ≡ parts_of pieces)
pieces_of [] known = ([], refl)
pieces_of (plain word ∷ parts) known =
    let rest = pieces_of parts known in
    (alone word ∷ rest.0, ap (λ (ps : List Part). plain word ∷ ps) rest.1)
pieces_of (joined name value ∷ parts) known =
    let n = name_in name known.0 in
    let rest = pieces_of parts known.2 in
    (tied n.0 value ∷ rest.0, ap (λ (m : List ℕ). joined m value ∷ parts) n.1 ∙ ap (λ (ps : List Part). joined (text n.0) value ∷ ps) rest.1)
pieces_of (apart name value ∷ parts) known =
    let n = name_in name known.0 in
    let rest = pieces_of parts known.2 in
    (loose n.0 value ∷ rest.0, ap (λ (m : List ℕ). apart m value ∷ parts) n.1 ∙ ap (λ (ps : List Part). apart (text n.0) value ∷ ps) rest.1)

-- what is held after pieces
abbrev pub gather : Held → List Piece → Option Held
gather h [] = Some h
gather h (alone word ∷ pieces) = with_plain h word >>= λ k. gather k pieces
gather h (tied name value ∷ pieces) = with_option h name value >>= λ k. gather k pieces
gather h (loose name value ∷ pieces) = with_option h name value >>= λ k. gather k pieces

-- ---- what is put together is read

pub read_pieces : (pieces : List Piece) (h : Held) → AllByRecursion IsPart (parts_of pieces) → read h (words_of (parts_of pieces)) ≡ gather h pieces
read_pieces [] h each = refl
read_pieces (alone word ∷ pieces) h each = rw (plain_true word each.0) (ready_bind (with_plain h word) _ _ (λ k. read_pieces pieces k each.1))
read_pieces (tied Limit value ∷ pieces) h each = rw (plain_true value each.0) (ready_bind (with_option h Limit value) _ _ (λ k. read_pieces pieces k each.1))
read_pieces (tied Lanes value ∷ pieces) h each = rw (plain_true value each.0) (ready_bind (with_option h Lanes value) _ _ (λ k. read_pieces pieces k each.1))
read_pieces (tied Class value ∷ pieces) h each = rw (plain_true value each.0) (ready_bind (with_option h Class value) _ _ (λ k. read_pieces pieces k each.1))
read_pieces (tied From value ∷ pieces) h each = rw (plain_true value each.0) (ready_bind (with_option h From value) _ _ (λ k. read_pieces pieces k each.1))
read_pieces (tied Workers value ∷ pieces) h each = rw (plain_true value each.0) (ready_bind (with_option h Workers value) _ _ (λ k. read_pieces pieces k each.1))
read_pieces (loose Limit value ∷ pieces) h each = rw (plain_true value each.0) (ready_bind (with_option h Limit value) _ _ (λ k. read_pieces pieces k each.1))
read_pieces (loose Lanes value ∷ pieces) h each = rw (plain_true value each.0) (ready_bind (with_option h Lanes value) _ _ (λ k. read_pieces pieces k each.1))
read_pieces (loose Class value ∷ pieces) h each = rw (plain_true value each.0) (ready_bind (with_option h Class value) _ _ (λ k. read_pieces pieces k each.1))
read_pieces (loose From value ∷ pieces) h each = rw (plain_true value each.0) (ready_bind (with_option h From value) _ _ (λ k. read_pieces pieces k each.1))
read_pieces (loose Workers value ∷ pieces) h each = rw (plain_true value each.0) (ready_bind (with_option h Workers value) _ _ (λ k. read_pieces pieces k each.1))

-- ---- what is read is put together so

pub record Parted (h : Held) (words : List (List ℕ)) (h2 : Held) : Type 0 where
  pub pieces : List Piece
  pub spelled : words ≡ words_of (parts_of pieces)
  pub each : AllByRecursion IsPart (parts_of pieces)
  pub gathered : gather h pieces ≡ Some h2

record Valued (h : Held) (name : OptionName) (words : List (List ℕ)) (h2 : Held) : Type 0 where
  value : List ℕ
  rest : List (List ℕ)
  split : words ≡ value ∷ rest
  is_plain : IsPlain value
  made : Held
  made_is : with_option h name value ≡ Some made
  later : Parted made rest h2

record IsRead (words : List (List ℕ)) : Type 0 where
  free : (h h2 : Held) → read h words ≡ Some h2 → Parted h words h2
  waiting : (h h2 : Held) (name : OptionName) → read_on (record { words = h; awaited = Some name }) words ≡ Some h2 → Valued h name words h2

with_value_some : (h : Held) (name : OptionName) (value : List ℕ) (f : Taken → Option Held) (h2 : Held) → (with_value h name value >>= f) ≡ Some h2
    → IsPlain value × ((k : Held) × (with_option h name value ≡ Some k) × (f (record { words = k; awaited = None }) ≡ Some h2))
with_value_some h name value f h2 is = go (is_plain value) refl is
  where
    go : (t : Bool) → is_plain value ≡ t → (cond t (ready (with_option h name value)) None >>= f) ≡ Some h2 → IsPlain value × ((k : Held) × (with_option h name value ≡ Some k) × (f (record { words = k; awaited = None }) ≡ Some h2))
    go true e found = (true_plain value e, ready_some (with_option h name value) f h2 found)
    go false e found = (cc)

module _ (word : List ℕ) (words : List (List ℕ)) (later : IsRead words) where
  by_plain : (h h2 : Held) → is_plain word ≡ true → (ready (with_plain h word) >>= λ t. read_on t words) ≡ Some h2 → Parted h (word ∷ words) h2
  by_plain h h2 e is =
      let made = ready_some (with_plain h word) (λ t. read_on t words) h2 is in
      let rest = later.free made.0 h2 made.2 in
      record {
        pieces = alone word ∷ rest.pieces;
        spelled = ap (λ l. word ∷ l) rest.spelled;
        each = (true_plain word e, rest.each);
        gathered = ap (λ (o : Option Held). o >>= λ k. gather k rest.pieces) made.1 ∙ rest.gathered;
      }

  by_sought : (h h2 : Held) (o : Option Sought) → option_in word ≡ o → (with_sought h o >>= λ t. read_on t words) ≡ Some h2 → Parted h (word ∷ words) h2
  by_sought h h2 None e is = (cc)
  by_sought h h2 (Some (awaits name)) e is =
      let next = later.waiting h h2 name is in
      record {
        pieces = loose name next.value ∷ next.later.pieces;
        spelled = ap (λ w. w ∷ words) (spelled-option_in word (awaits name) e) ∙ ap (λ l. (codes "--" ++ text name) ∷ l) (next.split ∙ ap (λ l. next.value ∷ l) next.later.spelled);
        each = (next.is_plain, next.later.each);
        gathered = ap (λ (o : Option Held). o >>= λ k. gather k next.later.pieces) next.made_is ∙ next.later.gathered;
      }
  by_sought h h2 (Some (has name value)) e is =
      let made = with_value_some h name value (λ t. read_on t words) h2 is in
      let rest = later.free made.1.0 h2 made.1.2 in
      record {
        pieces = tied name value ∷ rest.pieces;
        spelled = ap (λ w. w ∷ words) (spelled-option_in word (has name value) e) ∙ ap (λ l. (codes "--" ++ text name ++ codes "=" ++ value) ∷ l) rest.spelled;
        each = (made.0, rest.each);
        gathered = ap (λ (o : Option Held). o >>= λ k. gather k rest.pieces) made.1.1 ∙ rest.gathered;
      }

  by_word : (h h2 : Held) (t : Bool) → is_plain word ≡ t → (cond t (ready (with_plain h word)) (with_sought h (option_in word)) >>= λ t. read_on t words) ≡ Some h2 → Parted h (word ∷ words) h2
  by_word h h2 true e is = by_plain h h2 e is
  by_word h h2 false e is = by_sought h h2 (option_in word) refl is

  by_value : (h h2 : Held) (name : OptionName) → (with_value h name word >>= λ t. read_on t words) ≡ Some h2 → Valued h name (word ∷ words) h2
  by_value h h2 name is =
      let made = with_value_some h name word (λ t. read_on t words) h2 is in
      record { value = word; rest = words; split = refl; is_plain = made.0; made = made.1.0; made_is = made.1.1; later = later.free made.1.0 h2 made.1.2 }

is_read : (words : List (List ℕ)) → IsRead words
is_read [] = record { free = λ h h2 is. record { pieces = []; spelled = refl; each = tt; gathered = is }; waiting = λ h h2 name is. (cc) }
is_read (word ∷ words) = record {
  free = λ h h2 is. by_word word words (is_read words) h h2 (is_plain word) refl is;
  waiting = λ h h2 name is. by_value word words (is_read words) h h2 name is;
}

pub parted : (words : List (List ℕ)) (h h2 : Held) → read h words ≡ Some h2 → Parted h words h2
parted words h h2 is = (is_read words).free h h2 is
