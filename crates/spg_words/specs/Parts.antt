-- How the words of a command line are put together behind the first.
use Rattle.std.specs.Prelude.{◌≡◌, ◌≢◌, ◌⊎◌, ◌++◌, ℕ, if◌then◌else◌, bytes_eq, List, [], ◌∷◌, codes, Option, Some, None, ⊤}
use Rattle.std.specs.List.{AllByRecursion}

-- a part of a command line: a word that is no option, or an option with its value, which stands behind `=` or is the next word
pub data Part : Type 0 where
  plain : List ℕ → Part
  joined : List ℕ → List ℕ → Part
  apart : List ℕ → List ℕ → Part

-- the words that parts are spelled by
abbrev pub words_of : List Part → List (List ℕ)
words_of [] = []
words_of (plain word ∷ parts) = word ∷ words_of parts
words_of (joined name value ∷ parts) = (codes "--" ++ name ++ codes "=" ++ value) ∷ words_of parts
words_of (apart name value ∷ parts) = (codes "--" ++ name) ∷ value ∷ words_of parts

-- a word does not begin with `-`
abbrev pub IsPlain : List ℕ → Type 0
IsPlain [] = ⊤
IsPlain (b ∷ word) = b ≢ 45

-- neither a word that is no option nor a value begins with `-`
abbrev pub IsPart : Part → Type 0
IsPart (plain word) = IsPlain word
IsPart (joined name value) = IsPlain value
IsPart (apart name value) = IsPlain value

-- the words that are no option, in their order
abbrev pub plain_of : List Part → List (List ℕ)
plain_of [] = []
plain_of (plain word ∷ parts) = word ∷ plain_of parts
plain_of (joined name value ∷ parts) = plain_of parts
plain_of (apart name value ∷ parts) = plain_of parts

-- an option, by its name, and its value
pub record Given : Type 0 where
  pub name : List ℕ
  pub value : List ℕ

-- the options, in their order
abbrev pub options_of : List Part → List Given
options_of [] = []
options_of (plain word ∷ parts) = options_of parts
options_of (joined name value ∷ parts) = record { name = name; value = value } ∷ options_of parts
options_of (apart name value ∷ parts) = record { name = name; value = value } ∷ options_of parts

-- the value of the first option of this name
abbrev pub value_of : List ℕ → List Given → Option (List ℕ)
value_of name [] = None
value_of name (g ∷ options) = if bytes_eq g.name name then Some g.value else value_of name options

abbrev pub IsOneOf : List (List ℕ) → List ℕ → Type 0
IsOneOf [] name = ⊥
IsOneOf (n ∷ names) name = (name ≡ n) ⊎ IsOneOf names name

-- options of these names, each at most once
abbrev pub AreOf : List (List ℕ) → List Given → Type 0
AreOf names [] = ⊤
AreOf names (g ∷ options) = IsOneOf names g.name × (value_of g.name options ≡ None) × AreOf names options

-- words behind the name of a command: these that are no option, and these options among them, whose names are some of those named and come at most once each
pub record Asks (names words plain : List (List ℕ)) (options : List Given) : Type 0 where
  pub parts : List Part
  pub spelled : words ≡ words_of parts
  pub each : AllByRecursion IsPart parts
  pub plain_are : plain ≡ plain_of parts
  pub options_are : options ≡ options_of parts
  pub known : AreOf names options
