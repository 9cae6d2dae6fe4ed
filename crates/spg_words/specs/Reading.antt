-- What the reader makes of words, one after another. The lemmas show that it is what the words spell, and that nothing that is spelled is missed.
use Rattle.std.specs.Prelude.{ℕ, Bool, true, not, ◌==◌, if◌then◌else◌, nat_eq, bytes_eq, List, [], ◌∷◌, drop, codes, Option, Some, None, option_and_then}
use Rattle.std.specs.Borrow.{Bor}
use Rattle.std.specs.List.{starts_with}
use Rattle.spg_words.specs.declared.option_name.OptionName.{OptionName}
use Rattle.spg_words.specs.declared.option_name.OptionName.TheVariants.{Limit, Lanes, Class, From, Workers}
use Rattle.spg_words.specs.declared.option_name.Setting.{Setting}
use Rattle.spg_words.specs.declared.option_name.Setting.TheVariants.{Awaits, Has}
use Rattle.spg_words.specs.declared.words.Words.{Words}
use Rattle.spg_words.specs.declared.words.Reader.{Reader}

infixl 10 ◌>>=◌
abbrev pub ◌>>=◌ : {A B : Type 0} → Option A → (A → Option B) → Option B
o >>= f = option_and_then f o

-- whether a word does not begin with `-`
abbrev pub is_plain : List ℕ → Bool
is_plain [] = true
is_plain (b ∷ word) = not (b == 45)

-- what words hold: those that are no option, and the value of each option
pub record Held : Type 0 where
  pub first : Option (List ℕ)
  pub second : Option (List ℕ)
  pub limit : Option (List ℕ)
  pub lanes : Option (List ℕ)
  pub class : Option (List ℕ)
  pub from : Option (List ℕ)
  pub workers : Option (List ℕ)

abbrev pub word_in : Option (Bor (List ℕ)) → Option (List ℕ)
word_in None = None
word_in (Some word) = Some word.now

abbrev pub held : Words → Held
held w = record { first = word_in w.first; second = word_in w.second; limit = word_in w.limit; lanes = word_in w.lanes; class = word_in w.class; from = word_in w.from; workers = word_in w.workers }

abbrev pub held_in : Option Words → Option Held
held_in None = None
held_in (Some words) = Some (held words)

abbrev pub nothing : Held
nothing = record { first = None; second = None; limit = None; lanes = None; class = None; from = None; workers = None }

-- the same, and the option whose value is the next word
pub record Taken : Type 0 where
  pub words : Held
  pub awaited : Option OptionName

abbrev pub taken : Reader → Taken
taken r = record { words = held r.words; awaited = r.awaited }

abbrev pub taken_in : Option Reader → Option Taken
taken_in None = None
taken_in (Some reader) = Some (taken reader)

-- ---- the option that a word names

pub data Sought : Type 0 where
  awaits : OptionName → Sought
  has : OptionName → List ℕ → Sought

abbrev pub sought : Setting → Sought
sought (Awaits name) = awaits name
sought (Has name value) = has name value.now

abbrev pub sought_in : Option Setting → Option Sought
sought_in None = None
sought_in (Some setting) = Some (sought setting)

-- what stands behind the name of an option
abbrev pub setting_in : OptionName → List ℕ → Option Sought
setting_in name [] = Some (awaits name)
setting_in name (b ∷ value) = if b == 61 then Some (has name value) else None

abbrev pub option_in : List ℕ → Option Sought
option_in word =
    if starts_with nat_eq word (codes "--limit") then setting_in Limit (drop 7 word)
    else (if starts_with nat_eq word (codes "--lanes") then setting_in Lanes (drop 7 word)
    else (if starts_with nat_eq word (codes "--class") then setting_in Class (drop 7 word)
    else (if starts_with nat_eq word (codes "--from") then setting_in From (drop 6 word)
    else (if starts_with nat_eq word (codes "--workers") then setting_in Workers (drop 9 word) else None))))

-- ---- word by word

-- at most two words are no option
abbrev pub plain_next : Held → Option (List ℕ) → Option (List ℕ) → List ℕ → Option Held
plain_next h None None word = Some (record h { first = Some word })
plain_next h (Some first) None word = Some (record h { second = Some word })
plain_next h first (Some second) word = None

abbrev pub with_plain : Held → List ℕ → Option Held
with_plain h word = plain_next h h.first h.second word

-- an option comes once
abbrev pub once : Option (List ℕ) → Held → Option Held
once None h = Some h
once (Some value) h = None

abbrev pub with_option : Held → OptionName → List ℕ → Option Held
with_option h Limit value = once h.limit (record h { limit = Some value })
with_option h Lanes value = once h.lanes (record h { lanes = Some value })
with_option h Class value = once h.class (record h { class = Some value })
with_option h From value = once h.from (record h { from = Some value })
with_option h Workers value = once h.workers (record h { workers = Some value })

abbrev pub ready : Option Held → Option Taken
ready None = None
ready (Some h) = Some (record { words = h; awaited = None })

abbrev pub with_value : Held → OptionName → List ℕ → Option Taken
with_value h name value = if is_plain value then ready (with_option h name value) else None

abbrev pub with_sought : Held → Option Sought → Option Taken
with_sought h None = None
with_sought h (Some (awaits name)) = Some (record { words = h; awaited = Some name })
with_sought h (Some (has name value)) = with_value h name value

abbrev pub with_word : Held → List ℕ → Option Taken
with_word h word = if is_plain word then ready (with_plain h word) else with_sought h (option_in word)

-- a word is the value of the option before it, where one is awaited
abbrev pub word_next : Held → Option OptionName → List ℕ → Option Taken
word_next h None word = with_word h word
word_next h (Some name) word = with_value h name word

abbrev pub step : Taken → List ℕ → Option Taken
step t word = word_next t.words t.awaited word

-- what all words hold, where no value is missing at their end
abbrev pub whole : Held → Option OptionName → Option Held
whole h None = Some h
whole h (Some name) = None

abbrev pub read_on : Taken → List (List ℕ) → Option Held
read_on t [] = whole t.words t.awaited
read_on t (word ∷ words) = step t word >>= λ next. read_on next words

abbrev pub read : Held → List (List ℕ) → Option Held
read h words = read_on (record { words = h; awaited = None }) words

-- the words behind the name of this command
abbrev pub behind : List ℕ → List (List ℕ) → Option Held
behind name [] = None
behind name (word ∷ words) = if bytes_eq word name then read nothing words else None
