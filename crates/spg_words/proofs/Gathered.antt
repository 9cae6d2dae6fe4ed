-- What pieces make of what is held: each word and each option goes to its place.
use Rattle.std.proofs.Common.{◌≡◌, inl, inr, ◌≤◌, ℕ, List, [], ◌∷◌, ◌++◌, length, Option, Some, None, refl, sym, ap, ◌∙◌, subst, arith, append-nil}
use Rattle.std.specs.Prelude.{codes, ⊤}
use Rattle.std.proofs.lemmas.List.{append_assoc}
use Rattle.std.proofs.lemmas.Option.{same_Some}
use Rattle.spg_words.specs.declared.option_name.OptionName.TheVariants.{Limit, Lanes, Class, From, Workers}
use Rattle.spg_words.specs.Parts.{Given, plain_of, options_of, value_of, AreOf}
use Rattle.spg_words.specs.Reading.{◌>>=◌, Held, with_plain, once, with_option, nothing}
use Rattle.spg_words.proofs.Pieces.{all, bind_some, Piece, alone, tied, loose, parts_of, gather}

-- a value that was there, or came
abbrev pub Joins : Option (List ℕ) → Option (List ℕ) → Option (List ℕ) → Type 0
Joins None came now = now ≡ came
Joins (Some value) came now = (came ≡ None) × (now ≡ Some value)

joins_none : (was now : Option (List ℕ)) → was ≡ now → Joins was None now
joins_none None now is = sym is
joins_none (Some value) now is = (refl, sym is)

-- the words that are no option
abbrev pub listed : Option (List ℕ) → Option (List ℕ) → List (List ℕ)
listed None second = []
listed (Some first) None = first ∷ []
listed (Some first) (Some second) = first ∷ second ∷ []

pub record Filled (h : Held) (words : List (List ℕ)) (options : List Given) (h2 : Held) : Type 0 where
  pub known : AreOf all options
  pub limit : Joins h.limit (value_of (codes "limit") options) h2.limit
  pub lanes : Joins h.lanes (value_of (codes "lanes") options) h2.lanes
  pub class : Joins h.class (value_of (codes "class") options) h2.class
  pub from : Joins h.from (value_of (codes "from") options) h2.from
  pub workers : Joins h.workers (value_of (codes "workers") options) h2.workers
  pub plain : listed h.first h.second ++ words ≡ listed h2.first h2.second

-- where one more word goes
record IsPut (h : Held) (word : List ℕ) (k : Held) : Type 0 where
  limit : k.limit ≡ h.limit
  lanes : k.lanes ≡ h.lanes
  class : k.class ≡ h.class
  from : k.from ≡ h.from
  workers : k.workers ≡ h.workers
  plain : listed k.first k.second ≡ listed h.first h.second ++ word ∷ []

is_put : (first second limit lanes class from workers : Option (List ℕ)) (word : List ℕ) (k : Held) → with_plain (record { first = first; second = second; limit = limit; lanes = lanes; class = class; from = from; workers = workers }) word ≡ Some k
    → IsPut (record { first = first; second = second; limit = limit; lanes = lanes; class = class; from = from; workers = workers }) word k
is_put None None limit lanes class from workers word k is =
    let same : record { first = Some word; second = None; limit = limit; lanes = lanes; class = class; from = from; workers = workers } ≡ k = same_Some _ k is in
    subst (λ (x : Held). IsPut (record { first = None; second = None; limit = limit; lanes = lanes; class = class; from = from; workers = workers }) word x) same (record { limit = refl; lanes = refl; class = refl; from = refl; workers = refl; plain = refl })
is_put (Some a) None limit lanes class from workers word k is =
    let same : record { first = Some a; second = Some word; limit = limit; lanes = lanes; class = class; from = from; workers = workers } ≡ k = same_Some _ k is in
    subst (λ (x : Held). IsPut (record { first = Some a; second = None; limit = limit; lanes = lanes; class = class; from = from; workers = workers }) word x) same (record { limit = refl; lanes = refl; class = refl; from = refl; workers = refl; plain = refl })
is_put None (Some b) limit lanes class from workers word k is = (cc)
is_put (Some a) (Some b) limit lanes class from workers word k is = (cc)

-- an option that came was not there
once_bind : (o : Option (List ℕ)) (x : Held) (f : Held → Option Held) (y : Held) → (once o x >>= f) ≡ Some y → (o ≡ None) × (f x ≡ Some y)
once_bind None x f y is = (refl, is)
once_bind (Some value) x f y is = (cc)

module _ (h h2 : Held) (value : List ℕ) (pieces : List Piece) (later : (k : Held) → gather k pieces ≡ Some h2 → Filled k (plain_of (parts_of pieces)) (options_of (parts_of pieces)) h2) where
  filled_limit : (with_option h Limit value >>= λ k. gather k pieces) ≡ Some h2 → Filled h (plain_of (parts_of pieces)) (record { name = codes "limit"; value = value } ∷ options_of (parts_of pieces)) h2
  filled_limit is =
      let made = once_bind h.limit (record h { limit = Some value }) (λ k. gather k pieces) h2 is in
      let rest = later (record h { limit = Some value }) made.1 in
      record {
        known = (inl refl, rest.limit.0, rest.known);
        limit = subst (λ (o : Option (List ℕ)). Joins o (Some value) h2.limit) (sym made.0) rest.limit.1;
        lanes = rest.lanes;
        class = rest.class;
        from = rest.from;
        workers = rest.workers;
        plain = rest.plain;
      }

  filled_lanes : (with_option h Lanes value >>= λ k. gather k pieces) ≡ Some h2 → Filled h (plain_of (parts_of pieces)) (record { name = codes "lanes"; value = value } ∷ options_of (parts_of pieces)) h2
  filled_lanes is =
      let made = once_bind h.lanes (record h { lanes = Some value }) (λ k. gather k pieces) h2 is in
      let rest = later (record h { lanes = Some value }) made.1 in
      record {
        known = (inr (inl refl), rest.lanes.0, rest.known);
        limit = rest.limit;
        lanes = subst (λ (o : Option (List ℕ)). Joins o (Some value) h2.lanes) (sym made.0) rest.lanes.1;
        class = rest.class;
        from = rest.from;
        workers = rest.workers;
        plain = rest.plain;
      }

  filled_class : (with_option h Class value >>= λ k. gather k pieces) ≡ Some h2 → Filled h (plain_of (parts_of pieces)) (record { name = codes "class"; value = value } ∷ options_of (parts_of pieces)) h2
  filled_class is =
      let made = once_bind h.class (record h { class = Some value }) (λ k. gather k pieces) h2 is in
      let rest = later (record h { class = Some value }) made.1 in
      record {
        known = (inr (inr (inl refl)), rest.class.0, rest.known);
        limit = rest.limit;
        lanes = rest.lanes;
        class = subst (λ (o : Option (List ℕ)). Joins o (Some value) h2.class) (sym made.0) rest.class.1;
        from = rest.from;
        workers = rest.workers;
        plain = rest.plain;
      }

  filled_from : (with_option h From value >>= λ k. gather k pieces) ≡ Some h2 → Filled h (plain_of (parts_of pieces)) (record { name = codes "from"; value = value } ∷ options_of (parts_of pieces)) h2
  filled_from is =
      let made = once_bind h.from (record h { from = Some value }) (λ k. gather k pieces) h2 is in
      let rest = later (record h { from = Some value }) made.1 in
      record {
        known = (inr (inr (inr (inl refl))), rest.from.0, rest.known);
        limit = rest.limit;
        lanes = rest.lanes;
        class = rest.class;
        from = subst (λ (o : Option (List ℕ)). Joins o (Some value) h2.from) (sym made.0) rest.from.1;
        workers = rest.workers;
        plain = rest.plain;
      }

  filled_workers : (with_option h Workers value >>= λ k. gather k pieces) ≡ Some h2 → Filled h (plain_of (parts_of pieces)) (record { name = codes "workers"; value = value } ∷ options_of (parts_of pieces)) h2
  filled_workers is =
      let made = once_bind h.workers (record h { workers = Some value }) (λ k. gather k pieces) h2 is in
      let rest = later (record h { workers = Some value }) made.1 in
      record {
        known = (inr (inr (inr (inr (inl refl)))), rest.workers.0, rest.known);
        limit = rest.limit;
        lanes = rest.lanes;
        class = rest.class;
        from = rest.from;
        workers = subst (λ (o : Option (List ℕ)). Joins o (Some value) h2.workers) (sym made.0) rest.workers.1;
        plain = rest.plain;
      }

  filled_plain : (with_plain h value >>= λ k. gather k pieces) ≡ Some h2 → Filled h (value ∷ plain_of (parts_of pieces)) (options_of (parts_of pieces)) h2
  filled_plain is =
      let made = bind_some (λ (k : Held). gather k pieces) (with_plain h value) h2 is in
      let put = is_put h.first h.second h.limit h.lanes h.class h.from h.workers value made.0 made.1 in
      let rest = later made.0 made.2 in
      record {
        known = rest.known;
        limit = subst (λ (o : Option (List ℕ)). Joins o (value_of (codes "limit") (options_of (parts_of pieces))) h2.limit) put.limit rest.limit;
        lanes = subst (λ (o : Option (List ℕ)). Joins o (value_of (codes "lanes") (options_of (parts_of pieces))) h2.lanes) put.lanes rest.lanes;
        class = subst (λ (o : Option (List ℕ)). Joins o (value_of (codes "class") (options_of (parts_of pieces))) h2.class) put.class rest.class;
        from = subst (λ (o : Option (List ℕ)). Joins o (value_of (codes "from") (options_of (parts_of pieces))) h2.from) put.from rest.from;
        workers = subst (λ (o : Option (List ℕ)). Joins o (value_of (codes "workers") (options_of (parts_of pieces))) h2.workers) put.workers rest.workers;
        plain = sym (append_assoc (listed h.first h.second) (value ∷ []) (plain_of (parts_of pieces))) ∙ ap (λ (l : List (List ℕ)). l ++ plain_of (parts_of pieces)) (sym put.plain) ∙ rest.plain;
      }

pub filled : (pieces : List Piece) (h h2 : Held) → gather h pieces ≡ Some h2 → Filled h (plain_of (parts_of pieces)) (options_of (parts_of pieces)) h2
filled [] h h2 is =
    let same : h ≡ h2 = same_Some h h2 is in
    record {
      known = tt;
      limit = joins_none h.limit h2.limit (ap (λ (x : Held). x.limit) same);
      lanes = joins_none h.lanes h2.lanes (ap (λ (x : Held). x.lanes) same);
      class = joins_none h.class h2.class (ap (λ (x : Held). x.class) same);
      from = joins_none h.from h2.from (ap (λ (x : Held). x.from) same);
      workers = joins_none h.workers h2.workers (ap (λ (x : Held). x.workers) same);
      plain = append-nil (listed h.first h.second) ∙ ap (λ (x : Held). listed x.first x.second) same;
    }
filled (alone word ∷ pieces) h h2 is = filled_plain h h2 word pieces (λ k. filled pieces k h2) is
filled (tied Limit value ∷ pieces) h h2 is = filled_limit h h2 value pieces (λ k. filled pieces k h2) is
filled (tied Lanes value ∷ pieces) h h2 is = filled_lanes h h2 value pieces (λ k. filled pieces k h2) is
filled (tied Class value ∷ pieces) h h2 is = filled_class h h2 value pieces (λ k. filled pieces k h2) is
filled (tied From value ∷ pieces) h h2 is = filled_from h h2 value pieces (λ k. filled pieces k h2) is
filled (tied Workers value ∷ pieces) h h2 is = filled_workers h h2 value pieces (λ k. filled pieces k h2) is
filled (loose Limit value ∷ pieces) h h2 is = filled_limit h h2 value pieces (λ k. filled pieces k h2) is
filled (loose Lanes value ∷ pieces) h h2 is = filled_lanes h h2 value pieces (λ k. filled pieces k h2) is
filled (loose Class value ∷ pieces) h h2 is = filled_class h h2 value pieces (λ k. filled pieces k h2) is
filled (loose From value ∷ pieces) h h2 is = filled_from h h2 value pieces (λ k. filled pieces k h2) is
filled (loose Workers value ∷ pieces) h h2 is = filled_workers h h2 value pieces (λ k. filled pieces k h2) is

-- ---- pieces that find room

abbrev CanSet : Option (List ℕ) → Option (List ℕ) → Type 0
CanSet None came = ⊤
CanSet (Some value) came = came ≡ None

is_unset : (o : Option (List ℕ)) (value : List ℕ) → CanSet o (Some value) → o ≡ None
is_unset None value can = refl
is_unset (Some other) value can = (cc)

abbrev CanHold : Option (List ℕ) → Option (List ℕ) → List (List ℕ) → Type 0
CanHold None None words = length words ≤ 2
CanHold (Some a) None words = length words ≤ 1
CanHold first (Some b) words = words ≡ []

no_words : (words : List (List ℕ)) → length words ≤ 0 → words ≡ []
no_words [] few = refl
no_words (w ∷ words) few = absurd (omega (arith, few))

record Fits (h : Held) (words : List (List ℕ)) (options : List Given) : Type 0 where
  known : AreOf all options
  limit : CanSet h.limit (value_of (codes "limit") options)
  lanes : CanSet h.lanes (value_of (codes "lanes") options)
  class : CanSet h.class (value_of (codes "class") options)
  from : CanSet h.from (value_of (codes "from") options)
  workers : CanSet h.workers (value_of (codes "workers") options)
  plain : CanHold h.first h.second words

gather_plain : (first second limit lanes class from workers : Option (List ℕ)) (word : List ℕ) (words : List (List ℕ)) (options : List Given) → Fits (record { first = first; second = second; limit = limit; lanes = lanes; class = class; from = from; workers = workers }) (word ∷ words) options
    → (k : Held) × (with_plain (record { first = first; second = second; limit = limit; lanes = lanes; class = class; from = from; workers = workers }) word ≡ Some k) × Fits k words options
gather_plain None None limit lanes class from workers word words options fits =
    let few : length words ≤ 1 = omega (arith, fits.plain) in
    (_, refl, record { known = fits.known; limit = fits.limit; lanes = fits.lanes; class = fits.class; from = fits.from; workers = fits.workers; plain = few })
gather_plain (Some a) None limit lanes class from workers word words options fits =
    let few : length words ≤ 0 = omega (arith, fits.plain) in
    (_, refl, record { known = fits.known; limit = fits.limit; lanes = fits.lanes; class = fits.class; from = fits.from; workers = fits.workers; plain = no_words words few })
gather_plain None (Some b) limit lanes class from workers word words options fits = let clash : word ∷ words ≡ [] = fits.plain in absurd (cc)
gather_plain (Some a) (Some b) limit lanes class from workers word words options fits = let clash : word ∷ words ≡ [] = fits.plain in absurd (cc)

module _ (h : Held) (value : List ℕ) (pieces : List Piece) (later : (k : Held) → Fits k (plain_of (parts_of pieces)) (options_of (parts_of pieces)) → (h2 : Held) × (gather k pieces ≡ Some h2)) where
  gathers_limit : Fits h (plain_of (parts_of pieces)) (record { name = codes "limit"; value = value } ∷ options_of (parts_of pieces)) → (h2 : Held) × ((with_option h Limit value >>= λ k. gather k pieces) ≡ Some h2)
  gathers_limit fits =
      let rest = later (record h { limit = Some value }) (record { known = fits.known.2; limit = fits.known.1; lanes = fits.lanes; class = fits.class; from = fits.from; workers = fits.workers; plain = fits.plain }) in
      (rest.0, ap (λ (o : Option (List ℕ)). once o (record h { limit = Some value }) >>= λ k. gather k pieces) (is_unset h.limit value fits.limit) ∙ rest.1)

  gathers_lanes : Fits h (plain_of (parts_of pieces)) (record { name = codes "lanes"; value = value } ∷ options_of (parts_of pieces)) → (h2 : Held) × ((with_option h Lanes value >>= λ k. gather k pieces) ≡ Some h2)
  gathers_lanes fits =
      let rest = later (record h { lanes = Some value }) (record { known = fits.known.2; limit = fits.limit; lanes = fits.known.1; class = fits.class; from = fits.from; workers = fits.workers; plain = fits.plain }) in
      (rest.0, ap (λ (o : Option (List ℕ)). once o (record h { lanes = Some value }) >>= λ k. gather k pieces) (is_unset h.lanes value fits.lanes) ∙ rest.1)

  gathers_class : Fits h (plain_of (parts_of pieces)) (record { name = codes "class"; value = value } ∷ options_of (parts_of pieces)) → (h2 : Held) × ((with_option h Class value >>= λ k. gather k pieces) ≡ Some h2)
  gathers_class fits =
      let rest = later (record h { class = Some value }) (record { known = fits.known.2; limit = fits.limit; lanes = fits.lanes; class = fits.known.1; from = fits.from; workers = fits.workers; plain = fits.plain }) in
      (rest.0, ap (λ (o : Option (List ℕ)). once o (record h { class = Some value }) >>= λ k. gather k pieces) (is_unset h.class value fits.class) ∙ rest.1)

  gathers_from : Fits h (plain_of (parts_of pieces)) (record { name = codes "from"; value = value } ∷ options_of (parts_of pieces)) → (h2 : Held) × ((with_option h From value >>= λ k. gather k pieces) ≡ Some h2)
  gathers_from fits =
      let rest = later (record h { from = Some value }) (record { known = fits.known.2; limit = fits.limit; lanes = fits.lanes; class = fits.class; from = fits.known.1; workers = fits.workers; plain = fits.plain }) in
      (rest.0, ap (λ (o : Option (List ℕ)). once o (record h { from = Some value }) >>= λ k. gather k pieces) (is_unset h.from value fits.from) ∙ rest.1)

  gathers_workers : Fits h (plain_of (parts_of pieces)) (record { name = codes "workers"; value = value } ∷ options_of (parts_of pieces)) → (h2 : Held) × ((with_option h Workers value >>= λ k. gather k pieces) ≡ Some h2)
  gathers_workers fits =
      let rest = later (record h { workers = Some value }) (record { known = fits.known.2; limit = fits.limit; lanes = fits.lanes; class = fits.class; from = fits.from; workers = fits.known.1; plain = fits.plain }) in
      (rest.0, ap (λ (o : Option (List ℕ)). once o (record h { workers = Some value }) >>= λ k. gather k pieces) (is_unset h.workers value fits.workers) ∙ rest.1)

gathers : (pieces : List Piece) (h : Held) → Fits h (plain_of (parts_of pieces)) (options_of (parts_of pieces)) → (h2 : Held) × (gather h pieces ≡ Some h2)
gathers [] h fits = (h, refl)
gathers (alone word ∷ pieces) h fits =
    let put = gather_plain h.first h.second h.limit h.lanes h.class h.from h.workers word (plain_of (parts_of pieces)) (options_of (parts_of pieces)) fits in
    let rest = gathers pieces put.0 put.2 in
    (rest.0, ap (λ (o : Option Held). o >>= λ k. gather k pieces) put.1 ∙ rest.1)
gathers (tied Limit value ∷ pieces) h fits = gathers_limit h value pieces (λ k. gathers pieces k) fits
gathers (tied Lanes value ∷ pieces) h fits = gathers_lanes h value pieces (λ k. gathers pieces k) fits
gathers (tied Class value ∷ pieces) h fits = gathers_class h value pieces (λ k. gathers pieces k) fits
gathers (tied From value ∷ pieces) h fits = gathers_from h value pieces (λ k. gathers pieces k) fits
gathers (tied Workers value ∷ pieces) h fits = gathers_workers h value pieces (λ k. gathers pieces k) fits
gathers (loose Limit value ∷ pieces) h fits = gathers_limit h value pieces (λ k. gathers pieces k) fits
gathers (loose Lanes value ∷ pieces) h fits = gathers_lanes h value pieces (λ k. gathers pieces k) fits
gathers (loose Class value ∷ pieces) h fits = gathers_class h value pieces (λ k. gathers pieces k) fits
gathers (loose From value ∷ pieces) h fits = gathers_from h value pieces (λ k. gathers pieces k) fits
gathers (loose Workers value ∷ pieces) h fits = gathers_workers h value pieces (λ k. gathers pieces k) fits

pub from_nothing : (pieces : List Piece) → AreOf all (options_of (parts_of pieces)) → length (plain_of (parts_of pieces)) ≤ 2 → (h : Held) × (gather nothing pieces ≡ Some h)
from_nothing pieces known few = gathers pieces nothing (record { known = known; limit = tt; lanes = tt; class = tt; from = tt; workers = tt; plain = few })
