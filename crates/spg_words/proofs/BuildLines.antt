-- The reader of a line of `build` gives what the words ask for, and misses nothing.
use Rattle.std.proofs.Common.{◌≡◌, ◌⊎◌, inl, inr, ◌<◌, ◌^◌, ◌&&◌, ◌||◌, ℕ, Bool, true, false, cond, leb, List, [], ◌∷◌, Option, Some, None, refl, sym, ap, ◌∙◌, subst, arith}
use Rattle.std.specs.Prelude.{codes, is_some}
use Rattle.std.specs.Fmt.{decimal}
use Rattle.std.proofs.lemmas.Bool.{le-leb, leb-true}
use Rattle.std.proofs.lemmas.Option.{same_Some}
use Rattle.spg_io.specs.Names.{is_name}
use Rattle.spg_script.specs.Reading.{number_of}
use Rattle.spg_script.proofs.Digits.{spelled-number_of, number_of-decimal}
use Rattle.spg_words.specs.Parts.{Given, value_of, IsOneOf, AreOf, Asks}
use Rattle.spg_words.specs.Lines.{IsWorkers, WorkersAre, IsBuildLine}
use Rattle.spg_words.specs.Reading.{◌>>=◌, Held, behind}
use Rattle.spg_words.specs.Asked.{name_of, Build, worker_count, workers_in, with_workers, build_in, build_of}
use Rattle.spg_words.proofs.Pieces.{all, bind_some}
use Rattle.spg_words.proofs.Gathered.{listed}
use Rattle.spg_words.proofs.Asks.{wider, narrower, absent, asked, answered, named_so}
use Rattle.spg_words.proofs.Lines.{behind_tells, behind_named, differ, and_parts, or_parts, is_none_of, name_of_tells, one_listed}

-- ---- the number of workers

count_tells : (word : List ℕ) (n : ℕ) → worker_count word ≡ Some n → IsWorkers n word
count_tells word n is =
    let made = bind_some (λ (m : ℕ). cond (leb 1 m && leb m 16) (Some m) None) (number_of word) n is in
    go made.0 (leb 1 made.0 && leb made.0 16) refl (spelled-number_of word made.0 made.1).0 made.2
  where
    go : (m : ℕ) (t : Bool) → leb 1 m && leb m 16 ≡ t → word ≡ decimal m → cond t (Some m) None ≡ Some n → IsWorkers n word
    go m true e spelled found =
        let tests = and_parts (leb 1 m) (leb m 16) e in
        subst (λ k. IsWorkers k word) (same_Some m n found) (record { least = leb-true 1 m tests.0; most = leb-true m 16 tests.1; spelled = spelled })
    go m false e spelled found = (cc)

count_named : (word : List ℕ) (n : ℕ) → IsWorkers n word → worker_count word ≡ Some n
count_named word n is =
    let small : n < 2 ^ 32 = omega (arith, is.most) in
    ap worker_count is.spelled ∙ rw (number_of-decimal n small, le-leb 1 n is.least, le-leb n 16 is.most) refl

workers_tell : (o : Option (List ℕ)) (n : ℕ) → workers_in o ≡ Some n → WorkersAre n o
workers_tell None n is = sym (same_Some 4 n is)
workers_tell (Some word) n is = count_tells word n is

workers_named : (o : Option (List ℕ)) (n : ℕ) → WorkersAre n o → workers_in o ≡ Some n
workers_named None n is = ap Some (sym is)
workers_named (Some word) n is = count_named word n is

-- ---- the options

abbrev of_build : List (List ℕ)
of_build = codes "workers" ∷ []

build_names : (name : List ℕ) → IsOneOf of_build name → IsOneOf all name
build_names name (inl is) = inr (inr (inr (inr (inl is))))
build_names name (inr none) = absurd none

build_others : (options : List Given) → value_of (codes "limit") options ≡ None → value_of (codes "lanes") options ≡ None → value_of (codes "class") options ≡ None → value_of (codes "from") options ≡ None
    → (name : List ℕ) → IsOneOf all name → IsOneOf of_build name ⊎ (value_of name options ≡ None)
build_others options limit lanes class from name (inl is) = inr (ap (λ n. value_of n options) is ∙ limit)
build_others options limit lanes class from name (inr (inl is)) = inr (ap (λ n. value_of n options) is ∙ lanes)
build_others options limit lanes class from name (inr (inr (inl is))) = inr (ap (λ n. value_of n options) is ∙ class)
build_others options limit lanes class from name (inr (inr (inr (inl is)))) = inr (ap (λ n. value_of n options) is ∙ from)
build_others options limit lanes class from name (inr (inr (inr (inr (inl is))))) = inl (inl is)
build_others options limit lanes class from name (inr (inr (inr (inr (inr none))))) = absurd none

no_other : (name : List ℕ) → ((name ≡ codes "workers") → ⊥) → IsOneOf of_build name → ⊥
no_other name other (inl is) = other is
no_other name other (inr none) = none

-- ---- what is held

abbrev pub asked_for : List ℕ → ℕ → Build
asked_for name n = record { name = name; workers = n }

record BuildHeld (h : Held) (name : List ℕ) (n : ℕ) : Type 0 where
  first : h.first ≡ Some name
  second : h.second ≡ None
  limit : h.limit ≡ None
  lanes : h.lanes ≡ None
  class : h.class ≡ None
  from : h.from ≡ None
  named : is_name name ≡ true
  workers : workers_in h.workers ≡ Some n

with_tells : (a : List ℕ) (o : Option (List ℕ)) (name : List ℕ) (n : ℕ) → with_workers a o ≡ Some (asked_for name n) → (a ≡ name) × (workers_in o ≡ Some n)
with_tells a o name n is =
    let made = bind_some (λ (m : ℕ). Some (asked_for a m)) (workers_in o) (asked_for name n) is in
    let same : asked_for a made.0 ≡ asked_for name n = same_Some (asked_for a made.0) (asked_for name n) made.2 in
    (ap (λ (b : Build). b.name) same, made.1 ∙ ap (λ (b : Build). Some b.workers) same)

build_held : (h : Held) (name : List ℕ) (n : ℕ) → build_in h ≡ Some (asked_for name n) → BuildHeld h name n
build_held h name n is = go ((is_some h.second || (is_some h.limit || is_some h.from)) || (is_some h.lanes || is_some h.class)) refl is
  where
    go : (t : Bool) → (is_some h.second || (is_some h.limit || is_some h.from)) || (is_some h.lanes || is_some h.class) ≡ t → cond t None (name_of h.first >>= λ a. with_workers a h.workers) ≡ Some (asked_for name n) → BuildHeld h name n
    go true e found = (cc)
    go false e found =
        let a = or_parts (is_some h.second || (is_some h.limit || is_some h.from)) (is_some h.lanes || is_some h.class) e in
        let b = or_parts (is_some h.second) (is_some h.limit || is_some h.from) a.0 in
        let c = or_parts (is_some h.limit) (is_some h.from) b.1 in
        let d = or_parts (is_some h.lanes) (is_some h.class) a.1 in
        let made = bind_some (λ (x : List ℕ). with_workers x h.workers) (name_of h.first) (asked_for name n) found in
        let both = with_tells made.0 h.workers name n made.2 in
        let word = name_of_tells h.first name (made.1 ∙ ap Some both.0) in
        record { first = word.0; second = is_none_of h.second b.0; limit = is_none_of h.limit c.0; lanes = is_none_of h.lanes d.0; class = is_none_of h.class d.1; from = is_none_of h.from c.1; named = word.1; workers = both.1 }

-- ---- both ways

pub build_tells : (words : List (List ℕ)) (name : List ℕ) (n : ℕ) → build_of words ≡ Some (asked_for name n) → IsBuildLine name n words
build_tells words name n is =
    let made = bind_some (λ (h : Held). build_in h) (behind (codes "build") words) (asked_for name n) is in
    let named = behind_tells (codes "build") words made.0 made.1 in
    let held = build_held made.0 name n made.2 in
    let says = asked named.0 made.0 named.2 in
    let others = build_others says.options (sym says.holds.limit ∙ held.limit) (sym says.holds.lanes ∙ held.lanes) (sym says.holds.class ∙ held.class) (sym says.holds.from ∙ held.from) in
    let are : AreOf of_build says.options = narrower of_build says.options others says.asks.known in
    let one : says.plain ≡ name ∷ [] = says.holds.words ∙ ap (λ o. listed o made.0.second) held.first ∙ ap (λ o. listed (Some name) o) held.second in
    let asks = named_so all of_build named.0 says.plain says.options says.asks are in
    record {
      behind = named.0;
      options = says.options;
      command = named.1;
      asks = subst (λ (plain : List (List ℕ)). Asks of_build named.0 plain says.options) one asks;
      named = held.named;
      workers_are = subst (WorkersAre n) says.holds.workers (workers_tell made.0.workers n held.workers);
    }

pub build_reads : (words : List (List ℕ)) (name : List ℕ) (n : ℕ) → IsBuildLine name n words → build_of words ≡ Some (asked_for name n)
build_reads words name n line =
    let asks = named_so of_build all line.behind (name ∷ []) line.options line.asks (wider of_build line.options build_names line.asks.known) in
    let made = answered line.behind (name ∷ []) line.options asks (omega arith) in
    let holds = made.2 in
    let first = one_listed name made.0.first made.0.second holds.words in
    let limit : made.0.limit ≡ None = holds.limit ∙ absent of_build (codes "limit") line.options (no_other (codes "limit") (differ (codes "limit") (codes "workers") refl)) line.asks.known in
    let lanes : made.0.lanes ≡ None = holds.lanes ∙ absent of_build (codes "lanes") line.options (no_other (codes "lanes") (differ (codes "lanes") (codes "workers") refl)) line.asks.known in
    let class : made.0.class ≡ None = holds.class ∙ absent of_build (codes "class") line.options (no_other (codes "class") (differ (codes "class") (codes "workers") refl)) line.asks.known in
    let from : made.0.from ≡ None = holds.from ∙ absent of_build (codes "from") line.options (no_other (codes "from") (differ (codes "from") (codes "workers") refl)) line.asks.known in
    let count : workers_in made.0.workers ≡ Some n = workers_named made.0.workers n (subst (WorkersAre n) (sym holds.workers) line.workers_are) in
    ap (λ (o : Option Held). o >>= λ h. build_in h) (behind_named (codes "build") words line.behind line.command ∙ made.1)
    ∙ rw (first.0, first.1, limit, lanes, class, from) (ap (λ t. cond t (Some name) None >>= λ a. with_workers a made.0.workers) line.named ∙ ap (λ (o : Option ℕ). o >>= λ m. Some (asked_for name m)) count)
