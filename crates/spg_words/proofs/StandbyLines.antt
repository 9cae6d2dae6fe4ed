-- The reader of a line of `standby` gives what the words ask for, and misses nothing.
use Rattle.std.proofs.Common.{◌≡◌, ◌⊎◌, inl, inr, ◌≤◌, ◌<◌, ◌^◌, ◌||◌, ℕ, Bool, true, false, cond, leb, List, [], ◌∷◌, Option, Some, None, refl, sym, ap, ◌∙◌, subst, arith}
use Rattle.std.specs.Prelude.{codes, is_some}
use Rattle.std.specs.Fmt.{decimal}
use Rattle.std.proofs.lemmas.Bool.{le-leb, leb-true}
use Rattle.std.proofs.lemmas.Option.{same_Some}
use Rattle.spg_script.specs.Reading.{number_of}
use Rattle.spg_script.proofs.Digits.{spelled-number_of, number_of-decimal}
use Rattle.spg_words.specs.declared.standby_line.StandbyLine.{StandbyLine}
use Rattle.spg_words.specs.Parts.{Given, value_of, IsOneOf, AreOf, Asks}
use Rattle.spg_words.specs.Lines.{LimitIs, IsStandbyLine}
use Rattle.spg_words.specs.Reading.{◌>>=◌, Held, behind}
use Rattle.spg_words.specs.Asked.{limit_in, lag_named, lag_in, with_limit, standby_in, standby_of}
use Rattle.spg_words.proofs.Pieces.{all, bind_some}
use Rattle.spg_words.proofs.Gathered.{listed}
use Rattle.spg_words.proofs.Asks.{wider, narrower, absent, asked, answered, named_so}
use Rattle.spg_words.proofs.Lines.{behind_tells, behind_named, differ, or_parts, is_none_of, one_listed, limit_tells, limit_named}

-- ---- the lag

record SpellsLag (n : ℕ) (word : List ℕ) : Type 0 where
  most : n ≤ 1000
  spelled : word ≡ decimal n

named_tells : (word : List ℕ) (n : ℕ) → lag_named word ≡ Some n → SpellsLag n word
named_tells word n is =
    let made = bind_some (λ (m : ℕ). cond (leb m 1000) (Some m) None) (number_of word) n is in
    go made.0 (leb made.0 1000) refl (spelled-number_of word made.0 made.1).0 made.2
  where
    go : (m : ℕ) (t : Bool) → leb m 1000 ≡ t → word ≡ decimal m → cond t (Some m) None ≡ Some n → SpellsLag n word
    go m true e spelled found = subst (λ k. SpellsLag k word) (same_Some m n found) (record { most = leb-true m 1000 e; spelled = spelled })
    go m false e spelled found = (cc)

lag_tells : (o : Option (List ℕ)) (n : ℕ) → lag_in o ≡ Some n → (n ≤ 1000) × (o ≡ Some (decimal n))
lag_tells None n is = (cc)
lag_tells (Some word) n is = let spells = named_tells word n is in (spells.most, ap Some spells.spelled)

lag_reads : (n : ℕ) → n ≤ 1000 → lag_in (Some (decimal n)) ≡ Some n
lag_reads n most =
    let small : n < 2 ^ 32 = omega (arith, most) in
    rw (number_of-decimal n small, le-leb n 1000 most) refl

-- ---- the options

abbrev of_standby : List (List ℕ)
of_standby = codes "limit" ∷ []

standby_names : (name : List ℕ) → IsOneOf of_standby name → IsOneOf all name
standby_names name (inl is) = inl is
standby_names name (inr none) = absurd none

standby_others : (options : List Given) → value_of (codes "lanes") options ≡ None → value_of (codes "class") options ≡ None → value_of (codes "from") options ≡ None → value_of (codes "workers") options ≡ None
    → (name : List ℕ) → IsOneOf all name → IsOneOf of_standby name ⊎ (value_of name options ≡ None)
standby_others options lanes class from workers name (inl is) = inl (inl is)
standby_others options lanes class from workers name (inr (inl is)) = inr (ap (λ n. value_of n options) is ∙ lanes)
standby_others options lanes class from workers name (inr (inr (inl is))) = inr (ap (λ n. value_of n options) is ∙ class)
standby_others options lanes class from workers name (inr (inr (inr (inl is)))) = inr (ap (λ n. value_of n options) is ∙ from)
standby_others options lanes class from workers name (inr (inr (inr (inr (inl is))))) = inr (ap (λ n. value_of n options) is ∙ workers)
standby_others options lanes class from workers name (inr (inr (inr (inr (inr none))))) = absurd none

no_other : (name : List ℕ) → ((name ≡ codes "limit") → ⊥) → IsOneOf of_standby name → ⊥
no_other name other (inl is) = other is
no_other name other (inr none) = none

-- ---- what is held

abbrev pub lag_and_limit : ℕ → ℕ → StandbyLine
lag_and_limit lag limit = record { lag = lag; limit = limit }

record StandbyHeld (h : Held) (lag limit : ℕ) : Type 0 where
  first : h.first ≡ Some (decimal lag)
  second : h.second ≡ None
  lanes : h.lanes ≡ None
  class : h.class ≡ None
  from : h.from ≡ None
  workers : h.workers ≡ None
  most : lag ≤ 1000
  limit_is : limit_in h.limit ≡ Some limit

with_tells : (a : ℕ) (o : Option (List ℕ)) (lag limit : ℕ) → with_limit a o ≡ Some (lag_and_limit lag limit) → (a ≡ lag) × (limit_in o ≡ Some limit)
with_tells a o lag limit is =
    let made = bind_some (λ (m : ℕ). Some (lag_and_limit a m)) (limit_in o) (lag_and_limit lag limit) is in
    let same : lag_and_limit a made.0 ≡ lag_and_limit lag limit = same_Some (lag_and_limit a made.0) (lag_and_limit lag limit) made.2 in
    (ap (λ (x : StandbyLine). x.lag) same, made.1 ∙ ap (λ (x : StandbyLine). Some x.limit) same)

standby_held : (h : Held) (lag limit : ℕ) → standby_in h ≡ Some (lag_and_limit lag limit) → StandbyHeld h lag limit
standby_held h lag limit is = go ((is_some h.second || is_some h.from) || ((is_some h.lanes || is_some h.class) || is_some h.workers)) refl is
  where
    go : (t : Bool) → (is_some h.second || is_some h.from) || ((is_some h.lanes || is_some h.class) || is_some h.workers) ≡ t → cond t None (lag_in h.first >>= λ a. with_limit a h.limit) ≡ Some (lag_and_limit lag limit) → StandbyHeld h lag limit
    go true e found = (cc)
    go false e found =
        let a = or_parts (is_some h.second || is_some h.from) ((is_some h.lanes || is_some h.class) || is_some h.workers) e in
        let b = or_parts (is_some h.second) (is_some h.from) a.0 in
        let c = or_parts (is_some h.lanes || is_some h.class) (is_some h.workers) a.1 in
        let d = or_parts (is_some h.lanes) (is_some h.class) c.0 in
        let made = bind_some (λ (x : ℕ). with_limit x h.limit) (lag_in h.first) (lag_and_limit lag limit) found in
        let both = with_tells made.0 h.limit lag limit made.2 in
        let word = lag_tells h.first lag (made.1 ∙ ap Some both.0) in
        record { first = word.1; second = is_none_of h.second b.0; lanes = is_none_of h.lanes d.0; class = is_none_of h.class d.1; from = is_none_of h.from b.1; workers = is_none_of h.workers c.1; most = word.0; limit_is = both.1 }

-- ---- both ways

pub standby_tells : (words : List (List ℕ)) (lag limit : ℕ) → standby_of words ≡ Some (lag_and_limit lag limit) → IsStandbyLine lag limit words
standby_tells words lag limit is =
    let made = bind_some (λ (h : Held). standby_in h) (behind (codes "standby") words) (lag_and_limit lag limit) is in
    let named = behind_tells (codes "standby") words made.0 made.1 in
    let held = standby_held made.0 lag limit made.2 in
    let says = asked named.0 made.0 named.2 in
    let others = standby_others says.options (sym says.holds.lanes ∙ held.lanes) (sym says.holds.class ∙ held.class) (sym says.holds.from ∙ held.from) (sym says.holds.workers ∙ held.workers) in
    let are : AreOf of_standby says.options = narrower of_standby says.options others says.asks.known in
    let one : says.plain ≡ decimal lag ∷ [] = says.holds.words ∙ ap (λ o. listed o made.0.second) held.first ∙ ap (λ o. listed (Some (decimal lag)) o) held.second in
    let asks = named_so all of_standby named.0 says.plain says.options says.asks are in
    record {
      behind = named.0;
      options = says.options;
      command = named.1;
      asks = subst (λ (plain : List (List ℕ)). Asks of_standby named.0 plain says.options) one asks;
      in_range = held.most;
      limit_is = subst (LimitIs limit) says.holds.limit (limit_tells made.0.limit limit held.limit_is);
    }

pub standby_reads : (words : List (List ℕ)) (lag limit : ℕ) → IsStandbyLine lag limit words → standby_of words ≡ Some (lag_and_limit lag limit)
standby_reads words lag limit line =
    let asks = named_so of_standby all line.behind (decimal lag ∷ []) line.options line.asks (wider of_standby line.options standby_names line.asks.known) in
    let made = answered line.behind (decimal lag ∷ []) line.options asks (omega arith) in
    let holds = made.2 in
    let first = one_listed (decimal lag) made.0.first made.0.second holds.words in
    let lanes : made.0.lanes ≡ None = holds.lanes ∙ absent of_standby (codes "lanes") line.options (no_other (codes "lanes") (differ (codes "lanes") (codes "limit") refl)) line.asks.known in
    let class : made.0.class ≡ None = holds.class ∙ absent of_standby (codes "class") line.options (no_other (codes "class") (differ (codes "class") (codes "limit") refl)) line.asks.known in
    let from : made.0.from ≡ None = holds.from ∙ absent of_standby (codes "from") line.options (no_other (codes "from") (differ (codes "from") (codes "limit") refl)) line.asks.known in
    let workers : made.0.workers ≡ None = holds.workers ∙ absent of_standby (codes "workers") line.options (no_other (codes "workers") (differ (codes "workers") (codes "limit") refl)) line.asks.known in
    let limit_is : limit_in made.0.limit ≡ Some limit = limit_named made.0.limit limit (subst (LimitIs limit) (sym holds.limit) line.limit_is) in
    ap (λ (o : Option Held). o >>= λ h. standby_in h) (behind_named (codes "standby") words line.behind line.command ∙ made.1)
    ∙ rw (first.0, first.1, lanes, class, from, workers) (ap (λ (o : Option ℕ). o >>= λ a. with_limit a made.0.limit) (lag_reads lag line.in_range) ∙ ap (λ (o : Option ℕ). o >>= λ m. Some (lag_and_limit lag m)) limit_is)
