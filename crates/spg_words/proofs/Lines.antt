-- The readers of command lines give what the words ask for, and miss nothing.
use Rattle.std.proofs.Common.{◌≡◌, ◌⊎◌, inl, inr, ◌<◌, ◌^◌, ◌&&◌, ◌||◌, ℕ, Bool, true, false, cond, leb, List, [], ◌∷◌, Option, Some, None, refl, sym, ap, ◌∙◌, subst, arith, ◌≢◌}
use Rattle.std.specs.Prelude.{bytes_eq, codes, is_some}
use Rattle.std.specs.Fmt.{decimal}
use Rattle.std.proofs.lemmas.Bool.{le-leb, leb-true}
use Rattle.std.proofs.lemmas.Option.{same_Some}
use Rattle.std.proofs.lemmas.Slice.Eq.{bytes_eq-Decides}
use Rattle.spg_script.specs.Reading.{number_of}
use Rattle.spg_script.specs.declared.class_name.ClassName.{ClassName}
use Rattle.spg_script.specs.declared.class_name.ClassName.TheVariants.{Quad, Kd, Radix, Range}
use Rattle.spg_script.proofs.Digits.{spelled-number_of, number_of-decimal}
use Rattle.spg_words.specs.declared.load.Load.{Load}
use Rattle.spg_words.specs.Parts.{Given, value_of, IsOneOf, AreOf, Asks}
use Rattle.spg_io.specs.Names.{is_name}
use Rattle.spg_words.specs.Lines.{IsLimit, LimitIs, IsNamed, IsRunLine, IsCheckLine, IsLoad, LanesAre, class_word, ClassIs, IsLoadLine}
use Rattle.spg_words.specs.Reading.{◌>>=◌, Held, read, nothing, behind}
use Rattle.spg_words.specs.Asked.{page_limit, limit_in, Run, with_name, run_in, run_of, image_name, name_of, checked_in, check_of, class_named, class_in, lanes_in, checked, load_from, load_in, load_of}
use Rattle.spg_words.proofs.Pieces.{all, bind_some}
use Rattle.spg_words.proofs.Gathered.{listed}
use Rattle.spg_words.proofs.Asks.{wider, narrower, absent, asked, answered, named_so}

-- ---- the command's name

-- the words begin with the name, and what is behind it was read
pub behind_tells : (name : List ℕ) (words : List (List ℕ)) (h : Held) → behind name words ≡ Some h → (rest : List (List ℕ)) × (words ≡ name ∷ rest) × (read nothing rest ≡ Some h)
behind_tells name [] h is = (cc)
behind_tells name (word ∷ words) h is = go (bytes_eq word name) refl is
  where
    go : (t : Bool) → bytes_eq word name ≡ t → cond t (read nothing words) None ≡ Some h → (rest : List (List ℕ)) × (word ∷ words ≡ name ∷ rest) × (read nothing rest ≡ Some h)
    go true e found = (words, ap (λ w. w ∷ words) ((bytes_eq-Decides word name).0 e), found)
    go false e found = (cc)

pub behind_named : (name : List ℕ) (words : List (List ℕ)) (rest : List (List ℕ)) → words ≡ name ∷ rest → behind name words ≡ read nothing rest
behind_named name words rest is = ap (behind name) is ∙ ap (λ t. cond t (read nothing rest) None) ((bytes_eq-Decides name name).1 refl)

-- words that are not the same
pub differ : (a b : List ℕ) → bytes_eq a b ≡ false → a ≡ b → ⊥
differ a b other same = let clash : false ≡ true = sym other ∙ (bytes_eq-Decides a b).1 same in absurd (cc)

abbrev pub first_word : List (List ℕ) → List ℕ
first_word [] = []
first_word (word ∷ words) = word

-- ---- tests

pub and_parts : (a b : Bool) → a && b ≡ true → (a ≡ true) × (b ≡ true)
and_parts true b is = (refl, is)
and_parts false b is = absurd (cc)

pub or_parts : (a b : Bool) → a || b ≡ false → (a ≡ false) × (b ≡ false)
or_parts true b is = absurd (cc)
or_parts false b is = (refl, is)

pub is_none_of : (o : Option (List ℕ)) → is_some o ≡ false → o ≡ None
is_none_of None is = refl
is_none_of (Some word) is = absurd (cc)

-- ---- `run`

page_limit_tells : (word : List ℕ) (n : ℕ) → page_limit word ≡ Some n → IsLimit n word
page_limit_tells word n is =
    let made = bind_some (λ (m : ℕ). cond (leb 4 m && leb m 131072) (Some m) None) (number_of word) n is in
    go made.0 (leb 4 made.0 && leb made.0 131072) refl (spelled-number_of word made.0 made.1).0 made.2
  where
    go : (m : ℕ) (t : Bool) → leb 4 m && leb m 131072 ≡ t → word ≡ decimal m → cond t (Some m) None ≡ Some n → IsLimit n word
    go m true e spelled found =
        let tests = and_parts (leb 4 m) (leb m 131072) e in
        subst (λ k. IsLimit k word) (same_Some m n found) (record { least = leb-true 4 m tests.0; most = leb-true m 131072 tests.1; spelled = spelled })
    go m false e spelled found = (cc)

page_limit_named : (word : List ℕ) (n : ℕ) → IsLimit n word → page_limit word ≡ Some n
page_limit_named word n is =
    let small : n < 2 ^ 32 = omega (arith, is.most) in
    ap page_limit is.spelled ∙ rw (number_of-decimal n small, le-leb 4 n is.least, le-leb n 131072 is.most) refl

pub limit_tells : (o : Option (List ℕ)) (n : ℕ) → limit_in o ≡ Some n → LimitIs n o
limit_tells None n is = sym (same_Some 65536 n is)
limit_tells (Some word) n is = page_limit_tells word n is

pub limit_named : (o : Option (List ℕ)) (n : ℕ) → LimitIs n o → limit_in o ≡ Some n
limit_named None n is = ap Some (sym is)
limit_named (Some word) n is = page_limit_named word n is

-- the options of `run` are among all
abbrev of_run : List (List ℕ)
of_run = codes "limit" ∷ codes "from" ∷ []

run_names : (name : List ℕ) → IsOneOf of_run name → IsOneOf all name
run_names name (inl is) = inl is
run_names name (inr (inl is)) = inr (inr (inr (inl is)))
run_names name (inr (inr none)) = absurd none

run_others : (options : List Given) → value_of (codes "lanes") options ≡ None → value_of (codes "class") options ≡ None → value_of (codes "workers") options ≡ None → (name : List ℕ) → IsOneOf all name → IsOneOf of_run name ⊎ (value_of name options ≡ None)
run_others options no_lanes no_class no_workers name (inl is) = inl (inl is)
run_others options no_lanes no_class no_workers name (inr (inl is)) = inr (ap (λ n. value_of n options) is ∙ no_lanes)
run_others options no_lanes no_class no_workers name (inr (inr (inl is))) = inr (ap (λ n. value_of n options) is ∙ no_class)
run_others options no_lanes no_class no_workers name (inr (inr (inr (inl is)))) = inl (inr (inl is))
run_others options no_lanes no_class no_workers name (inr (inr (inr (inr (inl is))))) = inr (ap (λ n. value_of n options) is ∙ no_workers)
run_others options no_lanes no_class no_workers name (inr (inr (inr (inr (inr none))))) = absurd none

no_lanes_of_run : IsOneOf of_run (codes "lanes") → ⊥
no_lanes_of_run (inl is) = differ (codes "lanes") (codes "limit") refl is
no_lanes_of_run (inr (inl is)) = differ (codes "lanes") (codes "from") refl is
no_lanes_of_run (inr (inr none)) = none

no_class_of_run : IsOneOf of_run (codes "class") → ⊥
no_class_of_run (inl is) = differ (codes "class") (codes "limit") refl is
no_class_of_run (inr (inl is)) = differ (codes "class") (codes "from") refl is
no_class_of_run (inr (inr none)) = none

no_workers_of_run : IsOneOf of_run (codes "workers") → ⊥
no_workers_of_run (inl is) = differ (codes "workers") (codes "limit") refl is
no_workers_of_run (inr (inl is)) = differ (codes "workers") (codes "from") refl is
no_workers_of_run (inr (inr none)) = none

-- the name, where there is one
abbrev pub run : ℕ → Option (List ℕ) → Run
run n from = record { limit = n; from = from }

record NameHeld (m n : ℕ) (o from : Option (List ℕ)) : Type 0 where
  limit : m ≡ n
  from_is : from ≡ o
  named : IsNamed from

name_tells : (m n : ℕ) (o from : Option (List ℕ)) → with_name m o ≡ Some (run n from) → NameHeld m n o from
name_tells m n None from is =
    let same : run m None ≡ run n from = same_Some (run m None) (run n from) is in
    let e : None ≡ from = ap (λ (r : Run). r.from) same in
    record { limit = ap (λ (r : Run). r.limit) same; from_is = sym e; named = subst IsNamed e tt }
name_tells m n (Some word) from is = go (is_name word) refl is
  where
    go : (t : Bool) → is_name word ≡ t → cond t (Some (run m (Some word))) None ≡ Some (run n from) → NameHeld m n (Some word) from
    go true e found =
        let same : run m (Some word) ≡ run n from = same_Some (run m (Some word)) (run n from) found in
        let f : Some word ≡ from = ap (λ (r : Run). r.from) same in
        record { limit = ap (λ (r : Run). r.limit) same; from_is = sym f; named = subst IsNamed f e }
    go false e found = (cc)

name_named : (n : ℕ) (from : Option (List ℕ)) → IsNamed from → with_name n from ≡ Some (run n from)
name_named n None is = refl
name_named n (Some word) is = ap (λ t. cond t (Some (run n (Some word))) None) is

record RunHeld (h : Held) (n : ℕ) (from : Option (List ℕ)) : Type 0 where
  first : h.first ≡ None
  lanes : h.lanes ≡ None
  class : h.class ≡ None
  workers : h.workers ≡ None
  limit : limit_in h.limit ≡ Some n
  from_is : from ≡ h.from
  named : IsNamed from

run_held : (h : Held) (n : ℕ) (from : Option (List ℕ)) → run_in h ≡ Some (run n from) → RunHeld h n from
run_held h n from is = go (is_some h.first || ((is_some h.lanes || is_some h.class) || is_some h.workers)) refl is
  where
    go : (t : Bool) → is_some h.first || ((is_some h.lanes || is_some h.class) || is_some h.workers) ≡ t → cond t None (limit_in h.limit >>= λ m. with_name m h.from) ≡ Some (run n from) → RunHeld h n from
    go true e found = (cc)
    go false e found =
        let a = or_parts (is_some h.first) ((is_some h.lanes || is_some h.class) || is_some h.workers) e in
        let c = or_parts (is_some h.lanes || is_some h.class) (is_some h.workers) a.1 in
        let b = or_parts (is_some h.lanes) (is_some h.class) c.0 in
        let made = bind_some (λ (m : ℕ). with_name m h.from) (limit_in h.limit) (run n from) found in
        let name = name_tells made.0 n h.from from made.2 in
        record { first = is_none_of h.first a.0; lanes = is_none_of h.lanes b.0; class = is_none_of h.class b.1; workers = is_none_of h.workers c.1; limit = made.1 ∙ ap Some name.limit; from_is = name.from_is; named = name.named }

pub run_tells : (words : List (List ℕ)) (n : ℕ) (from : Option (List ℕ)) → run_of words ≡ Some (run n from) → IsRunLine n from words
run_tells words n from is =
    let made = bind_some (λ (h : Held). run_in h) (behind (codes "run") words) (run n from) is in
    let named = behind_tells (codes "run") words made.0 made.1 in
    let held = run_held made.0 n from made.2 in
    let says = asked named.0 made.0 named.2 in
    let no_lanes : value_of (codes "lanes") says.options ≡ None = sym says.holds.lanes ∙ held.lanes in
    let no_class : value_of (codes "class") says.options ≡ None = sym says.holds.class ∙ held.class in
    let no_workers : value_of (codes "workers") says.options ≡ None = sym says.holds.workers ∙ held.workers in
    let none : says.plain ≡ [] = says.holds.words ∙ ap (λ o. listed o made.0.second) held.first in
    let asks = named_so all of_run named.0 says.plain says.options says.asks (narrower of_run says.options (run_others says.options no_lanes no_class no_workers) says.asks.known) in
    record {
      behind = named.0;
      options = says.options;
      command = named.1;
      asks = subst (λ (plain : List (List ℕ)). Asks of_run named.0 plain says.options) none asks;
      limit = subst (LimitIs n) says.holds.limit (limit_tells made.0.limit n held.limit);
      from_is = held.from_is ∙ says.holds.from;
      named = held.named;
    }

no_first : (first second : Option (List ℕ)) → [] ≡ listed first second → first ≡ None
no_first None second is = refl
no_first (Some a) None is = (cc)
no_first (Some a) (Some b) is = (cc)

pub run_reads : (words : List (List ℕ)) (n : ℕ) (from : Option (List ℕ)) → IsRunLine n from words → run_of words ≡ Some (run n from)
run_reads words n from line =
    let asks = named_so of_run all line.behind [] line.options line.asks (wider of_run line.options run_names line.asks.known) in
    let made = answered line.behind [] line.options asks (omega arith) in
    let holds = made.2 in
    let first : made.0.first ≡ None = no_first made.0.first made.0.second holds.words in
    let lanes : made.0.lanes ≡ None = holds.lanes ∙ absent of_run (codes "lanes") line.options no_lanes_of_run line.asks.known in
    let class : made.0.class ≡ None = holds.class ∙ absent of_run (codes "class") line.options no_class_of_run line.asks.known in
    let workers : made.0.workers ≡ None = holds.workers ∙ absent of_run (codes "workers") line.options no_workers_of_run line.asks.known in
    let name : with_name n made.0.from ≡ Some (run n from) = ap (with_name n) (holds.from ∙ sym line.from_is) ∙ name_named n from line.named in
    ap (λ (o : Option Held). o >>= λ h. run_in h) (behind_named (codes "run") words line.behind line.command ∙ made.1)
    ∙ rw (first, lanes, class, workers) (ap (λ (o : Option ℕ). o >>= λ m. with_name m made.0.from) (limit_named made.0.limit n (subst (LimitIs n) (sym holds.limit) line.limit)) ∙ name)

-- ---- `check`

none_of_check : (options : List Given) → AreOf [] options → options ≡ []
none_of_check [] are = refl
none_of_check (g ∷ options) are = absurd are.0

check_others : (options : List Given) → value_of (codes "limit") options ≡ None → value_of (codes "lanes") options ≡ None → value_of (codes "class") options ≡ None → value_of (codes "from") options ≡ None → value_of (codes "workers") options ≡ None
    → (name : List ℕ) → IsOneOf all name → IsOneOf [] name ⊎ (value_of name options ≡ None)
check_others options limit lanes class from workers name (inl is) = inr (ap (λ n. value_of n options) is ∙ limit)
check_others options limit lanes class from workers name (inr (inl is)) = inr (ap (λ n. value_of n options) is ∙ lanes)
check_others options limit lanes class from workers name (inr (inr (inl is))) = inr (ap (λ n. value_of n options) is ∙ class)
check_others options limit lanes class from workers name (inr (inr (inr (inl is)))) = inr (ap (λ n. value_of n options) is ∙ from)
check_others options limit lanes class from workers name (inr (inr (inr (inr (inl is))))) = inr (ap (λ n. value_of n options) is ∙ workers)
check_others options limit lanes class from workers name (inr (inr (inr (inr (inr none))))) = absurd none

pub name_of_tells : (o : Option (List ℕ)) (name : List ℕ) → name_of o ≡ Some name → (o ≡ Some name) × (is_name name ≡ true)
name_of_tells None name is = (cc)
name_of_tells (Some word) name is = go (is_name word) refl is
  where
    go : (t : Bool) → is_name word ≡ t → cond t (Some word) None ≡ Some name → (Some word ≡ Some name) × (is_name name ≡ true)
    go true e found = (found, ap is_name (sym (same_Some word name found)) ∙ e)
    go false e found = (cc)

record CheckHeld (h : Held) (name : List ℕ) : Type 0 where
  first : h.first ≡ Some name
  second : h.second ≡ None
  limit : h.limit ≡ None
  lanes : h.lanes ≡ None
  class : h.class ≡ None
  from : h.from ≡ None
  workers : h.workers ≡ None
  named : is_name name ≡ true

check_held : (h : Held) (name : List ℕ) → checked_in h ≡ Some name → CheckHeld h name
check_held h name is = go ((is_some h.second || (is_some h.limit || is_some h.from)) || ((is_some h.lanes || is_some h.class) || is_some h.workers)) refl is
  where
    go : (t : Bool) → (is_some h.second || (is_some h.limit || is_some h.from)) || ((is_some h.lanes || is_some h.class) || is_some h.workers) ≡ t → cond t None (name_of h.first) ≡ Some name → CheckHeld h name
    go true e found = (cc)
    go false e found =
        let a = or_parts (is_some h.second || (is_some h.limit || is_some h.from)) ((is_some h.lanes || is_some h.class) || is_some h.workers) e in
        let b = or_parts (is_some h.second) (is_some h.limit || is_some h.from) a.0 in
        let c = or_parts (is_some h.limit) (is_some h.from) b.1 in
        let o = or_parts (is_some h.lanes || is_some h.class) (is_some h.workers) a.1 in
        let d = or_parts (is_some h.lanes) (is_some h.class) o.0 in
        let made = name_of_tells h.first name found in
        record { first = made.0; second = is_none_of h.second b.0; limit = is_none_of h.limit c.0; lanes = is_none_of h.lanes d.0; class = is_none_of h.class d.1; from = is_none_of h.from c.1; workers = is_none_of h.workers o.1; named = made.1 }

pub check_tells : (words : List (List ℕ)) (name : List ℕ) → check_of words ≡ Some name → IsCheckLine name words
check_tells words name is =
    let made = bind_some (λ (h : Held). checked_in h) (behind (codes "check") words) name is in
    let named = behind_tells (codes "check") words made.0 made.1 in
    let held = check_held made.0 name made.2 in
    let says = asked named.0 made.0 named.2 in
    let others = check_others says.options (sym says.holds.limit ∙ held.limit) (sym says.holds.lanes ∙ held.lanes) (sym says.holds.class ∙ held.class) (sym says.holds.from ∙ held.from) (sym says.holds.workers ∙ held.workers) in
    let are : AreOf [] says.options = narrower [] says.options others says.asks.known in
    let one : says.plain ≡ name ∷ [] = says.holds.words ∙ ap (λ o. listed o made.0.second) held.first ∙ ap (λ o. listed (Some name) o) held.second in
    let asks = named_so all [] named.0 says.plain says.options says.asks are in
    record {
      behind = named.0;
      command = named.1;
      asks = subst (λ (options : List Given). Asks [] named.0 (name ∷ []) options) (none_of_check says.options are) (subst (λ (plain : List (List ℕ)). Asks [] named.0 plain says.options) one asks);
      named = held.named;
    }

pub one_listed : (a : List ℕ) (first second : Option (List ℕ)) → a ∷ [] ≡ listed first second → (first ≡ Some a) × (second ≡ None)
one_listed a None second is = (cc)
one_listed a (Some x) None is = let same : a ≡ x = (cc) in (ap Some (sym same), refl)
one_listed a (Some x) (Some y) is = (cc)

pub check_reads : (words : List (List ℕ)) (name : List ℕ) → IsCheckLine name words → check_of words ≡ Some name
check_reads words name line =
    let asks = named_so [] all line.behind (name ∷ []) [] line.asks tt in
    let made = answered line.behind (name ∷ []) [] asks (omega arith) in
    let holds = made.2 in
    let first = one_listed name made.0.first made.0.second holds.words in
    ap (λ (o : Option Held). o >>= λ h. checked_in h) (behind_named (codes "check") words line.behind line.command ∙ made.1)
    ∙ rw (first.0, first.1, holds.limit, holds.lanes, holds.class, holds.from, holds.workers) (ap (λ t. cond t (Some name) None) line.named)

-- ---- `gen`

class_so : (word name : List ℕ) (made class : ClassName) → word ≡ name → class_word made ≡ Some name → Some made ≡ Some class → class_word class ≡ Some word
class_so word name made class is read same = ap class_word (sym (same_Some made class same)) ∙ read ∙ ap Some (sym is)

class_tells : (word : List ℕ) (class : ClassName) → class_named word ≡ Some class → class_word class ≡ Some word
class_tells word class is = go (bytes_eq word (codes "quad")) refl (bytes_eq word (codes "kd")) refl (bytes_eq word (codes "radix")) refl is
  where
    go : (a : Bool) → bytes_eq word (codes "quad") ≡ a → (b : Bool) → bytes_eq word (codes "kd") ≡ b → (c : Bool) → bytes_eq word (codes "radix") ≡ c
        → cond a (Some Quad) (cond b (Some Kd) (cond c (Some Radix) None)) ≡ Some class → class_word class ≡ Some word
    go true e b f c g found = class_so word (codes "quad") Quad class ((bytes_eq-Decides word (codes "quad")).0 e) refl found
    go false e true f c g found = class_so word (codes "kd") Kd class ((bytes_eq-Decides word (codes "kd")).0 f) refl found
    go false e false f true g found = class_so word (codes "radix") Radix class ((bytes_eq-Decides word (codes "radix")).0 g) refl found
    go false e false f false g found = (cc)

class_read : (class : ClassName) (word : List ℕ) → class_word class ≡ Some word → class_named word ≡ Some class
class_read Quad word is = ap class_named (sym (same_Some _ word is))
class_read Kd word is = ap class_named (sym (same_Some _ word is))
class_read Radix word is = ap class_named (sym (same_Some _ word is))
class_read Range word is = (cc)

class_in_tells : (o : Option (List ℕ)) (class : ClassName) → class_in o ≡ Some class → ClassIs class o
class_in_tells None class is = sym (same_Some Quad class is)
class_in_tells (Some word) class is = class_tells word class is

class_in_plain : (o : Option (List ℕ)) (class : ClassName) → class_in o ≡ Some class → class ≢ Range
class_in_plain None class is ranges = let clash : Quad ≡ Range = same_Some Quad class is ∙ ranges in (cc)
class_in_plain (Some word) class is ranges = let clash : None ≡ Some word = sym (ap class_word ranges) ∙ class_tells word class is in (cc)

class_in_named : (o : Option (List ℕ)) (class : ClassName) → ClassIs class o → class_in o ≡ Some class
class_in_named None class is = ap Some (sym is)
class_in_named (Some word) class is = class_read class word is

lanes_tell : (o : Option (List ℕ)) (n : ℕ) → lanes_in o ≡ Some n → LanesAre n o
lanes_tell None n is = sym (same_Some 4 n is)
lanes_tell (Some word) n is = (spelled-number_of word n is).0

lanes_named : (o : Option (List ℕ)) (n : ℕ) → n < 2 ^ 32 → LanesAre n o → lanes_in o ≡ Some n
lanes_named None n small is = ap Some (sym is)
lanes_named (Some word) n small is = ap number_of is ∙ number_of-decimal n small

checked_tells : (load load2 : Load) → load.class ≢ Range → checked load ≡ Some load2 → (load ≡ load2) × IsLoad load
checked_tells load load2 plain is = go ((leb 1 load.count && leb load.count 200000 && leb load.seed 999999) && (leb 1 load.lanes && leb load.lanes 16)) refl is
  where
    go : (t : Bool) → (leb 1 load.count && leb load.count 200000 && leb load.seed 999999) && (leb 1 load.lanes && leb load.lanes 16) ≡ t → cond t (Some load) None ≡ Some load2 → (load ≡ load2) × IsLoad load
    go true e found =
        let halves = and_parts (leb 1 load.count && leb load.count 200000 && leb load.seed 999999) (leb 1 load.lanes && leb load.lanes 16) e in
        let rows = and_parts (leb 1 load.count && leb load.count 200000) (leb load.seed 999999) halves.0 in
        let count = and_parts (leb 1 load.count) (leb load.count 200000) rows.0 in
        let lanes = and_parts (leb 1 load.lanes) (leb load.lanes 16) halves.1 in (
          same_Some load load2 found,
          record { some = leb-true 1 load.count count.0; count = leb-true load.count 200000 count.1; seed = leb-true load.seed 999999 rows.1; one_lane = leb-true 1 load.lanes lanes.0; no_ranges = plain; lanes = leb-true load.lanes 16 lanes.1 },
        )
    go false e found = (cc)

checked_in_range : (load : Load) → IsLoad load → checked load ≡ Some load
checked_in_range load is = rw (le-leb 1 load.count is.some, le-leb load.count 200000 is.count, le-leb load.seed 999999 is.seed, le-leb 1 load.lanes is.one_lane, le-leb load.lanes 16 is.lanes) refl

-- what is held where a load was read
record LoadHeld (h : Held) (load : Load) : Type 0 where
  rows : List ℕ
  seed : List ℕ
  first : h.first ≡ Some rows
  second : h.second ≡ Some seed
  no_limit : h.limit ≡ None
  no_from : h.from ≡ None
  no_workers : h.workers ≡ None
  rows_are : rows ≡ decimal load.count
  seed_is : seed ≡ decimal load.seed
  lanes_are : LanesAre load.lanes h.lanes
  class_is : ClassIs load.class h.class
  in_range : IsLoad load

load_held : (h : Held) (load : Load) → load_in h ≡ Some load → LoadHeld h load
load_held h load is = go h.first refl h.second refl h.limit refl h.from refl h.workers refl is
  where
    go : (first : Option (List ℕ)) → h.first ≡ first → (second : Option (List ℕ)) → h.second ≡ second → (limit : Option (List ℕ)) → h.limit ≡ limit → (from : Option (List ℕ)) → h.from ≡ from → (workers : Option (List ℕ)) → h.workers ≡ workers → load_from first second limit from workers h ≡ Some load → LoadHeld h load
    go None e second f limit g from k workers w found = (cc)
    go (Some rows) e None f limit g from k workers w found = (cc)
    go (Some rows) e (Some seed) f (Some word) g from k workers w found = (cc)
    go (Some rows) e (Some seed) f None g (Some word) k workers w found = (cc)
    go (Some rows) e (Some seed) f None g None k (Some word) w found = (cc)
    go (Some rows) e (Some seed) f None g None k None w found =
        let n = bind_some (λ (n : ℕ). number_of seed >>= λ s. (lanes_in h.lanes >>= λ l. (class_in h.class >>= λ c. checked (record { count = n; seed = s; lanes = l; class = c })))) (number_of rows) load found in
        let s = bind_some (λ (s : ℕ). lanes_in h.lanes >>= λ l. (class_in h.class >>= λ c. checked (record { count = n.0; seed = s; lanes = l; class = c }))) (number_of seed) load n.2 in
        let l = bind_some (λ (l : ℕ). class_in h.class >>= λ c. checked (record { count = n.0; seed = s.0; lanes = l; class = c })) (lanes_in h.lanes) load s.2 in
        let c = bind_some (λ (c : ClassName). checked (record { count = n.0; seed = s.0; lanes = l.0; class = c })) (class_in h.class) load l.2 in
        let fine = checked_tells (record { count = n.0; seed = s.0; lanes = l.0; class = c.0 }) load (class_in_plain h.class c.0 c.1) c.2 in
        record {
          rows = rows;
          seed = seed;
          first = e;
          second = f;
          no_limit = g;
          no_from = k;
          no_workers = w;
          rows_are = (spelled-number_of rows n.0 n.1).0 ∙ ap (λ (x : Load). decimal x.count) fine.0;
          seed_is = (spelled-number_of seed s.0 s.1).0 ∙ ap (λ (x : Load). decimal x.seed) fine.0;
          lanes_are = subst (λ (x : Load). LanesAre x.lanes h.lanes) fine.0 (lanes_tell h.lanes l.0 l.1);
          class_is = subst (λ (x : Load). ClassIs x.class h.class) fine.0 (class_in_tells h.class c.0 c.1);
          in_range = subst IsLoad fine.0 fine.1;
        }

load_names : (name : List ℕ) → IsOneOf (codes "lanes" ∷ codes "class" ∷ []) name → IsOneOf all name
load_names name (inl is) = inr (inl is)
load_names name (inr (inl is)) = inr (inr (inl is))
load_names name (inr (inr none)) = absurd none

load_others : (options : List Given) → value_of (codes "limit") options ≡ None → value_of (codes "from") options ≡ None → value_of (codes "workers") options ≡ None → (name : List ℕ) → IsOneOf all name → IsOneOf (codes "lanes" ∷ codes "class" ∷ []) name ⊎ (value_of name options ≡ None)
load_others options no_limit no_from no_workers name (inl is) = inr (ap (λ n. value_of n options) is ∙ no_limit)
load_others options no_limit no_from no_workers name (inr (inl is)) = inl (inl is)
load_others options no_limit no_from no_workers name (inr (inr (inl is))) = inl (inr (inl is))
load_others options no_limit no_from no_workers name (inr (inr (inr (inl is)))) = inr (ap (λ n. value_of n options) is ∙ no_from)
load_others options no_limit no_from no_workers name (inr (inr (inr (inr (inl is))))) = inr (ap (λ n. value_of n options) is ∙ no_workers)
load_others options no_limit no_from no_workers name (inr (inr (inr (inr (inr none))))) = absurd none

no_limit_of_load : IsOneOf (codes "lanes" ∷ codes "class" ∷ []) (codes "limit") → ⊥
no_limit_of_load (inl is) = differ (codes "limit") (codes "lanes") refl is
no_limit_of_load (inr (inl is)) = differ (codes "limit") (codes "class") refl is
no_limit_of_load (inr (inr none)) = none

no_from_of_load : IsOneOf (codes "lanes" ∷ codes "class" ∷ []) (codes "from") → ⊥
no_from_of_load (inl is) = differ (codes "from") (codes "lanes") refl is
no_from_of_load (inr (inl is)) = differ (codes "from") (codes "class") refl is
no_from_of_load (inr (inr none)) = none

no_workers_of_load : IsOneOf (codes "lanes" ∷ codes "class" ∷ []) (codes "workers") → ⊥
no_workers_of_load (inl is) = differ (codes "workers") (codes "lanes") refl is
no_workers_of_load (inr (inl is)) = differ (codes "workers") (codes "class") refl is
no_workers_of_load (inr (inr none)) = none

pub load_tells : (words : List (List ℕ)) (load : Load) → load_of words ≡ Some load → IsLoadLine load words
load_tells words load is =
    let made = bind_some (λ (h : Held). load_in h) (behind (codes "gen") words) load is in
    let named = behind_tells (codes "gen") words made.0 made.1 in
    let held = load_held made.0 load made.2 in
    let says = asked named.0 made.0 named.2 in
    let no_limit : value_of (codes "limit") says.options ≡ None = sym says.holds.limit ∙ held.no_limit in
    let no_from : value_of (codes "from") says.options ≡ None = sym says.holds.from ∙ held.no_from in
    let no_workers : value_of (codes "workers") says.options ≡ None = sym says.holds.workers ∙ held.no_workers in
    let both : says.plain ≡ held.rows ∷ held.seed ∷ [] = says.holds.words ∙ ap (λ o. listed o made.0.second) held.first ∙ ap (λ o. listed (Some held.rows) o) held.second in
    let asks = named_so all (codes "lanes" ∷ codes "class" ∷ []) named.0 says.plain says.options says.asks (narrower (codes "lanes" ∷ codes "class" ∷ []) says.options (load_others says.options no_limit no_from no_workers) says.asks.known) in
    record {
      behind = named.0;
      rows = held.rows;
      seed = held.seed;
      options = says.options;
      command = named.1;
      asks = subst (λ (plain : List (List ℕ)). Asks (codes "lanes" ∷ codes "class" ∷ []) named.0 plain says.options) both asks;
      rows_are = held.rows_are;
      seed_is = held.seed_is;
      lanes_are = subst (LanesAre load.lanes) says.holds.lanes held.lanes_are;
      class_is = subst (ClassIs load.class) says.holds.class held.class_is;
      in_range = held.in_range;
    }

-- two words are the first and the second
two_listed : (a b : List ℕ) (first second : Option (List ℕ)) → a ∷ b ∷ [] ≡ listed first second → (first ≡ Some a) × (second ≡ Some b)
two_listed a b None second is = (cc)
two_listed a b (Some x) None is = (cc)
two_listed a b (Some x) (Some y) is = let same : a ≡ x = (cc) in let same2 : b ≡ y = (cc) in (ap Some (sym same), ap Some (sym same2))

load_from_is : (h : Held) (load : Load) (rows seed : List ℕ) → rows ≡ decimal load.count → seed ≡ decimal load.seed → LanesAre load.lanes h.lanes → ClassIs load.class h.class → IsLoad load
    → load_from (Some rows) (Some seed) None None None h ≡ Some load
load_from_is h load rows seed rows_are seed_is lanes_are class_is is =
    let rows_small : load.count < 2 ^ 32 = omega (arith, is.count) in
    let seed_small : load.seed < 2 ^ 32 = omega (arith, is.seed) in
    let lanes_small : load.lanes < 2 ^ 32 = omega (arith, is.lanes) in
    let rows_read : number_of rows ≡ Some load.count = ap number_of rows_are ∙ number_of-decimal load.count rows_small in
    let seed_read : number_of seed ≡ Some load.seed = ap number_of seed_is ∙ number_of-decimal load.seed seed_small in
    let lanes_read = lanes_named h.lanes load.lanes lanes_small lanes_are in
    let class_read = class_in_named h.class load.class class_is in
    rw (rows_read, seed_read, lanes_read, class_read) (checked_in_range load is)

pub load_reads : (words : List (List ℕ)) (load : Load) → IsLoadLine load words → load_of words ≡ Some load
load_reads words load line =
    let asks = named_so (codes "lanes" ∷ codes "class" ∷ []) all line.behind (line.rows ∷ line.seed ∷ []) line.options line.asks (wider (codes "lanes" ∷ codes "class" ∷ []) line.options load_names line.asks.known) in
    let made = answered line.behind (line.rows ∷ line.seed ∷ []) line.options asks (omega arith) in
    let holds = made.2 in
    let both = two_listed line.rows line.seed made.0.first made.0.second holds.words in
    let no_limit : made.0.limit ≡ None = holds.limit ∙ absent (codes "lanes" ∷ codes "class" ∷ []) (codes "limit") line.options no_limit_of_load line.asks.known in
    let no_from : made.0.from ≡ None = holds.from ∙ absent (codes "lanes" ∷ codes "class" ∷ []) (codes "from") line.options no_from_of_load line.asks.known in
    let no_workers : made.0.workers ≡ None = holds.workers ∙ absent (codes "lanes" ∷ codes "class" ∷ []) (codes "workers") line.options no_workers_of_load line.asks.known in
    ap (λ (o : Option Held). o >>= λ h. load_in h) (behind_named (codes "gen") words line.behind line.command ∙ made.1)
    ∙ ap (λ o. load_from o made.0.second made.0.limit made.0.from made.0.workers made.0) both.0
    ∙ ap (λ o. load_from (Some line.rows) o made.0.limit made.0.from made.0.workers made.0) both.1
    ∙ ap (λ o. load_from (Some line.rows) (Some line.seed) o made.0.from made.0.workers made.0) no_limit
    ∙ ap (λ o. load_from (Some line.rows) (Some line.seed) None o made.0.workers made.0) no_from
    ∙ ap (λ o. load_from (Some line.rows) (Some line.seed) None None o made.0) no_workers
    ∙ load_from_is made.0 load line.rows line.seed line.rows_are line.seed_is (subst (LanesAre load.lanes) (sym holds.lanes) line.lanes_are) (subst (ClassIs load.class) (sym holds.class) line.class_is) line.in_range
