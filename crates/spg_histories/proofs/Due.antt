-- What the commands of a legal journal found where they began, and what inserts that were given up left in it.
use Rattle.std.proofs.Common.{◌≡◌, ◌⊎◌, ◌<◌, ◌≤◌, ◌-◌, ℕ, zero, suc, cond, true, List, [], ◌∷◌, ◌++◌, length, take, drop, reverse, Some, refl, sym, ap, ◌∙◌, subst, arith, take-append-drop, inl, inr}
use Rattle.std.specs.Prelude.{slice_get, IsSomeAnd, Option, Bool}
use Rattle.std.specs.List.{AllByRecursion, AllZip}
use Rattle.std.proofs.lemmas.Bool.{cases_lt, eq-eqb}
use Rattle.std.proofs.lemmas.Bool.Decides.{eqb_tells}
use Rattle.std.proofs.lemmas.List.{append_assoc, reverse-append}
use Rattle.spg_base.specs.Row.{RowAt}
use Rattle.spg_base.specs.declared.recorded.Origin.{Origin}
use Rattle.spg_opclass.specs.Meaning.{Meaning}
use Rattle.spg_forest.specs.Sheets.{Sheets}
use Rattle.spg_rows.specs.declared.event.Event.{Event}
use Rattle.spg_rows.specs.declared.event.Event.TheVariants.{OpenInsert, Put, Drop, Kill, OpenScan, CloseScan, OpenVacuum, Sweep, CloseVacuum, Leave}
use Rattle.spg_rows.specs.declared.event.Why.TheVariants as cause
use Rattle.spg_rows.specs.History.{History, seat_of, own}
use Rattle.spg_rows.specs.Rows.{is_live}
use Rattle.spg_rows.specs.Legal.{IsAllowed, IsLegal}
use Rattle.spg_seats.specs.Drops.{was_full, was_clock}
use Rattle.spg_script.specs.declared.any_key.AnyKey.{AnyKey}
use Rattle.spg_script.specs.declared.command.Command.{Command}
use Rattle.spg_script.specs.declared.command.Command.TheVariants as asked
use Rattle.spg_script.specs.Speech.{Speech}
use Rattle.spg_report.specs.declared.outcome.Outcome.{Outcome}
use Rattle.spg_report.specs.declared.outcome.Outcome.TheVariants as outcome
use Rattle.spg_report.specs.declared.record.Record.{Record}
use Rattle.spg_histories.specs.Tasks.{Task}
use Rattle.spg_histories.specs.Run.{OfInsert, OfDelete, OfVacuum, Does, Did, IsBySeat, IsWithin, past_at, between}
use Rattle.spg_histories.specs.Causes.{IsFree, NoVacuum, HasOutgrown, IsDue, IsDueIn, IsOpened, IsTooFull, IsTooFullIn, IsCaused, TellDrops}
use Rattle.spg_histories.proofs.Lists.{get-some}

-- ---- commands of a kind

of_insert : (P Q : RowAt → Option AnyKey → Type 0) (c : Command) → ((row : RowAt) (key : Option AnyKey) → P row key → Q row key) → OfInsert P c → OfInsert Q c
of_insert P Q (asked.Insert row key) from of = from row key of
of_insert P Q (asked.Delete row) from of = of
of_insert P Q (asked.Find query) from of = of
of_insert P Q asked.Vacuum from of = of
of_insert P Q (asked.Save name) from of = of
of_insert P Q asked.Stat from of = of
of_insert P Q (asked.Near target limit) from of = of

both_insert : (P Q : RowAt → Option AnyKey → Type 0) (c : Command) → OfInsert P c → OfInsert Q c → OfInsert (λ row key. P row key × Q row key) c
both_insert P Q (asked.Insert row key) one two = (one, two)
both_insert P Q (asked.Delete row) one two = one
both_insert P Q (asked.Find query) one two = one
both_insert P Q asked.Vacuum one two = one
both_insert P Q (asked.Save name) one two = one
both_insert P Q asked.Stat one two = one
both_insert P Q (asked.Near target limit) one two = one

of_delete : (P Q : RowAt → Type 0) (c : Command) → ((row : RowAt) → P row → Q row) → OfDelete P c → OfDelete Q c
of_delete P Q (asked.Insert row key) from of = of
of_delete P Q (asked.Delete row) from of = from row of
of_delete P Q (asked.Find query) from of = of
of_delete P Q asked.Vacuum from of = of
of_delete P Q (asked.Save name) from of = of
of_delete P Q asked.Stat from of = of
of_delete P Q (asked.Near target limit) from of = of

of_vacuum : (P Q : Type 0) (c : Command) → (P → Q) → OfVacuum P c → OfVacuum Q c
of_vacuum P Q (asked.Insert row key) from of = of
of_vacuum P Q (asked.Delete row) from of = of
of_vacuum P Q (asked.Find query) from of = of
of_vacuum P Q asked.Vacuum from of = from of
of_vacuum P Q (asked.Save name) from of = of
of_vacuum P Q asked.Stat from of = of
of_vacuum P Q (asked.Near target limit) from of = of

-- what was opened for the commands of a kind
from_insert : (P : RowAt → Option AnyKey → Type 0) (A : Type 0) (c : Command) → ((row : RowAt) (key : Option AnyKey) → P row key → A) → OfInsert P c → A
from_insert P A (asked.Insert row key) from of = from row key of
from_insert P A (asked.Delete row) from of = absurd of
from_insert P A (asked.Find query) from of = absurd of
from_insert P A asked.Vacuum from of = absurd of
from_insert P A (asked.Save name) from of = absurd of
from_insert P A asked.Stat from of = absurd of
from_insert P A (asked.Near target limit) from of = absurd of

module _ {O Key Recon Cond : Type 0} where
  -- ---- positions of a legal journal

  drop_get : (at : ℕ) (journal : List (Event O Key Recon Cond)) (x : Event O Key Recon Cond) → slice_get journal at ≡ Some x → drop at journal ≡ x ∷ drop (suc at) journal
  drop_get at [] x is = (cc)
  drop_get zero (y ∷ journal) x is = let same : y ≡ x = (cc) in ap (λ e. e ∷ journal) same
  drop_get (suc at) (y ∷ journal) x is = drop_get at journal x is

  earlier_legal : (es past : History O Key Recon Cond) → IsLegal (es ++ past) → IsLegal past
  earlier_legal [] past legal = legal
  earlier_legal (e ∷ es) past legal = earlier_legal es past legal.1

  -- each event was allowed after what came before it
  allowed_at : (at : ℕ) (journal : List (Event O Key Recon Cond)) (x : Event O Key Recon Cond) → slice_get journal at ≡ Some x → IsLegal (reverse journal) → IsAllowed (past_at at journal) x
  allowed_at at journal x is legal =
      let rest : List (Event O Key Recon Cond) = drop (suc at) journal in
      let whole : journal ≡ take at journal ++ x ∷ rest = sym (take-append-drop at journal) ∙ ap (λ l. take at journal ++ l) (drop_get at journal x is) in
      let parts : reverse journal ≡ (reverse rest ++ x ∷ []) ++ past_at at journal = ap reverse whole ∙ reverse-append (take at journal) (x ∷ rest) ∙ ap (λ l. l ++ past_at at journal) (reverse-append (x ∷ []) rest) in
      let past : reverse journal ≡ reverse rest ++ x ∷ past_at at journal = parts ∙ append_assoc (reverse rest) (x ∷ []) (past_at at journal) in
      (earlier_legal (reverse rest) (x ∷ past_at at journal) (subst (λ (h : History O Key Recon Cond). IsLegal h) past legal)).0

  no_event : (e : Event O Key Recon Cond) (es : List (Event O Key Recon Cond)) → [] ≡ e ∷ es → ⊥
  no_event e es is = (cc)

  same_head : (x e : Event O Key Recon Cond) (xs es : List (Event O Key Recon Cond)) → x ∷ xs ≡ e ∷ es → x ≡ e
  same_head x e xs es is = (cc)

  -- the first event of a span, where it is one of the seat's
  first_event : (journal : List (Event O Key Recon Cond)) (seat from to : ℕ) (e : Event O Key Recon Cond) (es : List (Event O Key Recon Cond)) → IsLegal (reverse journal) → to ≤ length journal
      → (from < to → IsBySeat seat journal from) → own seat (between from to journal) ≡ e ∷ es → IsAllowed (past_at from journal) e
  first_event journal seat from to e es legal within first events = elim (cases_lt from to) [
    | inl some ↦
        let got = get-some journal from (omega arith) in
        let x = got.0 in
        let by : seat_of x ≡ seat = subst (λ (o : Option (Event O Key Recon Cond)). IsSomeAnd o (λ y. seat_of y ≡ seat)) got.1 (first some) in
        let count : to - from ≡ suc (to - from - 1) = omega (arith, some) in
        let its : between from to journal ≡ x ∷ take (to - from - 1) (drop (suc from) journal) = ap (take (to - from)) (drop_get from journal x got.1) ∙ ap (λ n. take n (x ∷ drop (suc from) journal)) count in
        let mine : own seat (x ∷ take (to - from - 1) (drop (suc from) journal)) ≡ x ∷ own seat (take (to - from - 1) (drop (suc from) journal)) = rw (eq-eqb (seat_of x) seat by) refl in
        let same : x ≡ e = same_head x e (own seat (take (to - from - 1) (drop (suc from) journal))) es (sym mine ∙ sym (ap (own seat) its) ∙ events) in
        subst (λ (y : Event O Key Recon Cond). IsAllowed (past_at from journal) y) same (allowed_at from journal x got.1 legal)
    | inr none ↦
        let count : to - from ≡ 0 = omega (arith, none) in
        absurd (no_event e es (sym (ap (λ n. own seat (take n (drop from journal))) count) ∙ events))
  ]

  module _ (speech : Speech Key Cond) where
    opened : (t : Task) (before : History O Key Recon Cond) (events : List (Event O Key Recon Cond)) (o : Outcome) → Does speech t before events o
        → ((e : Event O Key Recon Cond) (es : List (Event O Key Recon Cond)) → events ≡ e ∷ es → IsAllowed before e) → IsOpened t.command before o
    opened t before events outcome.Added does allowed = of_insert _ (λ row key. IsFree row before) t.command (λ row key is. (allowed (OpenInsert t.seat row is.0) _ is.2).1) does
    opened t before events outcome.Full does allowed = of_insert _ (λ row key. IsFree row before) t.command (λ row key is. (allowed (OpenInsert t.seat row is.0) _ is.2).1) does
    opened t before events outcome.ClockFull does allowed = of_insert _ (λ row key. IsFree row before) t.command (λ row key is. (allowed (OpenInsert t.seat row is.0) _ is.2).1) does
    opened t before events outcome.Killed does allowed = of_delete _ (λ row. is_live row before ≡ true) t.command (λ row is. (allowed (Kill t.seat row) [] is).1) does
    opened t before events (outcome.Vacuumed n) does allowed = of_vacuum _ (NoVacuum before) t.command (λ is. (allowed (OpenVacuum t.seat) _ is.2).1) does
    opened t before events o does allowed = tt

    module _ (m : Meaning Key Recon Cond) (origin : Origin) where
      due_of : (c : Command) (before past : History O Key Recon Cond) (o : Outcome) → IsOpened c before o → IsTooFull m origin c past o → IsDue m origin c before past o
      due_of c before past outcome.Added opens full = opens
      due_of c before past outcome.Full opens full = both_insert (λ row key. IsFree row before) (λ row key. HasOutgrown m origin key past) c opens full
      due_of c before past outcome.ClockFull opens full = both_insert (λ row key. IsFree row before) (λ row key. HasOutgrown m origin key past) c opens full
      due_of c before past outcome.Killed opens full = opens
      due_of c before past (outcome.Vacuumed n) opens full = opens
      due_of c before past o opens full = tt

      pub due_in : (journal : List (Event O Key Recon Cond)) (tasks : List Task) (records : List Record) → IsLegal (reverse journal) → AllZip (Did speech journal) tasks records → AllZip (IsTooFullIn m origin journal) tasks records
          → AllByRecursion (IsWithin 0 (length journal)) records → AllZip (IsDueIn m origin journal) tasks records
      due_in journal [] [] legal did full within = tt
      due_in journal [] (r ∷ records) legal did full within = absurd did
      due_in journal (t ∷ tasks) [] legal did full within = absurd did
      due_in journal (t ∷ tasks) (r ∷ records) legal did full within = (
        due_of t.command (past_at r.span.from journal) (past_at r.span.to journal) r.outcome
            (opened t (past_at r.span.from journal) (own t.seat (between r.span.from r.span.to journal)) r.outcome did.0.does (λ e es is. first_event journal t.seat r.span.from r.span.to e es legal within.0.before did.0.first is)) full.0,
        due_in journal tasks records legal did.1 full.1 within.1,
      )

  -- ---- inserts that were given up

  -- an event of a list
  abbrev Has : Event O Key Recon Cond → List (Event O Key Recon Cond) → Type 0
  Has e [] = ⊥
  Has e (x ∷ xs) = (x ≡ e) ⊎ Has e xs

  has_own : (e : Event O Key Recon Cond) (seat : ℕ) (xs : List (Event O Key Recon Cond)) → Has e (own seat xs) → Has e xs
  has_own e seat [] has = has
  has_own e seat (x ∷ xs) has = elim (eqb_tells (seat_of x) seat) [
    | inl same ↦ on_it (has_own e seat xs) (subst (λ (b : Bool). Has e (cond b (x ∷ own seat xs) (own seat xs))) same.0 has)
    | inr other ↦ inr (has_own e seat xs (subst (λ (b : Bool). Has e (cond b (x ∷ own seat xs) (own seat xs))) other.0 has))
  ]
    where
      on_it : (Has e (own seat xs) → Has e xs) → Has e (x ∷ own seat xs) → Has e (x ∷ xs)
      on_it rest (inl same) = inl same
      on_it rest (inr later) = inr (rest later)

  has_take : (e : Event O Key Recon Cond) (n : ℕ) (xs : List (Event O Key Recon Cond)) → Has e (take n xs) → Has e xs
  has_take e zero xs has = absurd has
  has_take e (suc n) [] has = absurd has
  has_take e (suc n) (x ∷ xs) (inl same) = inl same
  has_take e (suc n) (x ∷ xs) (inr later) = inr (has_take e n xs later)

  has_drop : (e : Event O Key Recon Cond) (n : ℕ) (xs : List (Event O Key Recon Cond)) → Has e (drop n xs) → Has e xs
  has_drop e zero xs has = has
  has_drop e (suc n) [] has = has
  has_drop e (suc n) (x ∷ xs) has = inr (has_drop e n xs has)

  pub has_left : (e : Event O Key Recon Cond) (xs ys : List (Event O Key Recon Cond)) → Has e xs → Has e (xs ++ ys)
  has_left e [] ys has = absurd has
  has_left e (x ∷ xs) ys (inl same) = inl same
  has_left e (x ∷ xs) ys (inr later) = inr (has_left e xs ys later)

  has_right : (e : Event O Key Recon Cond) (xs ys : List (Event O Key Recon Cond)) → Has e ys → Has e (xs ++ ys)
  has_right e [] ys has = has
  has_right e (x ∷ xs) ys has = inr (has_right e xs ys has)

  pub has_reverse : (e : Event O Key Recon Cond) (xs : List (Event O Key Recon Cond)) → Has e xs → Has e (reverse xs)
  has_reverse e [] has = absurd has
  has_reverse e (x ∷ xs) (inl same) = subst (Has e) (sym (reverse-append (x ∷ []) xs)) (has_right e (reverse xs) (x ∷ []) (inl same))
  has_reverse e (x ∷ xs) (inr later) = subst (Has e) (sym (reverse-append (x ∷ []) xs)) (has_left e (reverse xs) (x ∷ []) (has_reverse e xs later))

  rest_full : (e : Event O Key Recon Cond) (past : History O Key Recon Cond) → was_full past ≡ true → was_full (e ∷ past) ≡ true
  rest_full (OpenInsert seat row key) past is = is
  rest_full (Put seat row) past is = is
  rest_full (Kill seat row) past is = is
  rest_full (OpenScan seat query) past is = is
  rest_full (CloseScan seat rows) past is = is
  rest_full (OpenVacuum seat) past is = is
  rest_full (Sweep seat row) past is = is
  rest_full (CloseVacuum seat swept) past is = is
  rest_full (Leave seat) past is = is
  rest_full (Drop seat row cause.Given) past is = is
  rest_full (Drop seat row cause.Full) past is = refl
  rest_full (Drop seat row cause.Clock) past is = is

  rest_clock : (e : Event O Key Recon Cond) (past : History O Key Recon Cond) → was_clock past ≡ true → was_clock (e ∷ past) ≡ true
  rest_clock (OpenInsert seat row key) past is = is
  rest_clock (Put seat row) past is = is
  rest_clock (Kill seat row) past is = is
  rest_clock (OpenScan seat query) past is = is
  rest_clock (CloseScan seat rows) past is = is
  rest_clock (OpenVacuum seat) past is = is
  rest_clock (Sweep seat row) past is = is
  rest_clock (CloseVacuum seat swept) past is = is
  rest_clock (Leave seat) past is = is
  rest_clock (Drop seat row cause.Given) past is = is
  rest_clock (Drop seat row cause.Full) past is = is
  rest_clock (Drop seat row cause.Clock) past is = refl

  full_has : (seat : ℕ) (row : RowAt) (past : History O Key Recon Cond) → Has (Drop seat row cause.Full) past → was_full past ≡ true
  full_has seat row [] has = absurd has
  full_has seat row (e ∷ past) (inl same) = ap (λ (x : Event O Key Recon Cond). was_full (x ∷ past)) same
  full_has seat row (e ∷ past) (inr later) = rest_full e past (full_has seat row past later)

  clock_has : (seat : ℕ) (row : RowAt) (past : History O Key Recon Cond) → Has (Drop seat row cause.Clock) past → was_clock past ≡ true
  clock_has seat row [] has = absurd has
  clock_has seat row (e ∷ past) (inl same) = ap (λ (x : Event O Key Recon Cond). was_clock (x ∷ past)) same
  clock_has seat row (e ∷ past) (inr later) = rest_clock e past (clock_has seat row past later)

  module _ (speech : Speech Key Cond) (limit : ℕ) (S : Sheets) (past : History O Key Recon Cond) (tells : TellDrops limit S past) where
    caused_one : (t : Task) (before : History O Key Recon Cond) (events : List (Event O Key Recon Cond)) (o : Outcome) → ((e : Event O Key Recon Cond) → Has e events → Has e past) → Does speech t before events o → IsCaused limit S o
    caused_one t before events outcome.Full among does = from_insert _ (IsCaused limit S outcome.Full) t.command
        (λ row key is. tells.0 (full_has t.seat row past (among (Drop t.seat row cause.Full) (subst (Has (Drop t.seat row cause.Full)) (sym is.2) (inr (inl refl)))))) does
    caused_one t before events outcome.ClockFull among does = from_insert _ (IsCaused limit S outcome.ClockFull) t.command
        (λ row key is. tells.1 (clock_has t.seat row past (among (Drop t.seat row cause.Clock) (subst (Has (Drop t.seat row cause.Clock)) (sym is.2) (inr (inl refl)))))) does
    caused_one t before events o among does = tt

    -- where the pages show why inserts were given up, they show why commands had these outcomes
    pub caused_each : (journal : List (Event O Key Recon Cond)) (tasks : List Task) (records : List Record) → ((e : Event O Key Recon Cond) → Has e journal → Has e past) → AllZip (Did speech journal) tasks records
        → AllByRecursion (λ (r : Record). IsCaused limit S r.outcome) records
    caused_each journal [] [] among did = tt
    caused_each journal [] (r ∷ records) among did = absurd did
    caused_each journal (t ∷ tasks) [] among did = absurd did
    caused_each journal (t ∷ tasks) (r ∷ records) among did = (
      caused_one t (past_at r.span.from journal) (own t.seat (between r.span.from r.span.to journal)) r.outcome
          (λ e has. among e (has_drop e r.span.from journal (has_take e (r.span.to - r.span.from) (drop r.span.from journal) (has_own e t.seat (between r.span.from r.span.to journal) has)))) did.0.does,
      caused_each journal tasks records among did.1,
    )
