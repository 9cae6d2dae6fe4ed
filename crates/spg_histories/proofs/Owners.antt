-- What the owner of an event says of it.
use Rattle.std.proofs.Common.{◌≡◌, ◌⊎◌, inl, inr, ◌<◌, ◌≤◌, ◌+◌, ◌-◌, ◌*◌, ℕ, Bool, not, List, [], ◌∷◌, ◌++◌, length, Option, Some, refl, sym, ap, ◌∙◌, subst, arith}
use Rattle.std.specs.Prelude.{slice_get, map, IsSomeAnd}
use Rattle.std.specs.List.{AllByRecursion, AllZip}
use Rattle.std.proofs.lemmas.Option.{same_Some, slice_get_within}
use Rattle.std.proofs.lemmas.Bool.{cases_lt}
use Rattle.spg_base.specs.Row.{RowAt}
use Rattle.spg_rows.specs.declared.event.Event.{Event}
use Rattle.spg_rows.specs.declared.event.Event.TheVariants.{OpenInsert, Put, Drop, Kill, OpenScan, CloseScan, OpenVacuum, Sweep, CloseVacuum, Leave}
use Rattle.spg_rows.specs.declared.event.Why.{Why}
use Rattle.spg_rows.specs.declared.event.Why.TheVariants as cause
use Rattle.spg_rows.specs.History.{History, seat_of, own}
use Rattle.spg_script.specs.declared.any_key.AnyKey.{AnyKey}
use Rattle.spg_script.specs.declared.any_query.AnyQuery.{AnyQuery}
use Rattle.spg_script.specs.declared.any_query.AnyQuery.TheVariants.{All}
use Rattle.spg_script.specs.declared.command.Command.{Command}
use Rattle.spg_script.specs.declared.command.Command.TheVariants as asked
use Rattle.spg_script.specs.declared.key_form.KeyForm.{KeyForm}
use Rattle.spg_script.specs.Blocks.{Part}
use Rattle.spg_script.specs.Speech.{Speech, SpeaksAsPrinted}
use Rattle.spg_script.specs.Laws.{IsCommand, IsKeyOrNull, IsQuery}
use Rattle.spg_report.specs.declared.outcome.Outcome.{Outcome}
use Rattle.spg_report.specs.declared.outcome.Outcome.TheVariants as outcome
use Rattle.spg_report.specs.declared.record.Record.{Record}
use Rattle.spg_report.specs.Text.{text}
use Rattle.spg_report.specs.Told.{told, IsNamed, CanBePrinted}
use Rattle.spg_report.proofs.Wholes.{text_tells}
use Rattle.spg_script.specs.Line.{keys_of}
use Rattle.spg_script.specs.Script.{AreCommands}
use Rattle.spg_script.proofs.Tidy.{script_tidy}
use Rattle.spg_histories.specs.Tasks.{Task, lane_tasks, lanes_tasks, parts_tasks, tasks_of}
use Rattle.spg_histories.specs.Run.{Does, GivesUp, Inserts, Scans, Sweeps, past_at, between, IsBySeat, Did, IsOwned, Entry, load_events, RunOf}
use Rattle.spg_histories.specs.Exact.{FitsTypes, RunFits, IsNamedEntry, TextSaysAll, ScriptSaysAll}
use Rattle.spg_histories.proofs.Lists.{get-between, get-left, at_each, each_at, same_at, map_at, map_long, own_at}

-- the cause of a drop, and the rows of a close, by the outcome of their command
abbrev why_of : Outcome → Why
why_of outcome.Added = cause.Given
why_of outcome.RowUsed = cause.Given
why_of (outcome.RowHeld by) = cause.Given
why_of outcome.Full = cause.Full
why_of outcome.ClockFull = cause.Clock
why_of outcome.Killed = cause.Given
why_of outcome.NotLive = cause.Given
why_of (outcome.Found rows walk) = cause.Given
why_of (outcome.Vacuumed n) = cause.Given
why_of (outcome.OpenBy seat) = cause.Given
why_of (outcome.Saved pages) = cause.Given
why_of outcome.ImageFault = cause.Given
why_of (outcome.Stat counts) = cause.Given
why_of (outcome.Near rows walk) = cause.Given
why_of outcome.Memory = cause.Given

abbrev rows_of : Outcome → List RowAt
rows_of outcome.Added = []
rows_of outcome.RowUsed = []
rows_of (outcome.RowHeld by) = []
rows_of outcome.Full = []
rows_of outcome.ClockFull = []
rows_of outcome.Killed = []
rows_of outcome.NotLive = []
rows_of (outcome.Found rows walk) = rows
rows_of (outcome.Vacuumed n) = []
rows_of (outcome.OpenBy seat) = []
rows_of (outcome.Saved pages) = []
rows_of outcome.ImageFault = []
rows_of (outcome.Stat counts) = []
rows_of (outcome.Near rows walk) = []
rows_of outcome.Memory = []

-- ---- the load

pub load_long : (O Key Recon Cond : Type 0) (loaded : List (Entry Key)) → length (load_events {O = O} {Recon = Recon} {Cond = Cond} loaded) ≡ 2 * length loaded
load_long O Key Recon Cond [] = refl
load_long O Key Recon Cond (x ∷ loaded) = omega (arith, load_long O Key Recon Cond loaded)

load_named : (O Key Recon Cond : Type 0) (keys : KeyForm) (speech : Speech Key Cond) (loaded : List (Entry Key)) → AllByRecursion (IsNamedEntry keys speech) loaded
    → AllByRecursion (IsNamed keys speech) (load_events {O = O} {Recon = Recon} {Cond = Cond} loaded)
load_named O Key Recon Cond keys speech [] are = tt
load_named O Key Recon Cond keys speech (x ∷ loaded) are = (are.0, (tt, load_named O Key Recon Cond keys speech loaded are.1))

pub as_long : {A B : Type 0} (R : A → B → Type 0) (xs : List A) (ys : List B) → AllZip R xs ys → length xs ≡ length ys
as_long R [] [] all = refl
as_long R [] (y ∷ ys) all = absurd all
as_long R (x ∷ xs) [] all = absurd all
as_long R (x ∷ xs) (y ∷ ys) all = omega (arith, as_long R xs ys all.1)

module _ {O Key Recon Cond : Type 0} where
  abbrev whole : Outcome → Event O Key Recon Cond → Event O Key Recon Cond
  whole o (OpenInsert seat row key) = OpenInsert seat row key
  whole o (Put seat row) = Put seat row
  whole o (Drop seat row why) = Drop seat row (why_of o)
  whole o (Kill seat row) = Kill seat row
  whole o (OpenScan seat query) = OpenScan seat query
  whole o (CloseScan seat rows) = CloseScan seat (rows_of o)
  whole o (OpenVacuum seat) = OpenVacuum seat
  whole o (Sweep seat row) = Sweep seat row
  whole o (CloseVacuum seat swept) = CloseVacuum seat swept
  whole o (Leave seat) = Leave seat

  whole_told : (o : Outcome) (e : Event O Key Recon Cond) → whole o (told e) ≡ whole o e
  whole_told o (OpenInsert seat row key) = refl
  whole_told o (Put seat row) = refl
  whole_told o (Drop seat row why) = refl
  whole_told o (Kill seat row) = refl
  whole_told o (OpenScan seat query) = refl
  whole_told o (CloseScan seat rows) = refl
  whole_told o (OpenVacuum seat) = refl
  whole_told o (Sweep seat row) = refl
  whole_told o (CloseVacuum seat swept) = refl
  whole_told o (Leave seat) = refl

  seat_told : (e : Event O Key Recon Cond) → seat_of (told e) ≡ seat_of e
  seat_told (OpenInsert seat row key) = refl
  seat_told (Put seat row) = refl
  seat_told (Drop seat row why) = refl
  seat_told (Kill seat row) = refl
  seat_told (OpenScan seat query) = refl
  seat_told (CloseScan seat rows) = refl
  seat_told (OpenVacuum seat) = refl
  seat_told (Sweep seat row) = refl
  seat_told (CloseVacuum seat swept) = refl
  seat_told (Leave seat) = refl

  module _ (keys : KeyForm) (speech : Speech Key Cond) where
    -- what the owner says: the cause and the rows, and the name of the key or the query
    record IsSaid (o : Outcome) (e : Event O Key Recon Cond) : Type 0 where
      same : whole o e ≡ e
      named : IsNamed keys speech e

    sweeps_said : (o : Outcome) (seat : ℕ) (rows : List RowAt) (last : Event O Key Recon Cond) → IsSaid o last → AllByRecursion (IsSaid o) (map (λ r. Sweep seat r) rows ++ last ∷ [])
    sweeps_said o seat [] last is = (is, tt)
    sweeps_said o seat (r ∷ rows) last is = (record { same = refl; named = tt }, sweeps_said o seat rows last is)

    said_none : (o : Outcome) (events : List (Event O Key Recon Cond)) → events ≡ [] → AllByRecursion (IsSaid o) events
    said_none o events is = subst (AllByRecursion (IsSaid o)) (sym is) tt

    said_insert : (o : Outcome) (seat : ℕ) (row : RowAt) (key : Option AnyKey) (last : Event O Key Recon Cond) (events : List (Event O Key Recon Cond)) → IsKeyOrNull keys key → IsSaid o last
        → Inserts speech seat row key (last ∷ []) events → AllByRecursion (IsSaid o) events
    said_insert o seat row key last events is says (k, is_in, all) =
        let first : IsSaid o (OpenInsert seat row k) = record { same = refl; named = (key, is_in, is) } in
        subst (AllByRecursion (IsSaid o)) (sym all) (first, (says, tt))

    said_scan : (o : Outcome) (seat : ℕ) (query : AnyQuery) (last : Event O Key Recon Cond) (events : List (Event O Key Recon Cond)) → IsQuery keys query → IsSaid o last
        → Scans speech seat query last events → AllByRecursion (IsSaid o) events
    said_scan o seat query last events is says (q, is_in, all) =
        let first : IsSaid o (OpenScan seat q) = record { same = refl; named = (query, is_in, is) } in
        subst (AllByRecursion (IsSaid o)) (sym all) (first, (says, tt))

    said_vacuum : (o : Outcome) (seat n : ℕ) (last : Event O Key Recon Cond) (events : List (Event O Key Recon Cond)) → IsSaid o last → Sweeps speech seat n last events → AllByRecursion (IsSaid o) events
    said_vacuum o seat n last events says (rows, long, all) = subst (AllByRecursion (IsSaid o)) (sym all) (record { same = refl; named = tt }, sweeps_said o seat rows last says)

    said_up : (seat : ℕ) (events : List (Event O Key Recon Cond)) (c : Command) → IsCommand keys c → GivesUp speech seat events c → AllByRecursion (IsSaid outcome.Memory) events
    said_up seat events (asked.Insert row key) is up = said_insert outcome.Memory seat row key (Drop seat row cause.Given) events is.1 (record { same = refl; named = tt }) up
    said_up seat events (asked.Delete row) is up = absurd up
    said_up seat events (asked.Find query) is up = said_scan outcome.Memory seat query (Leave seat) events is (record { same = refl; named = tt }) up
    said_up seat events asked.Vacuum is up = said_vacuum outcome.Memory seat up.0 (Leave seat) events (record { same = refl; named = tt }) up.1
    said_up seat events (asked.Save name) is up = absurd up
    said_up seat events asked.Stat is up = absurd up
    said_up seat events (asked.Near target limit) is up = said_scan outcome.Memory seat All (Leave seat) events tt (record { same = refl; named = tt }) up

    said_by : (block seat : ℕ) (alone : Bool) (before : History O Key Recon Cond) (events : List (Event O Key Recon Cond)) (c : Command) (o : Outcome) → IsCommand keys c
        → Does speech (record { block = block; seat = seat; alone = alone; command = c }) before events o → AllByRecursion (IsSaid o) events
    said_by block seat alone before events (asked.Insert row key) outcome.Added is does = said_insert outcome.Added seat row key (Put seat row) events is.1 (record { same = refl; named = tt }) does
    said_by block seat alone before events (asked.Insert row key) outcome.RowUsed is does = said_none outcome.RowUsed events does.1
    said_by block seat alone before events (asked.Insert row key) (outcome.RowHeld by) is does = said_none (outcome.RowHeld by) events does.1
    said_by block seat alone before events (asked.Insert row key) outcome.Full is does = said_insert outcome.Full seat row key (Drop seat row cause.Full) events is.1 (record { same = refl; named = tt }) does
    said_by block seat alone before events (asked.Insert row key) outcome.ClockFull is does = said_insert outcome.ClockFull seat row key (Drop seat row cause.Clock) events is.1 (record { same = refl; named = tt }) does
    said_by block seat alone before events (asked.Delete row) outcome.Killed is does = subst (AllByRecursion (IsSaid outcome.Killed)) (sym does) (record { same = refl; named = tt }, tt)
    said_by block seat alone before events (asked.Delete row) outcome.NotLive is does = said_none outcome.NotLive events does.1
    said_by block seat alone before events (asked.Find query) (outcome.Found rows walk) is does = said_scan (outcome.Found rows walk) seat query (CloseScan seat rows) events is (record { same = refl; named = tt }) does.0
    said_by block seat alone before events asked.Vacuum (outcome.Vacuumed n) is does = said_vacuum (outcome.Vacuumed n) seat n (CloseVacuum seat n) events (record { same = refl; named = tt }) does
    said_by block seat alone before events asked.Vacuum (outcome.OpenBy other) is does = said_none (outcome.OpenBy other) events does.1
    said_by block seat alone before events (asked.Save name) (outcome.Saved pages) is does = said_none (outcome.Saved pages) events does
    said_by block seat alone before events (asked.Save name) outcome.ImageFault is does = said_none outcome.ImageFault events does
    said_by block seat alone before events asked.Stat (outcome.Stat counts) is does = said_none (outcome.Stat counts) events does
    said_by block seat alone before events (asked.Near target limit) (outcome.Near rows walk) is does = said_scan (outcome.Near rows walk) seat All (Leave seat) events tt (record { same = refl; named = tt }) does.0
    said_by block seat alone before events c outcome.Memory is (inl none) = said_none outcome.Memory events none
    said_by block seat alone before events c outcome.Memory is (inr up) = said_up seat events c is up
    said_by block seat alone before events c o is does = absurd does

    said_does : (t : Task) (before : History O Key Recon Cond) (events : List (Event O Key Recon Cond)) (o : Outcome) → IsCommand keys t.command → Does speech t before events o → AllByRecursion (IsSaid o) events
    said_does t before events o is does = said_by t.block t.seat t.alone before events t.command o is does

    -- an event that a command owns is as its outcome says
    said_owned : (journal : List (Event O Key Recon Cond)) (t : Task) (r : Record) (at : ℕ) (e : Event O Key Recon Cond) → IsCommand keys t.command → Did speech journal t r → r.span.from ≤ at → at < r.span.to
        → slice_get journal at ≡ Some e → seat_of e ≡ t.seat → IsSaid r.outcome e
    said_owned journal t r at e is did from to there by =
        own_at (IsSaid r.outcome) t.seat (between r.span.from r.span.to journal) (at - r.span.from) e
        (said_does t (past_at r.span.from journal) (own t.seat (between r.span.from r.span.to journal)) r.outcome is did.does)
        (get-between r.span.from r.span.to journal at from to ∙ there) by

    seat_there : (journal : List (Event O Key Recon Cond)) (seat at : ℕ) (e : Event O Key Recon Cond) → IsBySeat seat journal at → slice_get journal at ≡ Some e → seat_of e ≡ seat
    seat_there journal seat at e by there = subst (λ (o : Option (Event O Key Recon Cond)). IsSomeAnd o (λ x. seat_of x ≡ seat)) there by

    -- each event of a command is named
    named_owned : (journal : List (Event O Key Recon Cond)) (tasks : List Task) (records : List Record) (at : ℕ) (e : Event O Key Recon Cond) → AllByRecursion (λ t. IsCommand keys t.command) tasks
        → AllZip (Did speech journal) tasks records → IsOwned journal at tasks records → slice_get journal at ≡ Some e → IsNamed keys speech e
    named_owned journal [] records at e are each owned there = absurd owned
    named_owned journal (t ∷ tasks) [] at e are each owned there = absurd owned
    named_owned journal (t ∷ tasks) (r ∷ records) at e are each (inl owns) there = (said_owned journal t r at e are.0 each.0 owns.from owns.to there (seat_there journal t.seat at e owns.by_seat there)).named
    named_owned journal (t ∷ tasks) (r ∷ records) at e are each (inr later) there = named_owned journal tasks records at e are.1 each.1 later there

    -- two events that tell the same, of one command, are one
    same_owned : (journal journal2 : List (Event O Key Recon Cond)) (tasks : List Task) (records : List Record) (at : ℕ) (e f : Event O Key Recon Cond) → AllByRecursion (λ t. IsCommand keys t.command) tasks
        → AllZip (Did speech journal) tasks records → AllZip (Did speech journal2) tasks records → IsOwned journal at tasks records → slice_get journal at ≡ Some e → slice_get journal2 at ≡ Some f → told e ≡ told f → e ≡ f
    same_owned journal journal2 [] records at e f are each each2 owned there there2 same = absurd owned
    same_owned journal journal2 (t ∷ tasks) [] at e f are each each2 owned there there2 same = absurd owned
    same_owned journal journal2 (t ∷ tasks) (r ∷ records) at e f are each each2 (inl owns) there there2 same =
        let by : seat_of e ≡ t.seat = seat_there journal t.seat at e owns.by_seat there in
        let by2 : seat_of f ≡ t.seat = sym (seat_told f) ∙ sym (ap seat_of same) ∙ seat_told e ∙ by in
        let one = said_owned journal t r at e are.0 each.0 owns.from owns.to there by in
        let two = said_owned journal2 t r at f are.0 each2.0 owns.from owns.to there2 by2 in
        sym one.same ∙ sym (whole_told r.outcome e) ∙ ap (whole r.outcome) same ∙ whole_told r.outcome f ∙ two.same
    same_owned journal journal2 (t ∷ tasks) (r ∷ records) at e f are each each2 (inr later) there there2 same = same_owned journal journal2 tasks records at e f are.1 each.1 each2.1 later there there2 same

    -- ---- two runs

    module _ (law : SpeaksAsPrinted speech) (loaded : List (Entry Key)) (tasks : List Task) (named : AllByRecursion (IsNamedEntry keys speech) loaded) (are : AllByRecursion (λ t. IsCommand keys t.command) tasks) where
      loaded_at : (journal : List (Event O Key Recon Cond)) (records : List Record) → RunOf speech loaded tasks journal records → (at : ℕ) → at < 2 * length loaded → slice_get journal at ≡ slice_get (load_events loaded) at
      loaded_at journal records run at below = ap (λ l. slice_get l at) run.begins.1 ∙ get-left (load_events loaded) run.begins.0 at (omega (arith, load_long O Key Recon Cond loaded))

      named_at : (journal : List (Event O Key Recon Cond)) (records : List Record) → RunOf speech loaded tasks journal records → (at : ℕ) (e : Event O Key Recon Cond) → slice_get journal at ≡ Some e → (at < 2 * length loaded) ⊎ (2 * length loaded ≤ at) → at < length journal → IsNamed keys speech e
      named_at journal records run at e there (inl below) within = at_each (IsNamed keys speech) (load_events loaded) at e (load_named O Key Recon Cond keys speech loaded named) (sym (loaded_at journal records run at below) ∙ there)
      named_at journal records run at e there (inr above) within = named_owned journal tasks records at e are run.each (run.covered at above within) there

      printed : (journal : List (Event O Key Recon Cond)) (records : List Record) → RunFits journal records → RunOf speech loaded tasks journal records → AllByRecursion (CanBePrinted keys speech) journal
      printed journal records fits run = each_at (CanBePrinted keys speech) journal (λ at e there.
          let types = at_each FitsTypes journal at e fits.events there in
          record { seat = types.seat; fits = types.fits; named = named_at journal records run at e there (cases_lt at (2 * length loaded)) (slice_get_within journal at e there) })

      same_event : (journal journal2 : List (Event O Key Recon Cond)) (records : List Record) → RunOf speech loaded tasks journal records → RunOf speech loaded tasks journal2 records → (at : ℕ) (e f : Event O Key Recon Cond)
          → slice_get journal at ≡ Some e → slice_get journal2 at ≡ Some f → told e ≡ told f → at < length journal → (at < 2 * length loaded) ⊎ (2 * length loaded ≤ at) → e ≡ f
      same_event journal journal2 records run run2 at e f there there2 same within (inl below) =
          same_Some e f (sym there ∙ loaded_at journal records run at below ∙ sym (loaded_at journal2 records run2 at below) ∙ there2)
      same_event journal journal2 records run run2 at e f there there2 same within (inr above) =
          same_owned journal journal2 tasks records at e f are run.each run2.each (run.covered at above within) there there2 same

      says_all : (journal journal2 : List (Event O Key Recon Cond)) (records records2 : List Record) → RunFits journal records → RunFits journal2 records2 → RunOf speech loaded tasks journal records → RunOf speech loaded tasks journal2 records2
          → text speech journal records ≡ text speech journal2 records2 → (journal ≡ journal2) × (records ≡ records2)
      says_all journal journal2 records records2 fits fits2 run run2 same =
          let many : length records ≡ length records2 = sym (as_long (Did speech journal) tasks records run.each) ∙ as_long (Did speech journal2) tasks records2 run2.each in
          let tells = text_tells keys speech law journal journal2 records records2 many fits.few fits.short fits2.short fits.records_fit fits2.records_fit (printed journal records fits run) (printed journal2 records2 fits2 run2) same in
          let run3 : RunOf speech loaded tasks journal2 records = subst (λ (rs : List Record). RunOf speech loaded tasks journal2 rs) (sym tells.0) run2 in (
            same_at journal journal2 (map_long told journal journal2 tells.1) (λ at e f there there2.
                same_event journal journal2 records run run3 at e f there there2 (map_at told journal journal2 tells.1 at e f there there2) (slice_get_within journal at e there) (cases_lt at (2 * length loaded))),
            tells.0,
          )

pub exact : (O Key Recon Cond : Type 0) → TextSaysAll O Key Recon Cond
exact O Key Recon Cond keys speech law loaded tasks named are = says_all keys speech law loaded tasks named are

-- ---- the commands of a script

tasks_append : (P : Task → Type 0) (xs ys : List Task) → AllByRecursion P xs → AllByRecursion P ys → AllByRecursion P (xs ++ ys)
tasks_append P [] ys each more = more
tasks_append P (x ∷ xs) ys each more = (each.0, tasks_append P xs ys each.1 more)

lane_commands : (keys : KeyForm) (block seat : ℕ) (alone : Bool) (lane : List Command) → AllByRecursion (IsCommand keys) lane → AllByRecursion (λ t. IsCommand keys t.command) (lane_tasks block seat alone lane)
lane_commands keys block seat alone [] each = tt
lane_commands keys block seat alone (c ∷ lane) each = (each.0, lane_commands keys block seat alone lane each.1)

lanes_commands : (keys : KeyForm) (block seat : ℕ) (alone : Bool) (lanes : List (List Command)) → AllByRecursion (AllByRecursion (IsCommand keys)) lanes → AllByRecursion (λ t. IsCommand keys t.command) (lanes_tasks block seat alone lanes)
lanes_commands keys block seat alone [] each = tt
lanes_commands keys block seat alone (lane ∷ lanes) each =
    tasks_append (λ t. IsCommand keys t.command) (lane_tasks block seat alone lane) (lanes_tasks block (seat + 1) alone lanes) (lane_commands keys block seat alone lane each.0) (lanes_commands keys block (seat + 1) alone lanes each.1)

parts_commands : (keys : KeyForm) (block : ℕ) (parts : List Part) → AreCommands keys parts → AllByRecursion (λ t. IsCommand keys t.command) (parts_tasks block parts)
parts_commands keys block [] each = tt
parts_commands keys block (p ∷ parts) each =
    tasks_append (λ t. IsCommand keys t.command) (lanes_tasks block 0 (not p.together) p.lanes) (parts_tasks (block + 1) parts) (lanes_commands keys block 0 (not p.together) p.lanes each.0) (parts_commands keys (block + 1) parts each.1)

pub script_exact : (O Key Recon Cond : Type 0) → ScriptSaysAll O Key Recon Cond
script_exact O Key Recon Cond speech law bytes script are is loaded named =
    says_all (keys_of script.class) speech law loaded (tasks_of script) named (parts_commands (keys_of script.class) 0 script.parts (script_tidy bytes script are is).commands)
