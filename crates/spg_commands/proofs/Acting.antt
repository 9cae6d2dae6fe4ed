-- One command of a seat: from its events and its outcome to all that is said of it.
use Rattle.std.proofs.Common.{◌≡◌, ℕ, Bool, true, List, [], ◌++◌, length, reverse, sym, ap, ◌∙◌, subst, arith}
use Rattle.std.specs.List.{AllByRecursion}
use Rattle.std.proofs.lemmas.List.{append-nil}
use Rattle.spg_opclass.specs.Meaning.{Meaning}
use Rattle.spg_rows.specs.declared.event.Event.{Event}
use Rattle.spg_rows.specs.History.{seat_of}
use Rattle.spg_rows.specs.Rows.{present_count}
use Rattle.spg_tree.specs.Table.{Table, sheets_of}
use Rattle.spg_core.specs.Stage.{free}
use Rattle.spg_core.specs.Stepping.{Grows}
use Rattle.spg_core.specs.Seen.{Seen, stage_at, past_of}
use Rattle.spg_script.specs.declared.command.Command.{Command}
use Rattle.spg_script.specs.Speech.{Speech}
use Rattle.spg_report.specs.declared.outcome.Outcome.{Outcome}
use Rattle.spg_report.specs.declared.record.Record.{Record}
use Rattle.spg_histories.specs.Run.{Does}
use Rattle.spg_histories.specs.Telling.{TellsOf, LeafIs, is_quiet_command}
use Rattle.spg_histories.specs.Causes.{IsDue, IsCaused, GrewInto, PrintsPages}
use Rattle.spg_commands.specs.Acted.{Acts, task_of}

-- the record of what happened between two lengths of a journal
pub record Spans (r : Record) (outcome : Outcome) (from to : ℕ) : Type 0 where
  pub outcome_is : r.outcome ≡ outcome
  pub from_is : r.span.from ≡ from
  pub to_is : r.span.to ≡ to

-- pages that grow
pub grew_into : (t t2 : Table) → Grows t t2 → GrewInto (sheets_of t) (sheets_of t2)
grew_into t t2 grows = (grows.1, grows.2)

pub grew_as : (t t2 : Table) → sheets_of t2 ≡ sheets_of t → GrewInto (sheets_of t) (sheets_of t2)
grew_as t t2 same =
    let count : length t2.pages ≡ length t.pages = ap (λ S. length S.sheets) same in
    let clock : t2.clock ≡ t.clock = ap (λ S. S.clock) same in
    (omega arith, omega arith)

pub grew_then : (t t2 t3 : Table) → GrewInto (sheets_of t) (sheets_of t2) → GrewInto (sheets_of t2) (sheets_of t3) → GrewInto (sheets_of t) (sheets_of t3)
grew_then t t2 t3 first second = (omega (arith, first.0, second.0), omega (arith, first.1, second.1))

module _ {O Key Recon Cond : Type 0} (m : Meaning Key Recon Cond) (speech : Speech Key Cond) (s0 s1 : Seen O Key Recon Cond) (seat : ℕ) (alone : Bool) (c : Command) (outcome : Outcome) (r : Record) (spans : Spans r outcome (length s0.journal) (length s1.journal)) where
  pub acts : (events : List (Event O Key Recon Cond)) → s1.journal ≡ s0.journal ++ events → AllByRecursion (λ (e : Event O Key Recon Cond). seat_of e ≡ seat) events
      → ((block : ℕ) → Does speech (task_of block seat alone c) (reverse s0.journal) events outcome)
      → IsDue m s0.origin c (past_of s0) (past_of s1) outcome → IsCaused s0.origin.limit (sheets_of s1.table) outcome → GrewInto (sheets_of s0.table) (sheets_of s1.table) → s1.origin ≡ s0.origin
      → (is_quiet_command c ≡ true → sheets_of s1.table ≡ sheets_of s0.table) → (alone ≡ true → TellsOf O m speech (sheets_of s1.table) c outcome)
      → LeafIs (present_count (past_of s0)) outcome → PrintsPages (sheets_of s1.table) outcome → stage_at s1 seat ≡ free → Acts m speech s0 s1 seat alone c r
  acts events journal by_seat does due caused grew made quiet tells leaf prints idle = λ block. record {
    performed = record {
      events = events;
      journal = journal;
      by_seat = by_seat;
      from = spans.from_is;
      to = spans.to_is;
      does = subst (λ (o : Outcome). Does speech (task_of block seat alone c) (reverse s0.journal) events o) (sym spans.outcome_is) (does block);
    };
    due = subst (λ (o : Outcome). IsDue m s0.origin c (past_of s0) (past_of s1) o) (sym spans.outcome_is) due;
    caused = subst (λ (o : Outcome). IsCaused s0.origin.limit (sheets_of s1.table) o) (sym spans.outcome_is) caused;
    grew = grew;
    made = made;
    quiet = quiet;
    tells = λ is. subst (λ (o : Outcome). TellsOf O m speech (sheets_of s1.table) c o) (sym spans.outcome_is) (tells is);
    leaf = subst (λ (o : Outcome). LeafIs (present_count (past_of s0)) o) (sym spans.outcome_is) leaf;
    prints = subst (λ (o : Outcome). PrintsPages (sheets_of s1.table) o) (sym spans.outcome_is) prints;
    free = idle;
  }

  -- nothing was done
  pub rests : s1 ≡ s0 → stage_at s0 seat ≡ free → ((block : ℕ) → Does {O = O} {Key = Key} {Recon = Recon} {Cond = Cond} speech (task_of block seat alone c) (reverse s0.journal) [] outcome)
      → IsDue m s0.origin c (past_of s0) (past_of s1) outcome → IsCaused s0.origin.limit (sheets_of s1.table) outcome → (alone ≡ true → TellsOf O m speech (sheets_of s1.table) c outcome)
      → LeafIs (present_count (past_of s0)) outcome → PrintsPages (sheets_of s1.table) outcome → Acts m speech s0 s1 seat alone c r
  rests same idle does due caused tells leaf prints =
      acts [] (ap (λ (s : Seen O Key Recon Cond). s.journal) same ∙ sym (append-nil s0.journal)) tt does due caused (grew_as s0.table s1.table (ap (λ (s : Seen O Key Recon Cond). sheets_of s.table) same)) (ap (λ (s : Seen O Key Recon Cond). s.origin) same)
      (λ q. ap (λ (s : Seen O Key Recon Cond). sheets_of s.table) same) tells leaf prints (ap (λ (s : Seen O Key Recon Cond). stage_at s seat) same ∙ idle)
