-- The commands of a pair one after another.
use Rattle.std.proofs.Common.{◌≡◌, ◌≢◌, ◌≤◌, ◌+◌, ℕ, Bool, true, false, not, cond, List, [], ◌∷◌, ◌++◌, length, take, reverse, Option, refl, sym, ap, ◌∙◌, subst, arith, append-nil, length-append}
use Rattle.std.specs.List.{AllZip}
use Rattle.std.proofs.lemmas.List.{append_assoc, take_at, take_all, take-append-le, length-take-le}
use Rattle.spg_base.specs.Row.{RowAt}
use Rattle.spg_base.specs.declared.names.Span.{Span}
use Rattle.spg_base.specs.declared.recorded.Origin.{Origin}
use Rattle.spg_opclass.specs.Meaning.{Meaning}
use Rattle.spg_rows.specs.declared.event.Event.{Event}
use Rattle.spg_rows.specs.History.{History}
use Rattle.spg_rows.specs.Right.{ScanRight}
use Rattle.spg_tree.specs.Table.{sheets_of}
use Rattle.spg_calls.specs.Calls.{past_at}
use Rattle.spg_core.specs.Seen.{Seen, past_of}
use Rattle.spg_script.specs.declared.any_query.AnyQuery.{AnyQuery}
use Rattle.spg_script.specs.declared.command.Command.{Command}
use Rattle.spg_script.specs.declared.command.Command.TheVariants as asked
use Rattle.spg_script.specs.Speech.{Speech}
use Rattle.spg_report.specs.declared.outcome.Outcome.{Outcome}
use Rattle.spg_report.specs.declared.outcome.Outcome.TheVariants as outcome
use Rattle.spg_report.specs.declared.record.Record.{Record}
use Rattle.spg_histories.specs.Tasks.{Task}
use Rattle.spg_histories.specs.Run.{RunOf}
use Rattle.spg_histories.specs.Causes.{IsDue, IsDueIn, IsCaused, Causes, CausesGrow}
use Rattle.spg_histories.specs.Ending.{is_memory}
use Rattle.spg_histories.proofs.Blocks.{run_goes_on, alone_block, zip_append}
use Rattle.spg_histories.proofs.Causes.{causes_grow}
use Rattle.spg_commands.specs.Acted.{Acted, task_of}
use Rattle.spg_commands.proofs.Next.{IsNext, up_to_next}
use Rattle.spg_standby.specs.Finding.{IsBehind}
use Rattle.spg_standby.specs.Twin.{Twin}
use Rattle.spg_mirror.specs.Mirrored.{is_find, commands_tasks, unless_find, writes_in, write_records, IsToldAs, IsFound, IsGivenUp, FindsBy, IsAnswered, AreAnswered, made_with, Mirrored, Writes, Searches, DoesOn, at_behind, kept_behind, SoFar, LeadsTo}

-- ---- one command more

pub tasks_more : (block : ℕ) (commands : List Command) (c : Command) → commands_tasks block (commands ++ c ∷ []) ≡ commands_tasks block commands ++ task_of (block + length commands) 0 true c ∷ []
tasks_more block [] c = ap (λ n. task_of n 0 true c ∷ []) (omega arith)
tasks_more block (d ∷ commands) c = ap (λ ts. task_of block 0 true d ∷ ts) (tasks_more (block + 1) commands c ∙ ap (λ n. commands_tasks (block + 1) commands ++ task_of n 0 true c ∷ []) (omega arith))

pub writes_more : (tasks : List Task) (t : Task) → writes_in (tasks ++ t ∷ []) ≡ writes_in tasks ++ unless_find t.command t
writes_more [] t = append-nil (unless_find t.command t)
writes_more (s ∷ tasks) t = ap (λ ts. unless_find s.command s ++ ts) (writes_more tasks t) ∙ sym (append_assoc (unless_find s.command s) (writes_in tasks) (unless_find t.command t))

pub records_more : (tasks : List Task) (records : List Record) (t : Task) (r : Record) → length records ≡ length tasks → write_records (tasks ++ t ∷ []) (records ++ r ∷ []) ≡ write_records tasks records ++ unless_find t.command r
records_more [] [] t r same = append-nil (unless_find t.command r)
records_more [] (x ∷ records) t r same = absurd (omega (arith, same))
records_more (s ∷ tasks) [] t r same = absurd (omega (arith, same))
records_more (s ∷ tasks) (x ∷ records) t r same = ap (λ rs. unless_find s.command x ++ rs) (records_more tasks records t r (omega (arith, same))) ∙ sym (append_assoc (unless_find s.command x) (write_records tasks records) (unless_find t.command r))

pub at_more : (at : ℕ) (tasks : List Task) (records : List Record) (t : Task) (r : Record) → length records ≡ length tasks → at_behind at (tasks ++ t ∷ []) (records ++ r ∷ []) ≡ cond (is_find t.command) (at_behind at tasks records) r.span.to
at_more at [] [] t r same = refl
at_more at [] (x ∷ records) t r same = absurd (omega (arith, same))
at_more at (s ∷ tasks) [] t r same = absurd (omega (arith, same))
at_more at (s ∷ tasks) (x ∷ records) t r same = at_more (cond (is_find s.command) at x.span.to) tasks records t r (omega (arith, same))

pub kept_more : (kept_up : Bool) (tasks : List Task) (records : List Record) (t : Task) (r : Record) → length records ≡ length tasks → kept_behind kept_up (tasks ++ t ∷ []) (records ++ r ∷ []) ≡ cond (is_find t.command) (kept_behind kept_up tasks records) (not (is_memory r.outcome))
kept_more kept_up [] [] t r same = refl
kept_more kept_up [] (x ∷ records) t r same = absurd (omega (arith, same))
kept_more kept_up (s ∷ tasks) [] t r same = absurd (omega (arith, same))
kept_more kept_up (s ∷ tasks) (x ∷ records) t r same = kept_more (cond (is_find s.command) kept_up (not (is_memory x.outcome))) tasks records t r (omega (arith, same))

-- ---- finds

module _ {O Key Recon Cond : Type 0} (m : Meaning Key Recon Cond) (speech : Speech Key Cond) (lag : ℕ) (journal : List (Event O Key Recon Cond)) where
  pub answered_more : (at : ℕ) (kept_up : Bool) (tasks : List Task) (records : List Record) (t : Task) (r : Record) → AreAnswered m speech lag journal at kept_up tasks records
      → IsAnswered m speech lag journal (at_behind at tasks records) (kept_behind kept_up tasks records) t.command r → AreAnswered m speech lag journal at kept_up (tasks ++ t ∷ []) (records ++ r ∷ [])
  answered_more at kept_up [] [] t r are is = (is, tt)
  answered_more at kept_up [] (x ∷ records) t r are is = absurd are
  answered_more at kept_up (s ∷ tasks) [] t r are is = absurd are
  answered_more at kept_up (s ∷ tasks) (x ∷ records) t r are is = (are.0, answered_more (cond (is_find s.command) at x.span.to) (cond (is_find s.command) kept_up (not (is_memory x.outcome))) tasks records t r are.1 is)

  module _ (more : List (Event O Key Recon Cond)) where
    past_then : (n : ℕ) → n ≤ length journal → past_at n (journal ++ more) ≡ past_at n journal
    past_then n low = ap reverse (take-append-le n journal more low)

    found_then : (at : ℕ) (kept_up : Bool) (query : AnyQuery) (span : Span) (rows : List RowAt) (walk : Option ℕ) → IsFound m speech lag journal at kept_up query span rows walk → IsFound m speech lag (journal ++ more) at kept_up query span rows walk
    found_then at kept_up query span rows walk is =
        let to_low : span.to ≤ length journal = omega (arith, is.before, is.within) in
        let from_low : span.from ≤ length journal = omega (arith, is.order, to_low) in
        record {
          asked = is.asked;
          named = is.named;
          right = subst (λ (p : History O Key Recon Cond). ScanRight m p (past_at span.to (journal ++ more)) is.asked rows) (sym (past_then span.from from_low))
              (subst (λ (p : History O Key Recon Cond). ScanRight m (past_at span.from journal) p is.asked rows) (sym (past_then span.to to_low)) is.right);
          order = is.order;
          before = is.before;
          within = omega (arith, is.within, length-append journal more);
          behind = λ kept. subst (λ (j : List (Event O Key Recon Cond)). IsBehind j span.from lag) (sym (take-append-le at journal more is.within)) (is.behind kept);
          untold = is.untold;
        }

    given_up_then : (at : ℕ) (kept_up : Bool) (span : Span) → IsGivenUp lag journal at kept_up span → IsGivenUp lag (journal ++ more) at kept_up span
    given_up_then at kept_up span is = record {
      order = is.order;
      before = is.before;
      within = omega (arith, is.within, length-append journal more);
      behind = λ kept. subst (λ (j : List (Event O Key Recon Cond)). IsBehind j span.from lag) (sym (take-append-le at journal more is.within)) (is.behind kept);
    }

    finds_then : (at : ℕ) (kept_up : Bool) (query : AnyQuery) (span : Span) (o : Outcome) → FindsBy m speech lag journal at kept_up query span o → FindsBy m speech lag (journal ++ more) at kept_up query span o
    finds_then at kept_up query span (outcome.Found rows walk) is = found_then at kept_up query span rows walk is
    finds_then at kept_up query span outcome.Memory is = given_up_then at kept_up span is
    finds_then at kept_up query span outcome.Added is = absurd is
    finds_then at kept_up query span outcome.RowUsed is = absurd is
    finds_then at kept_up query span (outcome.RowHeld by) is = absurd is
    finds_then at kept_up query span outcome.Full is = absurd is
    finds_then at kept_up query span outcome.ClockFull is = absurd is
    finds_then at kept_up query span outcome.Killed is = absurd is
    finds_then at kept_up query span outcome.NotLive is = absurd is
    finds_then at kept_up query span (outcome.Vacuumed n) is = absurd is
    finds_then at kept_up query span (outcome.OpenBy seat) is = absurd is
    finds_then at kept_up query span (outcome.Saved pages) is = absurd is
    finds_then at kept_up query span outcome.ImageFault is = absurd is
    finds_then at kept_up query span (outcome.Stat counts) is = absurd is
    finds_then at kept_up query span (outcome.Near rows walk) is = absurd is

    command_then : (at : ℕ) (kept_up : Bool) (c : Command) (r : Record) → IsAnswered m speech lag journal at kept_up c r → IsAnswered m speech lag (journal ++ more) at kept_up c r
    command_then at kept_up (asked.Find query) r is = finds_then at kept_up query r.span r.outcome is
    command_then at kept_up (asked.Insert row key) r is = tt
    command_then at kept_up (asked.Delete row) r is = tt
    command_then at kept_up asked.Vacuum r is = tt
    command_then at kept_up (asked.Save name) r is = tt
    command_then at kept_up asked.Stat r is = tt
    command_then at kept_up (asked.Near target limit) r is = tt

    pub answered_then : (at : ℕ) (kept_up : Bool) (tasks : List Task) (records : List Record) → AreAnswered m speech lag journal at kept_up tasks records → AreAnswered m speech lag (journal ++ more) at kept_up tasks records
    answered_then at kept_up [] [] are = tt
    answered_then at kept_up [] (x ∷ records) are = absurd are
    answered_then at kept_up (s ∷ tasks) [] are = absurd are
    answered_then at kept_up (s ∷ tasks) (x ∷ records) are = (
      command_then at kept_up s.command x are.0,
      answered_then (cond (is_find s.command) at x.span.to) (cond (is_find s.command) kept_up (not (is_memory x.outcome))) tasks records are.1,
    )

-- no find
pub no_find : {O Key Recon Cond : Type 0} (m : Meaning Key Recon Cond) (speech : Speech Key Cond) (lag : ℕ) (journal : List (Event O Key Recon Cond)) (at : ℕ) (kept_up : Bool) (c : Command) (r : Record) → is_find c ≡ false → IsAnswered m speech lag journal at kept_up c r
no_find m speech lag journal at kept_up (asked.Find query) r is = (cc)
no_find m speech lag journal at kept_up (asked.Insert row key) r is = tt
no_find m speech lag journal at kept_up (asked.Delete row) r is = tt
no_find m speech lag journal at kept_up asked.Vacuum r is = tt
no_find m speech lag journal at kept_up (asked.Save name) r is = tt
no_find m speech lag journal at kept_up asked.Stat r is = tt
no_find m speech lag journal at kept_up (asked.Near target limit) r is = tt

-- ---- one command more of a run

not_memory : (o : Outcome) → not (is_memory o) ≡ true → o ≢ outcome.Memory
not_memory o is same = let clash : not (is_memory outcome.Memory) ≡ true = subst (λ (x : Outcome). not (is_memory x) ≡ true) same is in (cc)

module _ {O Key Recon Cond : Type 0} (m : Meaning Key Recon Cond) (speech : Speech Key Cond) (limit lag : ℕ) (tasks : List Task) (p p2 : Twin O Key Recon Cond) (records : List Record) (so_far : SoFar m speech limit lag tasks p records) (block : ℕ) where
  -- ---- a write

  module _ (c : Command) (r : Record) (no : is_find c ≡ false) (W : Writes m speech p p2 c r) where
    abbrev t : Task
    t = task_of block 0 true c

    abbrev acted : Acted m speech p.primary p2.primary t W.came
    acted = W.acts block

    abbrev was : Mirrored m speech limit lag tasks p.primary records
    was = so_far.mirrored

    tasks_are : writes_in (tasks ++ t ∷ []) ≡ writes_in tasks ++ t ∷ []
    tasks_are = writes_more tasks t ∙ ap (λ (b : Bool). writes_in tasks ++ cond b [] (t ∷ [])) no

    records_are : write_records (tasks ++ t ∷ []) (records ++ r ∷ []) ≡ write_records tasks records ++ r ∷ []
    records_are = records_more tasks records t r so_far.count ∙ ap (λ (b : Bool). write_records tasks records ++ cond b [] (r ∷ [])) no

    run_on : RunOf speech [] (writes_in tasks ++ t ∷ []) p2.primary.journal (was.came ++ W.came ∷ [])
    run_on = run_goes_on speech [] p.primary.journal p2.primary.journal (writes_in tasks) (t ∷ []) was.came (W.came ∷ []) was.run (alone_block speech p.primary.journal p2.primary.journal t W.came acted.performed)

    abbrev longer : List (Event O Key Recon Cond)
    longer = p.primary.journal ++ acted.performed.events

    from_past : past_at W.came.span.from longer ≡ past_of p.primary
    from_past = ap reverse (take_at p.primary.journal acted.performed.events W.came.span.from (sym acted.performed.from))

    to_past : past_at W.came.span.to longer ≡ past_of p2.primary
    to_past = ap (past_at W.came.span.to) (sym acted.performed.journal) ∙ ap reverse (take_all W.came.span.to p2.primary.journal (omega (arith, acted.performed.to)))

    due_in : IsDueIn m (made_with limit) longer t W.came
    due_in =
        let due : IsDue m (made_with limit) c (past_of p.primary) (past_of p2.primary) W.came.outcome = subst (λ (o : Origin). IsDue m o c (past_of p.primary) (past_of p2.primary) W.came.outcome) was.made acted.due in
        subst (λ (h : History O Key Recon Cond). IsDue m (made_with limit) c h (past_at W.came.span.to longer) W.came.outcome) (sym from_past) (subst (λ (h : History O Key Recon Cond). IsDue m (made_with limit) c (past_of p.primary) h W.came.outcome) (sym to_past) due)

    causes_on : Causes m (made_with limit) (sheets_of p2.primary.table) p2.primary.journal (writes_in tasks ++ t ∷ []) (was.came ++ W.came ∷ [])
    causes_on =
        let law : CausesGrow O Key Recon Cond = causes_grow O Key Recon Cond in
        let caused : IsCaused limit (sheets_of p2.primary.table) W.came.outcome = subst (λ (o : Origin). IsCaused o.limit (sheets_of p2.primary.table) W.came.outcome) was.made acted.caused in
        subst (λ (j : List (Event O Key Recon Cond)). Causes m (made_with limit) (sheets_of p2.primary.table) j (writes_in tasks ++ t ∷ []) (was.came ++ W.came ∷ [])) (sym acted.performed.journal)
        (law.goes_on m speech (made_with limit) [] p.primary.journal acted.performed.events (sheets_of p.primary.table) (sheets_of p2.primary.table) (writes_in tasks) was.came t W.came was.run was.causes acted.grew due_in caused acted.prints)

    finds_on : AreAnswered m speech lag p2.primary.journal 0 true (tasks ++ t ∷ []) (records ++ r ∷ [])
    finds_on = answered_more m speech lag p2.primary.journal 0 true tasks records t r
        (subst (λ (j : List (Event O Key Recon Cond)). AreAnswered m speech lag j 0 true tasks records) (sym acted.performed.journal) (answered_then m speech lag p.primary.journal acted.performed.events 0 true tasks records was.finds))
        (no_find m speech lag p2.primary.journal (at_behind 0 tasks records) (kept_behind true tasks records) c r no)

    pub write_on : SoFar m speech limit lag (tasks ++ t ∷ []) p2 (records ++ r ∷ [])
    write_on = record {
      mirrored = record {
        came = was.came ++ W.came ∷ [];
        told = subst (λ (rs : List Record). AllZip IsToldAs (was.came ++ W.came ∷ []) rs) (sym records_are) (zip_append IsToldAs was.came (W.came ∷ []) (write_records tasks records) (r ∷ []) was.told (W.told, tt));
        run = subst (λ (ts : List Task). RunOf speech [] ts p2.primary.journal (was.came ++ W.came ∷ [])) (sym tasks_are) run_on;
        causes = subst (λ (ts : List Task). Causes m (made_with limit) (sheets_of p2.primary.table) p2.primary.journal ts (was.came ++ W.came ∷ [])) (sym tasks_are) causes_on;
        finds = finds_on;
        right = W.right;
        closed = W.closed;
        made = acted.made ∙ was.made;
      };
      count = omega (arith, so_far.count, length-append records (r ∷ []), length-append tasks (t ∷ []));
      at = at_more 0 tasks records t r so_far.count ∙ ap (λ (b : Bool). cond b (at_behind 0 tasks records) r.span.to) no ∙ ap (λ (s : Span). s.to) W.told.span ∙ acted.performed.to;
      lag_is = W.lag ∙ so_far.lag_is;
      queued = λ kept.
          let spoken : not (is_memory r.outcome) ≡ true = sym (kept_more true tasks records t r so_far.count ∙ ap (λ (b : Bool). cond b (kept_behind true tasks records) (not (is_memory r.outcome))) no) ∙ kept in
          subst (λ (n : ℕ). length p2.queue ≤ n) (W.lag ∙ so_far.lag_is) (W.kept_up (not_memory r.outcome spoken));
    }

  -- ---- a find

  module _ (query : AnyQuery) (r : Record) (S : Searches m speech p p2 query r) where
    abbrev f : Task
    f = task_of block 0 true (asked.Find query)

    abbrev had : Mirrored m speech limit lag tasks p.primary records
    had = so_far.mirrored

    behind_here : kept_behind true tasks records ≡ true → IsBehind (take (length p.primary.journal) p.primary.journal) r.span.from (length p.queue) → IsBehind (take (at_behind 0 tasks records) p.primary.journal) r.span.from lag
    behind_here kept b =
        let few : length p.queue ≤ lag = so_far.queued kept in
        subst (λ (n : ℕ). IsBehind (take n p.primary.journal) r.span.from lag) (sym so_far.at) (record { few = omega (arith, b.few, few); none = λ zero. b.none (omega (arith, few, zero)) })

    found_here : (rows : List RowAt) (walk : Option ℕ) → IsFound m speech (length p.queue) p.primary.journal (length p.primary.journal) true query r.span rows walk
        → IsFound m speech lag p.primary.journal (at_behind 0 tasks records) (kept_behind true tasks records) query r.span rows walk
    found_here rows walk is = record {
      asked = is.asked;
      named = is.named;
      right = is.right;
      order = is.order;
      before = subst (λ (n : ℕ). r.span.to ≤ n) (sym so_far.at) is.before;
      within = omega (arith, so_far.at);
      behind = λ kept. behind_here kept (is.behind refl);
      untold = is.untold;
    }

    given_up_here : IsGivenUp (length p.queue) p.primary.journal (length p.primary.journal) true r.span → IsGivenUp lag p.primary.journal (at_behind 0 tasks records) (kept_behind true tasks records) r.span
    given_up_here is = record {
      order = is.order;
      before = subst (λ (n : ℕ). r.span.to ≤ n) (sym so_far.at) is.before;
      within = omega (arith, so_far.at);
      behind = λ kept. behind_here kept (is.behind refl);
    }

    find_here : (o : Outcome) → FindsBy m speech (length p.queue) p.primary.journal (length p.primary.journal) true query r.span o → FindsBy m speech lag p.primary.journal (at_behind 0 tasks records) (kept_behind true tasks records) query r.span o
    find_here (outcome.Found rows walk) is = found_here rows walk is
    find_here outcome.Memory is = given_up_here is
    find_here outcome.Added is = absurd is
    find_here outcome.RowUsed is = absurd is
    find_here (outcome.RowHeld by) is = absurd is
    find_here outcome.Full is = absurd is
    find_here outcome.ClockFull is = absurd is
    find_here outcome.Killed is = absurd is
    find_here outcome.NotLive is = absurd is
    find_here (outcome.Vacuumed n) is = absurd is
    find_here (outcome.OpenBy seat) is = absurd is
    find_here (outcome.Saved pages) is = absurd is
    find_here outcome.ImageFault is = absurd is
    find_here (outcome.Stat counts) is = absurd is
    find_here (outcome.Near rows walk) is = absurd is

    same_tasks : writes_in (tasks ++ f ∷ []) ≡ writes_in tasks
    same_tasks = writes_more tasks f ∙ append-nil (writes_in tasks)

    same_records : write_records (tasks ++ f ∷ []) (records ++ r ∷ []) ≡ write_records tasks records
    same_records = records_more tasks records f r so_far.count ∙ append-nil (write_records tasks records)

    mirrored_still : Mirrored m speech limit lag (tasks ++ f ∷ []) p.primary (records ++ r ∷ [])
    mirrored_still = record {
      came = had.came;
      told = subst (λ (rs : List Record). AllZip IsToldAs had.came rs) (sym same_records) had.told;
      run = subst (λ (ts : List Task). RunOf speech [] ts p.primary.journal had.came) (sym same_tasks) had.run;
      causes = subst (λ (ts : List Task). Causes m (made_with limit) (sheets_of p.primary.table) p.primary.journal ts had.came) (sym same_tasks) had.causes;
      finds = answered_more m speech lag p.primary.journal 0 true tasks records f r had.finds (find_here r.outcome S.found);
      right = had.right;
      closed = had.closed;
      made = had.made;
    }

    pub find_on : SoFar m speech limit lag (tasks ++ f ∷ []) p2 (records ++ r ∷ [])
    find_on = record {
      mirrored = subst (λ (s : Seen O Key Recon Cond). Mirrored m speech limit lag (tasks ++ f ∷ []) s (records ++ r ∷ [])) (sym S.primary) mirrored_still;
      count = omega (arith, so_far.count, length-append records (r ∷ []), length-append tasks (f ∷ []));
      at = at_more 0 tasks records f r so_far.count ∙ so_far.at ∙ ap (λ (s : Seen O Key Recon Cond). length s.journal) (sym S.primary);
      lag_is = S.lag ∙ so_far.lag_is;
      queued = λ kept. let few : length p.queue ≤ lag = so_far.queued (sym (kept_more true tasks records f r so_far.count) ∙ kept) in omega (arith, few, S.queued);
    }

-- ---- any command

module _ {O Key Recon Cond : Type 0} (m : Meaning Key Recon Cond) (speech : Speech Key Cond) where
  pub does_on : (limit lag : ℕ) (tasks : List Task) (p p2 : Twin O Key Recon Cond) (records : List Record) → SoFar m speech limit lag tasks p records → (block : ℕ) (c : Command) (r : Record) → DoesOn m speech p p2 c r
      → SoFar m speech limit lag (tasks ++ task_of block 0 true c ∷ []) p2 (records ++ r ∷ [])
  does_on limit lag tasks p p2 records so_far block (asked.Insert row key) r does = write_on m speech limit lag tasks p p2 records so_far block (asked.Insert row key) r refl does
  does_on limit lag tasks p p2 records so_far block (asked.Delete row) r does = write_on m speech limit lag tasks p p2 records so_far block (asked.Delete row) r refl does
  does_on limit lag tasks p p2 records so_far block (asked.Find query) r does = find_on m speech limit lag tasks p p2 records so_far block query r does
  does_on limit lag tasks p p2 records so_far block asked.Vacuum r does = write_on m speech limit lag tasks p p2 records so_far block asked.Vacuum r refl does
  does_on limit lag tasks p p2 records so_far block (asked.Save name) r does = absurd does
  does_on limit lag tasks p p2 records so_far block asked.Stat r does = absurd does
  does_on limit lag tasks p p2 records so_far block (asked.Near target limit2) r does = absurd does

  -- the commands so far, and the next one
  pub leads_on : (p p1 p2 : Twin O Key Recon Cond) (none records later : List Record) (commands : List Command) (i : ℕ) (c : Command) (r : Record) → IsNext commands i c → later ≡ records ++ r ∷ [] → LeadsTo m speech p none p1 records (commands_tasks 0 (take i commands)) → DoesOn m speech p1 p2 c r
      → LeadsTo m speech p none p2 later (commands_tasks 0 (take (i + 1) commands))
  leads_on p p1 p2 none records later commands i c r next noted leads does limit lag start =
      let number : 0 + length (take i commands) ≡ i = omega (arith, length-take-le i commands (omega (arith, next.within))) in
      let tasks : commands_tasks 0 (take (i + 1) commands) ≡ commands_tasks 0 (take i commands) ++ task_of i 0 true c ∷ [] =
      ap (commands_tasks 0) (up_to_next commands i c next) ∙ tasks_more 0 (take i commands) c ∙ ap (λ (n : ℕ). commands_tasks 0 (take i commands) ++ task_of n 0 true c ∷ []) number in
      subst (λ (rs : List Record). SoFar m speech limit lag (commands_tasks 0 (take (i + 1) commands)) p2 rs) (sym noted)
      (subst (λ (ts : List Task). SoFar m speech limit lag ts p2 (records ++ r ∷ [])) (sym tasks) (does_on limit lag (commands_tasks 0 (take i commands)) p1 p2 records (leads limit lag start) i c r does))

  pub all_led : (p p1 : Twin O Key Recon Cond) (none records : List Record) (commands : List Command) (i : ℕ) → length commands ≤ i → LeadsTo m speech p none p1 records (commands_tasks 0 (take i commands)) → LeadsTo m speech p none p1 records (commands_tasks 0 commands)
  all_led p p1 none records commands i all leads = subst (λ (l : List Command). LeadsTo m speech p none p1 records (commands_tasks 0 l)) (take_all i commands all) leads
