-- A run whose images were read before its commands.
use Rattle.std.proofs.Common.{◌≡◌, ◌≤◌, ◌+◌, ◌-◌, ◌^◌, inl, inr, min, ℕ, Bool, true, false, List, [], ◌∷◌, Option, Some, None, refl, sym, ◌∙◌, subst, arith}
use Rattle.spg_base.specs.declared.recorded.Origin.{Origin}
use Rattle.spg_opclass.specs.Meaning.{Meaning}
use Rattle.spg_forest.specs.Sheets.{Sheets}
use Rattle.spg_io.specs.Held.{Holding, Stays}
use Rattle.spg_rows.specs.declared.entry.Entry.{Entry}
use Rattle.spg_rows.specs.declared.event.Event.{Event}
use Rattle.spg_tree.specs.Table.{sheets_of}
use Rattle.spg_core.specs.Seen.{Seen}
use Rattle.spg_script.specs.Speech.{Speech}
use Rattle.spg_report.specs.declared.outcome.Outcome.{Outcome}
use Rattle.spg_report.specs.declared.outcome.Outcome.TheVariants as outcome
use Rattle.spg_report.specs.declared.record.Record.{Record}
use Rattle.spg_histories.specs.Tasks.{Task}
use Rattle.spg_histories.specs.Pages.{HoldsAt, present_at}
use Rattle.spg_histories.specs.Telling.{Step, steps_of, is_save, WhereTrue, OnSaved, IsGiven, TellsAll, TellAll}
use Rattle.spg_perform.specs.Session.{Outside, told_of, ReadsBack, StillTell, image_faults, RoseBy, Session}
use Rattle.spg_perform.specs.Remains.{AfterSave, Remains}
use Rattle.spg_app.specs.Beginning.{OnlyRead}

still : (a b c : Option Holding) → Stays a b → StillTell b c → StillTell a c
still None b c s t = tt
still (Some a) None c s t = absurd s
still (Some a) (Some b) None s t = absurd t
still (Some a) (Some b) (Some c) s t = tt

rose_earlier : (n a b c : ℕ) → a ≤ b → RoseBy n b c → RoseBy n a c
rose_earlier n a b c l r = (omega (arith, l, r.0), omega (arith, l, r.1))

untold_where : (b : Bool) (A A2 B B2 : Type 0) → (A → A2) → (B → B2) → WhereTrue b A B → WhereTrue b A2 B2
untold_where true A A2 B B2 f g h = f h
untold_where false A A2 B B2 f g h = g h

module _ (O : Type 0) {Key Recon Cond : Type 0} (m : Meaning Key Recon Cond) (speech : Speech Key Cond) (code : ℕ) where
  abbrev Given : Sheets → Option (Option (List ℕ)) → Option (Option (List ℕ)) → (Sheets → ℕ → Type 0) → List ℕ → List Step → List Step → Type 0
  Given now given was holds name later past = IsGiven O m speech (ReadsBack code) now given was holds name later past

  -- where the images tell nothing
  saved_untold : (now : Sheets) (given : Option (Option (List ℕ))) (holds : Sheets → ℕ → Type 0) (at : ℕ) (later past : List Step) (o : Outcome)
      → OnSaved O m speech (ReadsBack code) now given holds at later past o → OnSaved O m speech (ReadsBack code) now None holds at later past o
  saved_untold now given holds at later past (outcome.Saved pages) (g, reads, kept) = (g, tt, kept)
  saved_untold now given holds at later past o h = h

  untold : (now : Sheets) (given was : Option (Option (List ℕ))) (holds : Sheets → ℕ → Type 0) (name : List ℕ) (later past : List Step) → Given now given was holds name later past → Given now None None holds name later past
  untold now given was holds name later [] h = refl
  untold now given was holds name later (x ∷ past) h =
      untold_where (is_save name x.task.command) _ _ _ _ (saved_untold now given holds x.done.span.from later past x.done.outcome) (untold now given was holds name (x ∷ later) past) h

  given_earlier : (a b c : Option Holding) (now : Sheets) (holds : Sheets → ℕ → Type 0) (name : List ℕ) (steps : List Step) → Stays a b
      → Given now (told_of b c name) (told_of b b name) holds name [] steps → Given now (told_of a c name) (told_of a a name) holds name [] steps
  given_earlier None b c now holds name steps s h = untold now (told_of b c name) (told_of b b name) holds name [] steps h
  given_earlier (Some a) None c now holds name steps s h = absurd s
  given_earlier (Some a) (Some b) c now holds name steps s h = subst (λ (x : Option (List ℕ)). Given now (told_of (Some a) c name) (Some x) holds name [] steps) (s name) h

  tells_earlier : (journal : List (Event O Key Recon Cond)) (a b c : Option Holding) (now : Sheets) (tasks : List Task) (records : List Record) → Stays a b
      → TellAll O m speech (ReadsBack code) journal (told_of b b) (told_of b c) now tasks records → TellAll O m speech (ReadsBack code) journal (told_of a a) (told_of a c) now tasks records
  tells_earlier journal a b c now tasks records s t = record {
    end = t.end;
    saves = λ name. given_earlier a b c now (HoldsAt m journal) name (steps_of tasks records) s (t.saves name);
    leaves = t.leaves;
  }

  -- what stood under a name after saves
  after_untold : (told : Option (Option (List ℕ))) (holds : Sheets → ℕ → Type 0) (at : ℕ) (o : Outcome) (stands stands2 : Type 0) → (stands → stands2) → AfterSave code holds told at o stands → AfterSave code holds None at o stands2
  after_untold told holds at (outcome.Saved pages) stands stands2 more (g, leaves, is) = (g, tt, is)
  after_untold told holds at outcome.ImageFault stands stands2 more (inl is) = inl (more is)
  after_untold told holds at outcome.ImageFault stands stands2 more (inr (g, leaves, is)) = inr (g, tt, is)
  after_untold told holds at outcome.Memory stands stands2 more (inl is) = inl (more is)
  after_untold told holds at outcome.Memory stands stands2 more (inr (g, leaves, is)) = inr (g, tt, is)
  after_untold told holds at o stands stands2 more is = absurd is

  remains_untold : (told was : Option (Option (List ℕ))) (holds : Sheets → ℕ → Type 0) (name : List ℕ) (past : List Step) → Remains code holds told was name past → Remains code holds None None name past
  remains_untold told was holds name [] h = refl
  remains_untold told was holds name (x ∷ past) h =
      untold_where (is_save name x.task.command) _ _ _ _ (after_untold told holds x.done.span.from x.done.outcome (Remains code holds told was name past) (Remains code holds None None name past) (remains_untold told was holds name past)) (remains_untold told was holds name past) h

  remains_earlier : (a b c : Option Holding) (holds : Sheets → ℕ → Type 0) (name : List ℕ) (steps : List Step) → Stays a b → Remains code holds (told_of b c name) (told_of b b name) name steps → Remains code holds (told_of a c name) (told_of a a name) name steps
  remains_earlier None b c holds name steps s h = remains_untold (told_of b c name) (told_of b b name) holds name steps h
  remains_earlier (Some a) None c holds name steps s h = absurd s
  remains_earlier (Some a) (Some b) c holds name steps s h = subst (λ (x : Option (List ℕ)). Remains code holds (told_of (Some a) c name) (Some x) name steps) (s name) h

  pub from_earlier : (loaded : List (Entry Key)) (origin : Origin) (a b c : Outside) (tasks : List Task) (seen : Seen O Key Recon Cond) (records : List Record) → OnlyRead a b → b.faults ≡ a.faults
      → Session m speech code loaded origin b c tasks seen records → Session m speech code loaded origin a c tasks seen records
  from_earlier loaded origin a b c tasks seen records read same s = record {
    run = s.run;
    right = s.right;
    causes = s.causes;
    tells = tells_earlier seen.journal a.held b.held c.held (sheets_of seen.table) tasks records read.stays s.tells;
    remains = λ name. remains_earlier a.held b.held c.held (HoldsAt m seen.journal) name (steps_of tasks records) read.stays (s.remains name);
    counted = s.counted;
    closed = s.closed;
    made = s.made;
    images = still a.held b.held c.held read.stays s.images;
    faults = rose_earlier (image_faults records) a.faults b.faults c.faults read.later s.faults;
    unfailed = λ none. s.unfailed none ∙ same;
  }
