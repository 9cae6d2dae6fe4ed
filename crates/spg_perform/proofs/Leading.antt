-- One command of a seat: from what it did to what all commands so far did.
use Rattle.std.proofs.Common.{◌≡◌, ◌&&◌, ℕ, Bool, true, false, List, [], ◌∷◌, ◌++◌, reverse, Option, refl, sym, ap, ◌∙◌, subst, arith}
use Rattle.std.proofs.lemmas.List.{take_at, take_all}
use Rattle.spg_base.specs.declared.recorded.Origin.{Origin}
use Rattle.spg_opclass.specs.Meaning.{Meaning}
use Rattle.spg_forest.specs.Sheets.{Sheets}
use Rattle.spg_io.specs.Held.{Holding}
use Rattle.spg_rows.specs.declared.event.Event.{Event}
use Rattle.spg_rows.specs.History.{History, open_of}
use Rattle.spg_rows.specs.Right.{Right}
use Rattle.spg_rows.specs.Rows.{present_count}
use Rattle.spg_tree.specs.Table.{sheets_of}
use Rattle.spg_core.specs.Stage.{Stage, IsStageOf}
use Rattle.spg_core.specs.Seen.{Seen, stage_at, past_of}
use Rattle.spg_script.specs.Speech.{Speech}
use Rattle.spg_report.specs.declared.record.Record.{Record}
use Rattle.spg_histories.specs.Tasks.{Task}
use Rattle.spg_histories.specs.Run.{Entry, RunOf, past_at}
use Rattle.spg_histories.specs.Pages.{HoldsAt}
use Rattle.spg_histories.specs.Telling.{steps_of, is_quiet_command, LeafIs, TellsOf, TellAll, SaveGave, StepDone}
use Rattle.spg_histories.specs.Causes.{IsDue, IsDueIn, IsCaused, Causes, CausesGrow}
use Rattle.spg_histories.proofs.Blocks.{run_goes_on, alone_block}
use Rattle.spg_histories.proofs.Causes.{causes_grow}
use Rattle.spg_histories.proofs.Telling.{one_more}
use Rattle.spg_commands.specs.Acted.{Acted}
use Rattle.spg_perform.specs.Session.{AllClosed, told_of, ReadsBack, StillTell, is_image_fault, image_faults, RoseBy, LeadsOn, standing}
use Rattle.spg_perform.specs.Remains.{Remains}
use Rattle.spg_whole.proofs.Alone.{closed_again}
use Rattle.spg_perform.proofs.Remaining.{Gave, remains_one, counted_one}
use Rattle.spg_perform.proofs.LeadingImages.{faults_append, rose_then, Outward, stays_where}

both_true : (a b : Bool) → (a && b) ≡ true → (a ≡ true) × (b ≡ true)
both_true true b is = (refl, is)
both_true false b is = let clash : false ≡ true = is in (cc)

module _ {O Key Recon Cond : Type 0} (m : Meaning Key Recon Cond) (speech : Speech Key Cond) (s0 s1 : Seen O Key Recon Cond) (t : Task) (r : Record) (acted : Acted m speech s0 s1 t r) where
  -- the seat has nothing open, and nor has another
  pub closes : AllClosed (past_of s0) → IsStageOf (open_of t.seat (past_of s1)) (stage_at s1 t.seat) → AllClosed (past_of s1)
  closes closed stage = closed_again t.seat s0.journal s1.journal acted.performed.events acted.performed.journal acted.performed.by_seat closed
      (subst (λ (s : Stage O Key Recon Cond). IsStageOf (open_of t.seat (past_of s1)) s) acted.free stage)

  -- ---- where it began and ended

  abbrev longer : List (Event O Key Recon Cond)
  longer = s0.journal ++ acted.performed.events

  from_past : past_at r.span.from longer ≡ past_of s0
  from_past = ap reverse (take_at s0.journal acted.performed.events r.span.from (sym acted.performed.from))

  to_past : past_at r.span.to longer ≡ past_of s1
  to_past = ap (past_at r.span.to) (sym acted.performed.journal) ∙ ap reverse (take_all r.span.to s1.journal (omega (arith, acted.performed.to)))

  due_in : (origin : Origin) → s0.origin ≡ origin → IsDueIn m origin longer t r
  due_in origin made =
      let due : IsDue m origin t.command (past_of s0) (past_of s1) r.outcome = subst (λ (o : Origin). IsDue m o t.command (past_of s0) (past_of s1) r.outcome) made acted.due in
      subst (λ (p : History O Key Recon Cond). IsDue m origin t.command p (past_at r.span.to longer) r.outcome) (sym from_past) (subst (λ (p : History O Key Recon Cond). IsDue m origin t.command (past_of s0) p r.outcome) (sym to_past) due)

  -- ---- the parts of a session

  module _ (loaded : List (Entry Key)) (tasks : List Task) (records : List Record) (run : RunOf speech loaded tasks s0.journal records) where
    run_on : RunOf speech loaded (tasks ++ t ∷ []) s1.journal (records ++ r ∷ [])
    run_on = run_goes_on speech loaded s0.journal s1.journal tasks (t ∷ []) records (r ∷ []) run (alone_block speech s0.journal s1.journal t r acted.performed)

    causes_on : (origin : Origin) → s0.origin ≡ origin → Causes m origin (sheets_of s0.table) s0.journal tasks records → Causes m origin (sheets_of s1.table) s1.journal (tasks ++ t ∷ []) (records ++ r ∷ [])
    causes_on origin made causes =
        let law : CausesGrow O Key Recon Cond = causes_grow O Key Recon Cond in
        let caused : IsCaused origin.limit (sheets_of s1.table) r.outcome = subst (λ (o : Origin). IsCaused o.limit (sheets_of s1.table) r.outcome) made acted.caused in
        subst (λ (j : List (Event O Key Recon Cond)). Causes m origin (sheets_of s1.table) j (tasks ++ t ∷ []) (records ++ r ∷ [])) (sym acted.performed.journal)
        (law.goes_on m speech origin loaded s0.journal acted.performed.events (sheets_of s0.table) (sheets_of s1.table) tasks records t r run causes acted.grew (due_in origin made) caused acted.prints)

    module _ (code : ℕ) (held held2 : Option Holding) (faults faults2 : ℕ) (outward : Outward m speech code s1.journal (sheets_of s0.table) held held2 faults faults2 t r) (start : Option Holding) (still : StillTell start held) where
      step : StepDone O m speech (ReadsBack code) longer (told_of start held) (told_of start held2) (sheets_of s0.table) (sheets_of s1.table) t r
      step = record {
        quiet = λ is.
            let parts = both_true t.alone (is_quiet_command t.command) is in
            let same : sheets_of s1.table ≡ sheets_of s0.table = acted.quiet parts.1 in
            (same, subst (λ (S : Sheets). TellsOf O m speech S t.command r.outcome) same (acted.tells parts.0));
        saved = λ name is. (
          outward.quiet name is,
          subst (λ (j : List (Event O Key Recon Cond)). SaveGave O m speech (ReadsBack code) (HoldsAt m j) (sheets_of s0.table) r.span.from (told_of start held2 name) r.outcome) acted.performed.journal (outward.saved start still name is),
        );
        kept = λ name is. outward.kept start still name is;
        leaf = subst (λ (p : History O Key Recon Cond). LeafIs (present_count p) r.outcome) (sym from_past) acted.leaf;
      }

      tells_on : (was : List ℕ → Option (Option (List ℕ))) → TellAll O m speech (ReadsBack code) s0.journal was (told_of start held) (sheets_of s0.table) tasks records
          → TellAll O m speech (ReadsBack code) s1.journal was (told_of start held2) (sheets_of s1.table) (tasks ++ t ∷ []) (records ++ r ∷ [])
      tells_on was tells = subst (λ (j : List (Event O Key Recon Cond)). TellAll O m speech (ReadsBack code) j was (told_of start held2) (sheets_of s1.table) (tasks ++ t ∷ []) (records ++ r ∷ [])) (sym acted.performed.journal)
          (one_more O Key Recon Cond (Option (Option (List ℕ))) m speech (ReadsBack code) loaded s0.journal acted.performed.events tasks records was (told_of start held) (sheets_of s0.table) run tells (told_of start held2) (sheets_of s1.table) t r step)

  -- ---- the session goes on

  pub leads : (code : ℕ) (held held2 : Option Holding) (faults faults2 : ℕ) (records : List Record) → Right m s1.journal → AllClosed (past_of s1) → Outward m speech code s1.journal (sheets_of s0.table) held held2 faults faults2 t r
      → LeadsOn m speech code (standing s0 held faults records) (standing s1 held2 faults2 (records ++ r ∷ [])) (t ∷ [])
  leads code held held2 faults faults2 records right closed outward loaded origin start tasks was = record {
    run = run_on loaded tasks records was.run;
    right = right;
    causes = causes_on loaded tasks records was.run origin was.made was.causes;
    tells = tells_on loaded tasks records was.run code held held2 faults faults2 outward start.held was.images (told_of start.held start.held) was.tells;
    remains = λ name. subst (λ (j : List (Event O Key Recon Cond)). Remains code (HoldsAt m j) (told_of start.held held2 name) (told_of start.held start.held name) name (steps_of (tasks ++ t ∷ []) (records ++ r ∷ []))) (sym acted.performed.journal)
        (remains_one m speech code loaded s0.journal acted.performed.events tasks records was.run (told_of start.held held name) (told_of start.held held2 name) (told_of start.held start.held name) name t r (outward.kept start.held was.images name)
        (λ save. subst (λ (j : List (Event O Key Recon Cond)). Gave code (HoldsAt m j) (told_of start.held held name) (told_of start.held held2 name) r.span.from r.outcome) acted.performed.journal (outward.left start.held was.images name save)) (was.remains name));
    counted = counted_one m speech code loaded s0.journal acted.performed.events tasks records was.run t r outward.counts was.counted;
    closed = closed;
    made = acted.made ∙ was.made;
    images = outward.still start.held was.images;
    faults = subst (λ (n : ℕ). RoseBy n start.faults faults2) (sym (faults_append records r)) (rose_then (image_faults records) (is_image_fault r.outcome) start.faults faults faults2 was.faults outward.rose);
    unfailed = λ none.
        let before : image_faults records ≡ 0 = omega (arith, faults_append records r, none) in
        let here : is_image_fault r.outcome ≡ 0 = omega (arith, faults_append records r, none) in
        stays_where r.outcome faults faults2 outward.unless here ∙ was.unfailed before;
  }
