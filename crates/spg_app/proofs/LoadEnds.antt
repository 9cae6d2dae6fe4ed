-- How the run of a generated script ends.
use Rattle.std.proofs.Common.{◌≡◌, ◌⊎◌, inl, inr, ℕ, List, Option, Some, None, refl, sym, ap, ◌∙◌, subst}
use Rattle.spg_rows.specs.declared.event.Event.{Event}
use Rattle.spg_script.specs.Blocks.{Script}
use Rattle.spg_script.specs.Generated.{load_class, generated}
use Rattle.spg_report.specs.declared.record.Record.{Record}
use Rattle.spg_histories.specs.declared.status.Status.{Status}
use Rattle.spg_histories.specs.declared.status.Status.TheVariants.{Done, Memory}
use Rattle.spg_app.specs.declared.end_state.EndState.{EndState}
use Rattle.spg_app.specs.Classes.{class_at, state_of}
use Rattle.spg_words.specs.declared.load.Load.{Load}
use Rattle.spg_words.specs.Lines.{IsLoad}
use Rattle.spg_app.specs.Ending.{Outlets}
use Rattle.spg_streams.specs.Summary.{summary}
use Rattle.spg_app.specs.Loads.{RanLoad, LoadedTo, EndsLoad, script_of, EndsGen, IsGen}
use Rattle.spg_app.specs.Headline.{Streams, NoFault}
use Rattle.spg_app.proofs.Complete.{done_or_memory}
use Rattle.spg_app.proofs.LoadRows.{gen_ran}

pub summary_same : {O Key Recon Cond : Type 0} (journal journal2 : List (Event O Key Recon Cond)) (records records2 : List Record) → journal ≡ journal2 → records ≡ records2 → summary journal records ≡ summary journal2 records2
summary_same journal journal2 records records2 is is2 = ap (λ j. summary j records) is ∙ ap (λ (rs : List Record). summary journal2 rs) is2

pub class_of : (load : Load) → (script_of load).class ≡ load_class load.class
unfolding generated
class_of load = refl

-- of the commands of a script that is the generated one
pub gen_ended : (load : Load) (out : Outlets) (script : Script) (status : Status) (answer : Option EndState) → IsLoad load → script ≡ script_of load → EndsLoad script out status answer → IsGen load out status answer
gen_ended load out script status (Some end) in_range same ends = (
  sym (class_of load) ∙ sym (ap (λ (s : Script). s.class) same) ∙ ends.0,
  gen_ran (class_at (state_of end).line).meaning (class_at (state_of end).line).speech (class_at (state_of end).line).code load out status (state_of end).seen in_range
      (subst (λ (s : Script). RanLoad (class_at (state_of end).line).meaning (class_at (state_of end).line).speech (class_at (state_of end).line).code s out status (state_of end).seen) same ends.1),
)
gen_ended load out script status None in_range same ends = ends

-- the answer with a state
pub loaded_ends : (script : Script) (out : Outlets) (status : Status) (end : EndState) (answer : Option EndState) → answer ≡ Some end → LoadedTo script out status (state_of end) → EndsLoad script out status answer
loaded_ends script out status end answer is loaded = subst (EndsLoad script out status) (sym is) loaded

ran_complete : (load : Load) (io : Streams) (out : Outlets) (status : Status) (end : EndState) → EndsGen load out status end → NoFault io out → (status ≡ Done) ⊎ (status ≡ Memory)
ran_complete load io out status end (is, ran) no_fault =
    subst (λ s. (s ≡ Done) ⊎ (s ≡ Memory)) (sym ran.ran.status_is) (done_or_memory ran.ran.writing ran.ran.records _ _ _ _ ran.ran.cause ran.ran.session.faults no_fault.writing no_fault.saving)

pub complete_load : (load : Load) (io : Streams) (out : Outlets) (status : Status) (end : Option EndState) → IsGen load out status end → NoFault io out → (status ≡ Done) ⊎ (status ≡ Memory)
complete_load load io out status (Some end) run no_fault = ran_complete load io out status end run no_fault
complete_load load io out status None run no_fault = inr run.0
