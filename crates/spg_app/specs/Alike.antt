-- The text of a run says all of it.
use Rattle.std.specs.Prelude.{◌≡◌, ℕ, List, Option}
use Rattle.std.specs.List.{AllByRecursion}
use Rattle.spg_opclass.specs.Meaning.{Meaning}
use Rattle.spg_core.specs.Seen.{Seen}
use Rattle.spg_script.specs.declared.class_line.ClassLine.{ClassLine}
use Rattle.spg_script.specs.Line.{keys_of}
use Rattle.spg_script.specs.Speech.{Speech, SpeaksAsPrinted}
use Rattle.spg_report.specs.Text.{text}
use Rattle.spg_histories.specs.Ending.{all_taken}
use Rattle.spg_histories.specs.Exact.{IsNamedEntry}
use Rattle.spg_histories.specs.declared.status.Status.{Status}
use Rattle.spg_app.specs.Ending.{Outlets}
use Rattle.spg_app.specs.Headline.{Streams, Ran}

-- two runs of one script, as the program tells of them, over the same loaded entries, whose texts were taken whole and are alike have the same journal and the same records
abbrev pub RunsSayAll : (O Key Recon Cond : Type 0) → Type 0
RunsSayAll O Key Recon Cond = (m : Meaning Key Recon Cond) (speech : Speech Key Cond) → SpeaksAsPrinted speech → (code limit limit2 : ℕ) (from from2 : Option (List ℕ)) (class class2 : ClassLine) (io io2 : Streams)
    → (out out2 : Outlets) (status status2 : Status) (seen seen2 : Seen O Key Recon Cond) (ran : Ran m speech code limit from class io out status seen) (ran2 : Ran m speech code limit2 from2 class2 io2 out2 status2 seen2)
    → ran.script ≡ ran2.script → ran.run.loaded ≡ ran2.run.loaded → AllByRecursion (IsNamedEntry (keys_of ran.script.class) speech) ran.run.loaded
    → ran.run.writing ≡ all_taken → ran2.run.writing ≡ all_taken → text speech seen.journal ran.run.records ≡ text speech seen2.journal ran2.run.records → (seen.journal ≡ seen2.journal) × (ran.run.records ≡ ran2.run.records)
