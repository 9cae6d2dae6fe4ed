-- How a run of a script ends, by the class that its line names.
use Rattle.std.proofs.Common.{◌≡◌, ◌⊎◌, inl, inr, ℕ, List, Option, Some, None, sym, subst}
use Rattle.spg_script.specs.declared.class_line.ClassLine.{ClassLine}
use Rattle.spg_script.specs.Blocks.{Script}
use Rattle.spg_histories.specs.declared.status.Status.{Status}
use Rattle.spg_histories.specs.declared.status.Status.TheVariants.{Memory}
use Rattle.spg_perform.specs.Session.{Outside}
use Rattle.spg_app.specs.declared.end_state.EndState.{EndState}
use Rattle.spg_app.specs.Classes.{class_at, state_of}
use Rattle.spg_app.specs.Beginning.{IsUnbegun}
use Rattle.spg_app.specs.Ending.{Outlets, Unwritten, RanScript, Ends}
use Rattle.spg_app.specs.Headline.{Streams, GaveScript, IsRefusal, IsRun}

-- the answer with a state
pub ran_ends : (limit : ℕ) (from : Option (List ℕ)) (script : Script) (out : Outlets) (status : Status) (end : EndState) (answer : Option EndState) → answer ≡ Some end → RanScript limit from script out status (state_of end) → Ends limit from script out status answer
ran_ends limit from script out status end answer is ran = subst (Ends limit from script out status) (sym is) ran

-- the answer without one, of a line that names the same class
pub unbegun_ends : (limit : ℕ) (from : Option (List ℕ)) (script : Script) (out : Outlets) (status : Status) (line : ClassLine) → script.class ≡ line → IsUnbegun (class_at line).meaning (class_at line).code limit from out.images out.images_after status → Unwritten from out
    → Ends limit from script out status None
unbegun_ends limit from script out status line same unbegun left =
    (subst (λ (c : ClassLine). IsUnbegun (class_at c).meaning (class_at c).code limit from out.images out.images_after status) (sym same) unbegun, left)

memory_refused : (io : Streams) (status : Status) → status ≡ Memory → io.read_faults_after ≡ io.read_faults → IsRefusal io.left io.left_after io.read_faults io.read_faults_after status
memory_refused io status e same = subst (λ (s : Status). IsRefusal io.left io.left_after io.read_faults io.read_faults_after s) (sym e) same

-- of a script that the source gave
pub run_ended : (limit : ℕ) (from : Option (List ℕ)) (io : Streams) (out : Outlets) (script : Script) (status : Status) (answer : Option EndState) → GaveScript io.left io.left_after script → io.read_faults_after ≡ io.read_faults → Ends limit from script out status answer → IsRun limit from io out status answer
run_ended limit from io out script status (Some end) gave unfailed ends = record { script = script; gave = gave; unfailed = unfailed; of_class = ends.0; run = ends.1 }
run_ended limit None io out script status None gave unfailed ends = inl (memory_refused io status ends.0 unfailed, record { sink = ends.1.sink; images = ends.1.images })
run_ended limit (Some name) io out script status None gave unfailed ends = inr (record { script = script; gave = gave; unfailed = unfailed; refusal = ends.0; left = ends.1 })
