use Rattle.std.proofs.Common.{sym, subst}
use Rattle.spg_script.specs.Blocks.{Script}
use Rattle.spg_histories.specs.Run.{RunOf}
use Rattle.spg_histories.specs.Tasks.{tasks_of}
use Rattle.spg_histories.proofs.Owners.{script_exact}
use Rattle.spg_app.proofs.laws.runs_say_all.Goals as goal

pub returns : goal.returns
returns g c = λ m speech law code limit limit2 from from2 class class2 io io2 out out2 status status2 seen seen2 ran ran2 one alike named whole whole2 same.
    script_exact _ _ _ _ speech law ran.gave.bytes ran.script ran.gave.are_bytes ran.gave.is_script ran.run.loaded named seen.journal seen2.journal ran.run.records ran2.run.records (ran.run.fits whole) (ran2.run.fits whole2) ran.run.session.run
    (subst (λ (script : Script). RunOf speech ran.run.loaded (tasks_of script) seen2.journal ran2.run.records) (sym one)
    (subst (λ loaded. RunOf speech loaded (tasks_of ran2.script) seen2.journal ran2.run.records) (sym alike) ran2.run.session.run)) same
