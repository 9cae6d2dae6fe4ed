use Rattle.std.proofs.Common.{◌≡◌, true, false, subst}
use Rattle.spg_forest.specs.Shape.{Represents}
use Rattle.spg_tree.specs.Table.{sheets_of}
use Rattle.spg_core.specs.Seen.{Seen, past_of, IsPresentWith}
use Rattle.spg_script.specs.declared.command.Command.TheVariants.{Save}
use Rattle.spg_script.specs.Script.{IsLaneCommand}
use Rattle.spg_perform.proofs.LeadingCommand.{Goes, goes_inward, goes_saved, goes_closed, goes_on}
use Rattle.spg_perform.proofs.command.command.Given.{Over}
use Rattle.spg_perform.proofs.command.command.Goals.{in-Insert, in-Delete, in-Find, in-Save, in-Stat, in-Near, in-Vacuum}
use Rattle.spg_perform.proofs.command.command.Goals as goal

-- each command was done, and this it did to the images
goes : (g : Over) (c : goal.After-pages g) → Goes g.O.OpClass.meaning g.O.Spoken.speech g.O.OpClass.code_number c.args.state.now c.match-command.state (g.M.Images.held c.args.images.now) (g.M.Images.held c.match-command.images) (g.M.Images.faults c.args.images.now) (g.M.Images.faults c.match-command.images) c.args.seat true c.args.command.now c.match-command.done
goes g c = elim c.match-command.branch [
  | in-Insert w ↦ rw (w.state-is, w.images-is, w.done-is, w.in-Insert.is) (goes_inward g.O.OpClass.meaning g.O.Spoken.speech g.O.OpClass.code_number c.args.seat c.args.state.now w.insert-done.new.state (g.M.Images.held c.args.images.now) (g.M.Images.faults c.args.images.now) true _ w.insert-done.result tt tt (w.insert-done.ensures true))
  | in-Delete w ↦ rw (w.state-is, w.images-is, w.done-is, w.in-Delete.is) (goes_inward g.O.OpClass.meaning g.O.Spoken.speech g.O.OpClass.code_number c.args.seat c.args.state.now w.delete-done.new.state (g.M.Images.held c.args.images.now) (g.M.Images.faults c.args.images.now) true _ w.delete-done.result tt tt (w.delete-done.ensures true))
  | in-Find w ↦ rw (w.state-is, w.images-is, w.done-is, w.in-Find.is) (goes_inward g.O.OpClass.meaning g.O.Spoken.speech g.O.OpClass.code_number c.args.seat c.args.state.now w.find-done.new.state (g.M.Images.held c.args.images.now) (g.M.Images.faults c.args.images.now) true _ w.find-done.result tt tt w.find-done.ensures)
  | in-Save w ↦
      let lane : true ≡ false → IsLaneCommand (Save w.in-Save.name) = λ e. subst IsLaneCommand w.in-Save.is (c.requires.can.in_lane e) in
      let holds : Represents g.O.OpClass.meaning (sheets_of c.args.state.now.table) (IsPresentWith (past_of c.args.state.now)) =
      subst (λ (s : Seen g.row.O.Denot g.row.O-Key.Denot g.row.O-Recon.Denot g.row.O-Cond.Denot). Represents g.O.OpClass.meaning (sheets_of s.table) (IsPresentWith (past_of s))) w.state-is c.pages.ensures.represents in
      rw (w.state-is, w.images-is, w.done-is, w.in-Save.is)
      (goes_saved g.O.OpClass.meaning g.O.Spoken.speech g.O.OpClass.code_number c.args.seat c.args.state.now (g.M.Images.held c.args.images.now) (g.M.Images.held w.saved-done.new.images) (g.M.Images.faults c.args.images.now) (g.M.Images.faults w.saved-done.new.images) true _
      w.saved-done.result lane w.saved-done.ensures.acts w.saved-done.ensures.saved w.saved-done.ensures.faults w.saved-done.ensures.stays holds)
  | in-Stat w ↦ rw (w.state-is, w.images-is, w.done-is, w.in-Stat.is) (goes_inward g.O.OpClass.meaning g.O.Spoken.speech g.O.OpClass.code_number c.args.seat c.args.state.now c.args.state.now (g.M.Images.held c.args.images.now) (g.M.Images.faults c.args.images.now) true _ w.stat-done.result tt w.stat-done.ensures.counts (w.stat-done.ensures.acts true))
  | in-Near w ↦ rw (w.state-is, w.images-is, w.done-is, w.in-Near.is) (goes_inward g.O.OpClass.meaning g.O.Spoken.speech g.O.OpClass.code_number c.args.seat c.args.state.now w.near-done.new.state (g.M.Images.held c.args.images.now) (g.M.Images.faults c.args.images.now) true _ w.near-done.result tt tt w.near-done.ensures)
  | in-Vacuum w ↦ rw (w.state-is, w.images-is, w.done-is, w.in-Vacuum.is) (goes_inward g.O.OpClass.meaning g.O.Spoken.speech g.O.OpClass.code_number c.args.seat c.args.state.now w.vacuum-done.new.state (g.M.Images.held c.args.images.now) (g.M.Images.faults c.args.images.now) true _ w.vacuum-done.result tt tt (w.vacuum-done.ensures true))
]

pub returns-clause-leads : goal.returns-clause-leads
returns-clause-leads g c = goes_on g.O.OpClass.meaning g.O.Spoken.speech g.O.OpClass.code_number c.args.seat c.args.state.now c.match-command.state (g.M.Images.held c.args.images.now) (g.M.Images.held c.match-command.images) (g.M.Images.faults c.args.images.now) (g.M.Images.faults c.match-command.images) true c.args.command.now c.match-command.done (goes g c) c.requires.closed c.open_of-2.ensures.journal c.journal.ensures.right

pub returns-clause-closed : goal.returns-clause-closed
returns-clause-closed g c = goes_closed g.O.OpClass.meaning g.O.Spoken.speech g.O.OpClass.code_number c.args.seat c.args.state.now c.match-command.state (g.M.Images.held c.args.images.now) (g.M.Images.held c.match-command.images) (g.M.Images.faults c.args.images.now) (g.M.Images.faults c.match-command.images) true c.args.command.now c.match-command.done (goes g c) c.requires.closed c.open_of-2.ensures.journal
