use Rattle.std.proofs.Common.{◌≡◌, ◌++◌, ◌%◌, List, sym, ap, ◌∙◌}
use Rattle.spg_script.specs.declared.command.Command.{Command}
use Rattle.spg_script.specs.Generated.{changes}
use Rattle.spg_script.proofs.Loads.{lane_with, lane_without, lane_none}
use Rattle.spg_script.proofs.generating.load_lane.Goals as goal
use Rattle.spg_script.proofs.generating.load_lane.Goals.{then-i-from+in_ok-push_changes, else-i-from}

pub loop-i-init : goal.loop-i-init
loop-i-init c = c.new-lane.ensures ∙ sym (lane_none c.args.class c.args.seed c.args.lanes c.args.l)

pub loop-i-preserved : goal.loop-i-preserved
loop-i-preserved c = elim c.if-i-from.branch [
  | then-i-from+in_ok-push_changes w ↦
      let is : c.loop-i.i % c.args.lanes ≡ c.args.l = ap (λ n. c.loop-i.i % n) (sym c.from.ensures) ∙ w.if-i-from.true ∙ c.from-in-loop-i.ensures in
      w.lane-is ∙ w.in_ok-push_changes.ensures ∙ ap (λ (lane : List Command). lane ++ changes c.args.class c.args.seed c.loop-i.i) c.loop-i.invariant ∙ sym (lane_with c.args.class c.loop-i.i c.args.seed c.args.lanes c.args.l is)
  | else-i-from w ↦
      let not_so = λ (is : c.loop-i.i % c.args.lanes ≡ c.args.l). w.if-i-from.false (ap (λ n. c.loop-i.i % n) c.from.ensures ∙ is ∙ sym c.from-in-loop-i.ensures) in
      w.lane-is ∙ c.loop-i.invariant ∙ sym (lane_without c.args.class c.loop-i.i c.args.seed c.args.lanes c.args.l not_so)
]
