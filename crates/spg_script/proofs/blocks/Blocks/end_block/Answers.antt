use Rattle.std.proofs.Common.{arith, sym, length, ◌∙◌}
use Rattle.std.proofs.lemmas.Bool.{eqb-false}
use Rattle.spg_script.specs.Steps.{lanes_of}
use Rattle.spg_script.proofs.ReadLines.{block_ends_here}
use Rattle.spg_script.proofs.blocks.Blocks.end_block.Goals as goal

pub returns : goal.returns
returns c = block_ends_here c.args.self.now.class c.args.self.now.parts c.push.new.self c.args.self.now.unended (lanes_of c.args.block) c.in_ok-lanes.lanes c.together.result c.in_ok-lanes.ensures
    (omega (arith, eqb-false (length c.in_ok-lanes.lanes) 0 (sym c.is_empty.ensures ∙ c.if-is_empty.false))) c.together.ensures c.in_ok-push.ensures.ok c.requires
