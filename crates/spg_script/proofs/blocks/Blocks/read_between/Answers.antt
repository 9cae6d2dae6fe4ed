use Rattle.std.proofs.Common.{sym, ◌∙◌}
use Rattle.std.proofs.lemmas.Slice.Eq.{bytes_eq-Decides}
use Rattle.spg_script.proofs.ReadLines.{block_begins, command_alone}
use Rattle.spg_script.proofs.blocks.Blocks.read_between.Goals as goal

pub returns-then-eq : goal.returns-then-eq
returns-then-eq c = block_begins c.args.self.now.class c.args.self.now.parts c.args.line.now ((bytes_eq-Decides c.args.line.now c.as_slice.result.now).0 (sym c.if-eq.ensures) ∙ c.as_slice.ensures)

pub returns-in_ok-push-in-Some : goal.returns-in_ok-push-in-Some
returns-in_ok-push-in-Some c = command_alone c.args.self.now.class c.args.self.now.parts c.push.new.self c.args.self.now.unended c.alone.result c.in-Some.command c.args.line.now c.alone.ensures c.in_ok-push-in-Some.ensures.ok c.requires
    (rw c.in-Some.is at c.in_ok-command.ensures.found)
