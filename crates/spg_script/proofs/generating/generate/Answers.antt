use Rattle.std.proofs.Common.{List, sym, ap, ◌∙◌, subst}
use Rattle.spg_script.specs.declared.class_line.ClassLine.{ClassLine}
use Rattle.spg_script.specs.Blocks.{Part}
use Rattle.spg_script.specs.Script.{IsWritten}
use Rattle.spg_script.specs.Generated.{load_class, load_parts, generated}
use Rattle.spg_script.proofs.Loads.{load_written}
use Rattle.spg_script.proofs.generating.generate.Goals as goal

pub new-requires : goal.new-requires
new-requires c = subst (λ (parts : List Part). IsWritten (record { class = c.load_class.result; parts = parts })) (sym c.in_ok-parts.ensures)
    (subst (λ (class : ClassLine). IsWritten (record { class = class; parts = load_parts c.args.class c.args.count c.args.seed c.args.lanes })) (sym c.load_class.ensures)
    (load_written c.args.class c.args.count c.args.seed c.args.lanes c.requires.count c.requires.lanes))

pub returns : goal.returns
unfolding generated
returns c = c.new.ensures ∙ ap (λ (class : ClassLine). record { class = class; parts = c.in_ok-parts.parts }) c.load_class.ensures ∙ ap (λ (parts : List Part). record { class = load_class c.args.class; parts = parts }) c.in_ok-parts.ensures
