use Rattle.std.proofs.Common.{◌∙◌}
use Rattle.spg_script.proofs.Loads.{parts_are}
use Rattle.spg_script.proofs.generating.load_parts.Goals as goal

pub returns : goal.returns
returns c =
    c.from_vec.ensures ∙ c.in_ok-from_array.ensures.items ∙ parts_are c.args.class c.args.count c.args.seed c.args.lanes c.in_ok-load_lanes.field-0 c.in_ok-query.query c.in_ok-query-2.query
    c.together-load.result c.alone-vacuum.result c.alone-all.result c.alone-first.result c.alone-second.result
    c.in_ok-load_lanes.ensures c.in_ok-query.ensures c.in_ok-query-2.ensures c.together-load.ensures c.alone-vacuum.ensures c.alone-all.ensures c.alone-first.ensures c.alone-second.ensures
