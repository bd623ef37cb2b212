use Rattle.std.proofs.Common.{rules, ◌<◌, length, get_or, ap, arith}
use Rattle.walk_core.specs.FirstLaws.{first_within}
use Rattle.graph_text.proofs.nodes.cycle_at.Goals as goal

pub bounds-items-firsts : goal.bounds-items-firsts
bounds-items-firsts c =
    let within = first_within c.args.graph.now.ends c.args.firsts.now c.requires.firsts c.args.place (omega (arith, c.requires.place, c.requires.nodes)) in
    omega (arith, within, c.requires.nodes, ap length c.items.ensures)

pub offset_bounds-items-firsts : goal.offset_bounds-items-firsts
offset_bounds-items-firsts c =
    let within = first_within c.args.graph.now.ends c.args.firsts.now c.requires.firsts c.args.place (omega (arith, c.requires.place, c.requires.nodes)) in
    let less : get_or c.args.firsts.now c.args.place 0 < length c.items.result.now = omega (arith, within, c.requires.nodes, ap length c.items.ensures) in
    search (rules, less)
