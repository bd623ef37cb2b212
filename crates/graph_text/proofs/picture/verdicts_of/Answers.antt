use Rattle.ready_core.specs.WholeLaws.{on_all_items}
use Rattle.graph_text.proofs.picture.verdicts_of.Goals as goal

pub returns : goal.returns
returns c = on_all_items c.args.gate.now c.args.state.now c.args.graph.now.items c.in_ok-verdicts.verdicts c.requires.whole c.in_ok-verdicts.ensures
