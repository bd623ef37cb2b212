use Rattle.graph_core.proofs.Closing.{adds_one, adds_unknown}
use Rattle.graph_core.proofs.part.add_current.Goals as goal

pub returns-in_default : goal.returns-in_default
returns-in_default c = adds_unknown c.args.state.now c.args.number c.args.ahead.now.items c.in_default.ensures.current

pub returns : goal.returns
returns c =
    adds_one c.args.state.now c.args.number c.in-Some.item c.args.ahead.now.items c.push.new.self.items c.in-Some.ensures.item c.in-Some.ensures.current c.in_ok-push.ensures.items
