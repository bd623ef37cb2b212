use Rattle.walk_core.proofs.Reaching.{turned_within}
use Rattle.walk_core.proofs.reach.turned_round.Goals as goal

pub new-requires : goal.new-requires
new-requires g c = turned_within c.args.graph.now _ c.in_ok-rows.ensures
