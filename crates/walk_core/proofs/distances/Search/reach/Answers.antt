use Rattle.std.proofs.Common.{sym, ◌∙◌}
use Rattle.walk_core.proofs.LevelLemmas.{reached_known, reached_new}
use Rattle.walk_core.proofs.distances.Search.reach.Goals as goal

pub returns-then-is_some : goal.returns-then-is_some
returns-then-is_some g c =
    let was = c.args.self.now in
    reached_known c.args.distance c.args.node was.distances.items was.level.items c.index.result.now c.requires c.index.ensures (sym c.is_some.ensures ∙ c.if-is_some.true)

pub returns : goal.returns
returns g c =
    let was = c.args.self.now in
    reached_new c.args.distance c.args.node was.distances.items was.level.items c.index.result.now c.requires c.index.ensures c.push.new.self.items (sym c.is_some.ensures ∙ c.if-is_some.false) c.in_ok-push.ensures.items
