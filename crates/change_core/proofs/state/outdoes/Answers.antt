use Rattle.change_core.specs.Change.{patch_order_exact}
use Rattle.change_core.proofs.Outdone.{Covers-by_order}
use Rattle.change_core.proofs.state.outdoes.Goals as goal

pub returns : goal.returns
returns g c = Covers-by_order patch_order_exact _ _ c.held_order.result c.ne.result c.held_order.ensures c.ne.ensures
