use Rattle.std.proofs.Common.{subst, sym}
use Rattle.state_core.specs.Items.{IsItem}
use Rattle.watch_core.proofs.judge.GateJudgeJudge.own.Goals as goal

pub own-requires : goal.own-requires
own-requires c = subst (λ s. IsItem s c.args.item) (sym c.state.ensures) c.requires
