use Rattle.std.proofs.Common.{◌≡◌, subst, sym}
use Rattle.std.proofs.lemmas.Result.{IfOk-weaker}
use Rattle.ready_core.specs.RankedVerdicts.{judged}
use Rattle.ready_core.specs.Verdicts.{AreVerdictsOn}
use Rattle.ready_core.proofs.judge.verdicts_on.Goals as goal

pub returns : goal.returns
returns c =
    let are = c.in_ok-ranked.ensures.verdicts in
    IfOk-weaker c.into_verdicts.result (λ verdicts. verdicts ≡ judged c.in_ok-ranked.ranked)
    (AreVerdictsOn c.args.gate.now c.args.state.now c.args.graph.now.items)
    (λ verdicts same. subst (AreVerdictsOn c.args.gate.now c.args.state.now c.args.graph.now.items) (sym same) are.verdicts) c.into_verdicts.ensures
