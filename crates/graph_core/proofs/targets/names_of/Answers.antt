use Rattle.std.proofs.Common.{sym}
use Rattle.graph_core.proofs.Waiting.{names_alone, names_with}
use Rattle.graph_core.proofs.targets.names_of.Goals as goal

pub returns-in_default-other_parent : goal.returns-in_default-other_parent
returns-in_default-other_parent c =
    names_alone c.args.gate.now c.args.state.now c.args.item c.in-Some.change.now c.in-Some-message.message.now _ _
    (sym c.in-Some.ensures) (sym c.in-Some-message.ensures) _ c.bases.ensures c.in_ok-names.ensures
    c.in_default-other_parent.ensures

pub returns : goal.returns
returns c = λ number.
    rw c.in_ok-push.ensures.items
    (names_with c.args.gate.now c.args.state.now c.args.item c.in-Some.change.now c.in-Some-message.message.now _ _
    (sym c.in-Some.ensures) (sym c.in-Some-message.ensures) _ c.bases.ensures c.in_ok-names.ensures
    c.in-Some-other_parent.parent c.in-Some-other_parent.ensures.0 c.in-Some-other_parent.ensures.1 number)
