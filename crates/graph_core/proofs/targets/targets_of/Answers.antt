use Rattle.std.proofs.Common.{rules}
use Rattle.std.proofs.lemmas.Fn.{filter_same}
use Rattle.graph_core.proofs.Waiting.{is_open_in, settled}
use Rattle.graph_core.proofs.targets.targets_of.Goals as goal

pub returns : goal.returns
returns c =
    let state = c.args.state.now in
    settled c.args.gate.now state c.args.item _ _ _ _ c.in_ok-targets.ensures
    (filter_same _ (is_open_in state) _ (λ x b f' called. search rules) _ _ c.retain.ensures.filtered)
    c.sort_unstable.ensures.permutation c.sort_unstable.ensures.sorted c.dedup.ensures.filtered
