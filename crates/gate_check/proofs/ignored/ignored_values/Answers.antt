use Rattle.std.proofs.Common.{subst}
use Rattle.state_core.specs.State.{State}
use Rattle.gate_check.specs.Gained.{GainsTexts}
use Rattle.gate_check.specs.Ignored.{MessageMisses}
use Rattle.gate_check.specs.Unused.{SomeIs, messages_in}
use Rattle.gate_check.proofs.Missed.{gains_from_empty, texts_in_order}
use Rattle.gate_check.proofs.ignored.ignored_values.Goals as goal

pub returns : goal.returns
returns c =
    let gains = subst (λ (state : State). GainsTexts c.new-values.result (λ value. SomeIs (MessageMisses c.args.bases.now value) (messages_in state)) c.add_changes.new.values) c.changes.ensures c.in_ok-add_changes.ensures in
    record {
      in_order = texts_in_order c.add_changes.new.values.keys c.len-in_order.ensures.ordered;
      each = gains_from_empty (λ value. SomeIs (MessageMisses c.args.bases.now value) (messages_in c.args.state.now)) c.new-values.result c.add_changes.new.values c.new-values.ensures.empty gains;
    }
