use Rattle.std.proofs.Common.{subst}
use Rattle.std.specs.Prelude.{MatchBool}
use Rattle.state_core.specs.State.{State}
use Rattle.gate_check.specs.Unused.{HasFooter, NamesElsewhere, IsUnder, SomeIs, messages_in}
use Rattle.gate_check.proofs.Sought.{not_if, so_if, unused_told}
use Rattle.gate_check.proofs.unused.is_unused.Goals as goal

pub returns-then-is_in_record : goal.returns-then-is_in_record
returns-then-is_in_record c = λ h. h.0
    (so_if (SomeIs (HasFooter (IsUnder c.args.base.now)) (messages_in c.args.state.now)) c.is_in_record.result c.if-is_in_record.true
    (subst (λ (state : State). MatchBool c.is_in_record.result (SomeIs (HasFooter (IsUnder c.args.base.now)) (messages_in state)) (¬ SomeIs (HasFooter (IsUnder c.args.base.now)) (messages_in state))) c.changes.ensures c.is_in_record.ensures))

pub returns : goal.returns
returns c =
    let P = SomeIs (HasFooter (IsUnder c.args.base.now)) (messages_in c.args.state.now) in
    let Q = SomeIs (HasFooter (NamesElsewhere c.args.bases.now)) (messages_in c.args.state.now) in
    unused_told P Q c.is_in_record-2.result
    (not_if P c.is_in_record.result c.if-is_in_record.false
    (subst (λ (state : State). MatchBool c.is_in_record.result (SomeIs (HasFooter (IsUnder c.args.base.now)) (messages_in state)) (¬ SomeIs (HasFooter (IsUnder c.args.base.now)) (messages_in state))) c.changes.ensures c.is_in_record.ensures))
    (subst (λ (state : State). MatchBool c.is_in_record-2.result (SomeIs (HasFooter (NamesElsewhere c.args.bases.now)) (messages_in state)) (¬ SomeIs (HasFooter (NamesElsewhere c.args.bases.now)) (messages_in state))) c.changes-2.ensures c.is_in_record-2.ensures)
