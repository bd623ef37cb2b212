use Rattle.gate_rules.proofs.Spelled.{gate_is_read, item_is_named}
use Rattle.gate_rules.proofs.gate.Gate.read.Goals as goal

pub returns-clause-only : goal.returns-clause-only
returns-clause-only c = gate_is_read
    (λ gate. gate) c.args.bytes.now c.read_gate.result c.read_gate.ensures.spelled c.read_gate.ensures.refused

pub returns-clause-item : goal.returns-clause-item
returns-clause-item c = item_is_named
    (λ gate. gate) c.args.bytes.now c.read_gate.result c.read_gate.ensures.spelled c.read_gate.ensures.item
