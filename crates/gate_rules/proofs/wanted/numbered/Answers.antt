use Rattle.std.proofs.Common.{arith}
use Rattle.serde_json.specs.View.{view}
use Rattle.gate_rules.specs.WantedLaws.{element_at}
use Rattle.gate_rules.proofs.wanted.numbered.Goals as goal

pub returns : goal.returns
returns c = element_at view c.args.values.now c.args.number c.index-values-number.result
    (λ none. omega (arith, none, c.if-number-eq0.false)) (omega arith) c.index-values-number.is
