use Rattle.std.proofs.Common.{ap}
use Rattle.json_line.specs.Adding.{adds_same, adds_then, flat_more}
use Rattle.json_line.specs.Tokens.{number_item}
use Rattle.json_line.proofs.lists.add_numbers.Goals as goal

pub loop-value-preserved : goal.loop-value-preserved
loop-value-preserved c =
    adds_same (adds_then c.loop-value.invariant (adds_same c.in_ok-add_number.ensures (ap number_item c.from.ensures)))
    (flat_more number_item c.args.values.now c.loop-value.value-index _ c.loop-value-test.true)
