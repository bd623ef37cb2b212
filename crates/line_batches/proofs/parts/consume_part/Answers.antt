use Rattle.std.specs.Prelude.{map}
use Rattle.std.proofs.lemmas.Result.{IfOk-weaker}
use Rattle.line_batches.proofs.PartStates.{first_joined}
use Rattle.line_batches.proofs.parts.consume_part.Goals as goal

pub returns : goal.returns
returns c = IfOk-weaker c.consume_effects.result _ _
    (λ joined is. first_joined (map (λ one. one.1.now) c.args.ops.items) c.new.result joined c.new.ensures is) c.consume_effects.ensures
