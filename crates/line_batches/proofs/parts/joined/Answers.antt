use Rattle.line_batches.proofs.PartStates.{parts_joined}
use Rattle.line_batches.proofs.parts.joined.Goals as goal

pub returns : goal.returns
returns c = λ front back one two.
    parts_joined front back c.args.first c.args.rest c.join.new.self one two c.in_ok-join.ensures.ok
