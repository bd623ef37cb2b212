use Rattle.state_core.specs.KnownLaws.{merged_test}
use Rattle.state_core.proofs.state.State.is_merged.Goals as goal

pub returns-clause-meaning : goal.returns-clause-meaning
returns-clause-meaning g c = rw c.has_merged.ensures (merged_test c.args.self.now c.args.number)
