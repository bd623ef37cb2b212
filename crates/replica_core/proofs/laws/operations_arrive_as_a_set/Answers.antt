use Rattle.std.proofs.Common.{◌∙◌}
use Rattle.replica_core.specs.JournalLaws.{has-all_arrived, has-append}
use Rattle.replica_core.proofs.laws.operations_arrive_as_a_set.Goals as goal

pub returns : goal.returns
returns c journal ops op = has-all_arrived journal ops op ∙ has-append journal ops op
