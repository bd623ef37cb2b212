use Rattle.std.proofs.Common.{[]}
use Rattle.std.specs.FinMap.{empty}
use Rattle.feed_client.proofs.Pulling.{all_gone_on, none_gone_on}
use Rattle.feed_client.proofs.pull.fronts_have_no_gap.Goals as goal

pub returns : goal.returns
returns c = λ stamps. all_gone_on [] stamps empty none_gone_on
