use Rattle.site_shared.proofs.PublishLaws.{time_above, seq_above, stands}
use Rattle.site_shared.proofs.laws.stamps_are_above_all.Goals as goal

pub returns-clause-time : goal.returns-clause-time
returns-clause-time c = time_above

pub returns-clause-seq : goal.returns-clause-seq
returns-clause-seq c = seq_above

pub returns-clause-stands : goal.returns-clause-stands
returns-clause-stands c = stands
