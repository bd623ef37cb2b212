use Rattle.event_feed.specs.declared.progress.Progress.TheVariants.{Unbegun}
use Rattle.event_feed.proofs.Progressing.{stays, unbegun_by, whole_by, whole_from}
use Rattle.event_feed.proofs.progress.answers_end_with_statistics.Goals as goal

pub returns-clause-whole : goal.returns-clause-whole
returns-clause-whole c = λ parts. (whole_by parts, whole_from parts)

pub returns-clause-unbegun : goal.returns-clause-unbegun
returns-clause-unbegun c = λ parts. (λ is. (unbegun_by Unbegun parts is).1, stays Unbegun parts)
