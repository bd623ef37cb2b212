use Rattle.std.proofs.Common.{◌++◌, [], sym, ap, ◌∙◌}
use Rattle.std.specs.List.{cons_option}
use Rattle.gerrit_events.specs.Listings.{ballot_of}
use Rattle.gerrit_events.specs.Trees.{data_in}
use Rattle.gerrit_events.proofs.Lists.{filtered_at}
use Rattle.gerrit_events.proofs.event.Event.ballots.Goals as goal

pub loop-approval-preserved : goal.loop-approval-preserved
loop-approval-preserved c =
    c.in_ok-add_ballot.ensures
    ∙ ap (λ ballots. ballots ++ cons_option (ballot_of (data_in c.approval-item.result)) []) c.loop-approval.invariant
    ∙ sym
    (filtered_at ballot_of c.listed-values.result.now c.loop-approval.approval-index c.approval-item.result
    c.loop-approval-test.true (ballot_of (data_in c.approval-item.result))
    (ap (λ v. ballot_of (data_in v)) (sym c.approval-item.is)))
