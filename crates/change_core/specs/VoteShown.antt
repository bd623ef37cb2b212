-- A vote and an approval, as a view yields them.
use Rattle.change_core.specs.Votes.{GivenVote, GivenApproval}
use Rattle.change_core.specs.declared.votes.Vote.{Vote}
use Rattle.change_core.specs.declared.votes.Approval.{Approval}

abbrev pub vote_shown : Vote → GivenVote
vote_shown vote = record { label = vote.label.now; voter = vote.voter.now; value = vote.value; stamp = vote.stamp }

abbrev pub approval_shown : Approval → GivenApproval
approval_shown approval = record { label = approval.label.now; voter = approval.voter.now; value = approval.value }
