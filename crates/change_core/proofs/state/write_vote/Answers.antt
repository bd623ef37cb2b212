use Rattle.std.proofs.Common.{◌∙◌, ap, w8}
use Rattle.std.specs.Ordering.{ord_max}
use Rattle.std.proofs.lemmas.Int.{to_z-of_z}
use Rattle.std.proofs.lemmas.Result.{on_ok_weaker}
use Rattle.lattice_core.specs.JoinMap.{put_joined}
use Rattle.change_core.specs.Change.{vote_order}
use Rattle.change_core.specs.Parts.{votes_shown}
use Rattle.change_core.proofs.state.write_vote.Goals as goal

pub returns-clause-ok : goal.returns-clause-ok
returns-clause-ok g c =
    let written = c.new.ensures ∙ ap (λ v. (c.args.stamp, v)) (to_z-of_z w8 c.args.value c.ranges.value) in
    on_ok_weaker c.join_at.result
    (λ e. e ∙ ap (put_joined (ord_max vote_order) (votes_shown c.args.votes.now) _) written) c.join_at.ensures.ok
