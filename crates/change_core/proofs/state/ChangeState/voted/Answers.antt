use Rattle.std.proofs.Common.{None, ◌∙◌, sym, ap, subst}
use Rattle.std.specs.FinMap as finite
use Rattle.change_core.specs.Votes.{AreVotedSets, first_of_each, sets_among}
use Rattle.change_core.proofs.FirstOfEach.{voted_sets_are}
use Rattle.change_core.proofs.state.ChangeState.voted.Goals as goal

pub returns : goal.returns
returns g c =
    let shown = c.among.ensures ∙ ap (λ change. first_of_each None (sets_among (finite.entries change.votes))) c.self.view_is in
    subst (AreVotedSets c.args.self.now) (sym shown) (voted_sets_are c.args.self.now)
