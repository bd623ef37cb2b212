use Rattle.std.proofs.lemmas.Result.{on_ok_weaker, on_err_weaker}
use Rattle.lattice_core.specs.Flag.{raised_join}
use Rattle.change_core.specs.Change.{Change, sets_join, votes_join, lives_join}
use Rattle.change_core.specs.Parts.{change_of_parts}
use Rattle.change_core.proofs.Joining.{err_always, lives_are, parts_joined, parts_between, joined_between}
use Rattle.change_core.proofs.Joining.{untouched_between}
use Rattle.change_core.proofs.state.ChangeStateJoin.join.Goals as goal

pub returns-clause-ok : goal.returns-clause-ok
returns-clause-ok g c =
    let view : Change = change_of_parts c.self.inside.merged c.self.inside.life c.self.inside.sets c.self.inside.votes in
    let their : Change = change_of_parts c.other.inside.merged c.other.inside.life c.other.inside.sets c.other.inside.votes in
    on_ok_weaker c.join-4.result
    (λ e. parts_joined _ c.args.self.now c.args.other view their c.self.view_is c.other.view_is c.in_ok-join.ensures.ok (lives_are c.join-2.new.self view.life their.life c.in_ok-join-2.ensures.ok) c.in_ok-join-3.ensures.ok e)
    c.join-4.ensures.ok

pub returns-clause-err : goal.returns-clause-err
returns-clause-err g c =
    let view : Change = change_of_parts c.self.inside.merged c.self.inside.life c.self.inside.sets c.self.inside.votes in
    let their : Change = change_of_parts c.other.inside.merged c.other.inside.life c.other.inside.sets c.other.inside.votes in
    on_err_weaker c.join-4.result
    (λ between. parts_between _ c.args.self.now c.args.other view their c.self.view_is c.other.view_is
    (joined_between raised_join view.merged their.merged _ c.in_ok-join.ensures.ok)
    (joined_between lives_join view.life their.life _ (lives_are c.join-2.new.self view.life their.life c.in_ok-join-2.ensures.ok))
    (joined_between sets_join view.sets their.sets _ c.in_ok-join-3.ensures.ok)
    between)
    c.join-4.ensures.err

pub returns-in_err-join-3-clause-err : goal.returns-in_err-join-3-clause-err
returns-in_err-join-3-clause-err g c =
    let view : Change = change_of_parts c.self.inside.merged c.self.inside.life c.self.inside.sets c.self.inside.votes in
    let their : Change = change_of_parts c.other.inside.merged c.other.inside.life c.other.inside.sets c.other.inside.votes in
    err_always c.from_residual-in_err-join-3.result
    (parts_between _ c.args.self.now c.args.other view their c.self.view_is c.other.view_is
    (joined_between raised_join view.merged their.merged _ c.in_ok-join.ensures.ok)
    (joined_between lives_join view.life their.life _ (lives_are c.join-2.new.self view.life their.life c.in_ok-join-2.ensures.ok))
    c.in_err-join-3.ensures.err
    (untouched_between votes_join view.votes their.votes))
