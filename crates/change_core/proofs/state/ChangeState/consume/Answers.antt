use Rattle.std.proofs.Common.{◌∙◌, ◌||◌, sym, ap, subst, string_bytes, w8}
use Rattle.std.proofs.lemmas.Result.{on_ok_weaker, on_err_weaker}
use Rattle.std.specs.Ordering.{ord_max}
use Rattle.std.proofs.lemmas.Int.{to_z-of_z}
use Rattle.lattice_core.specs.JoinMap.{put_joined}
use Rattle.review_ops.specs.Draft.{deed_of}
use Rattle.review_ops.specs.Good.{IsGood}
use Rattle.change_core.specs.Slots.{Slot}
use Rattle.change_core.specs.Change.{vote_order}
use Rattle.change_core.specs.Parts.{change_of_parts}
use Rattle.change_core.proofs.Taking.{lives_joined, joined_alike, joined_set, joined_vote, joined_withdrawal}
use Rattle.change_core.proofs.Taking.{joined_abandon, joined_restore, joined_merge}
use Rattle.change_core.proofs.state.ChangeState.consume.Goals as goal

pub returns-in-PatchSet-clause-ok : goal.returns-in-PatchSet-clause-ok
returns-in-PatchSet-clause-ok g c =
    let inside = c.self.inside in
    let view = change_of_parts inside.merged inside.life inside.sets inside.votes in
    on_ok_weaker c.write_set.result
    (λ e. joined_alike _ view c.args.self.now _ _ c.args.op (joined_set view c.into_parts-stamp.result.0 c.in-PatchSet.change c.in-PatchSet.set (string_bytes c.in-PatchSet.message) c.in-PatchSet.parent _ e) c.self.view_is c.into_parts-stamp.ensures.stamp (sym (ap deed_of c.in-PatchSet.is) ∙ c.into_draft.ensures.value ∙ c.into_parts-stamp.ensures.body))
    c.write_set.ensures.ok

pub returns-in-PatchSet-clause-err : goal.returns-in-PatchSet-clause-err
returns-in-PatchSet-clause-err g c =
    let inside = c.self.inside in
    let view = change_of_parts inside.merged inside.life inside.sets inside.votes in
    on_err_weaker c.write_set.result
    (λ e. ap (λ sets. record view { sets = sets }) e ∙ c.self.view_is) c.write_set.ensures.err

pub returns-in-Vote-clause-ok : goal.returns-in-Vote-clause-ok
returns-in-Vote-clause-ok g c =
    let inside = c.self.inside in
    let view = change_of_parts inside.merged inside.life inside.sets inside.votes in
    let shown_is = sym (ap deed_of c.in-Vote.is) ∙ c.into_draft.ensures.value in
    let deed_is = shown_is ∙ c.into_parts-stamp.ensures.body in
    let fits = (subst IsGood (sym shown_is) c.into_draft.ensures.good).value in
    let slot : Slot = record {
      set = c.in-Vote.set;
      label = string_bytes c.in-Vote.label;
      voter = string_bytes c.in-Vote.voter;
    } in
    on_ok_weaker c.write_vote.result
    (λ e. joined_alike _ view c.args.self.now _ _ c.args.op (joined_vote view c.into_parts-stamp.result.0 c.in-Vote.change slot c.in-Vote.value _ (e ∙ ap (λ v. put_joined (ord_max vote_order) view.votes slot (c.into_parts-stamp.result.0, v)) (to_z-of_z w8 c.in-Vote.value fits))) c.self.view_is c.into_parts-stamp.ensures.stamp deed_is)
    c.write_vote.ensures.ok

pub returns-in-Vote-clause-err : goal.returns-in-Vote-clause-err
returns-in-Vote-clause-err g c =
    let inside = c.self.inside in
    let view = change_of_parts inside.merged inside.life inside.sets inside.votes in
    on_err_weaker c.write_vote.result
    (λ e. ap (λ votes. record view { votes = votes }) e ∙ c.self.view_is) c.write_vote.ensures.err

pub returns-in-Withdraw-clause-ok : goal.returns-in-Withdraw-clause-ok
returns-in-Withdraw-clause-ok g c =
    let inside = c.self.inside in
    let view = change_of_parts inside.merged inside.life inside.sets inside.votes in
    let deed_is = sym (ap deed_of c.in-Withdraw.is) ∙ c.into_draft.ensures.value ∙ c.into_parts-stamp.ensures.body in
    on_ok_weaker c.write_vote-in-Withdraw.result
    (λ e. joined_alike _ view c.args.self.now _ _ c.args.op (joined_withdrawal view c.into_parts-stamp.result.0 c.in-Withdraw.change _ _ e) c.self.view_is c.into_parts-stamp.ensures.stamp deed_is)
    c.write_vote-in-Withdraw.ensures.ok

pub returns-in-Withdraw-clause-err : goal.returns-in-Withdraw-clause-err
returns-in-Withdraw-clause-err g c =
    let inside = c.self.inside in
    let view = change_of_parts inside.merged inside.life inside.sets inside.votes in
    on_err_weaker c.write_vote-in-Withdraw.result
    (λ e. ap (λ votes. record view { votes = votes }) e ∙ c.self.view_is) c.write_vote-in-Withdraw.ensures.err

pub returns-in-Abandon-clause-ok : goal.returns-in-Abandon-clause-ok
returns-in-Abandon-clause-ok g c =
    let inside = c.self.inside in
    let view = change_of_parts inside.merged inside.life inside.sets inside.votes in
    let deed_is = sym (ap deed_of c.in-Abandon.is) ∙ c.into_draft.ensures.value ∙ c.into_parts-stamp.ensures.body in
    on_ok_weaker c.join.result
    (λ e. joined_alike _ view c.args.self.now _ _ c.args.op (joined_abandon view c.into_parts-stamp.result.0 c.in-Abandon.change _ (lives_joined c.join.new.self inside.life c.of.result _ e c.of.ensures)) c.self.view_is c.into_parts-stamp.ensures.stamp deed_is)
    c.join.ensures.ok

pub returns-in-Restore-clause-ok : goal.returns-in-Restore-clause-ok
returns-in-Restore-clause-ok g c =
    let inside = c.self.inside in
    let view = change_of_parts inside.merged inside.life inside.sets inside.votes in
    let deed_is = sym (ap deed_of c.in-Restore.is) ∙ c.into_draft.ensures.value ∙ c.into_parts-stamp.ensures.body in
    on_ok_weaker c.join-in-Restore.result
    (λ e. joined_alike _ view c.args.self.now _ _ c.args.op (joined_restore view c.into_parts-stamp.result.0 c.in-Restore.change _ (lives_joined c.join-in-Restore.new.self inside.life c.of-in-Restore.result _ e c.of-in-Restore.ensures)) c.self.view_is c.into_parts-stamp.ensures.stamp deed_is)
    c.join-in-Restore.ensures.ok

pub returns-in-Merged-clause-ok : goal.returns-in-Merged-clause-ok
returns-in-Merged-clause-ok g c =
    let inside = c.self.inside in
    let view = change_of_parts inside.merged inside.life inside.sets inside.votes in
    let deed_is = sym (ap deed_of c.in-Merged.is) ∙ c.into_draft.ensures.value ∙ c.into_parts-stamp.ensures.body in
    on_ok_weaker c.join-in-Merged.result
    (λ e. joined_alike _ view c.args.self.now _ _ c.args.op (joined_merge view c.into_parts-stamp.result.0 c.in-Merged.change _ (e ∙ ap (λ b. view.merged || b) c.new.ensures)) c.self.view_is c.into_parts-stamp.ensures.stamp deed_is)
    c.join-in-Merged.ensures.ok
