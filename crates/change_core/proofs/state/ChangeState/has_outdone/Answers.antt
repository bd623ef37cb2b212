use Rattle.std.proofs.Common.{◌∙◌, sym, ap, string_bytes}
use Rattle.std.specs.Ordering.{ord_max}
use Rattle.lattice_core.specs.Keep.{numbers_exact}
use Rattle.lattice_core.specs.JoinMap.{put_joined, put_joined-Covers}
use Rattle.review_ops.specs.Draft.{deed_of}
use Rattle.change_core.specs.Change.{patch_order}
use Rattle.change_core.specs.Parts.{change_of_parts}
use Rattle.change_core.proofs.Taking.{joined_alike, joined_set}
use Rattle.change_core.proofs.state.ChangeState.has_outdone.Goals as goal

pub returns-in-PatchSet : goal.returns-in-PatchSet
returns-in-PatchSet g c = λ outdone.
    let inside = c.self.inside in
    let view = change_of_parts inside.merged inside.life inside.sets inside.votes in
    let stamp = c.stamp.result in
    let set = c.in-PatchSet.set in
    let parent = c.in-PatchSet.parent in
    let same =
    sym (put_joined-Covers numbers_exact (ord_max patch_order) view.sets set _ (c.is_outdone.ensures.0 outdone))
    ∙ ap (λ m. put_joined (ord_max patch_order) view.sets set (stamp, record { message = m; parent = parent })) c.as_str.ensures.value in
    sym c.self.view_is
    ∙ joined_alike view view c.args.self.now _ _ c.args.op.now (joined_set view stamp c.in-PatchSet.change set (string_bytes c.in-PatchSet.message) parent view.sets same) c.self.view_is c.stamp.ensures.value (sym (ap deed_of c.in-PatchSet.is) ∙ c.draft.ensures.value ∙ c.body.ensures.value)
