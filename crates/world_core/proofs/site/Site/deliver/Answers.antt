use Rattle.std.proofs.Common.{sym, subst, take}
use Rattle.replica_core.specs.Journal.{all_arrived}
use Rattle.world_core.specs.Step.{IsDelivery}
use Rattle.world_core.proofs.Saving.{site_with, grows, take-all_arrived, still_within}
use Rattle.world_core.proofs.Sites.{grown, delivered}
use Rattle.world_core.proofs.site.Site.deliver.Goals as goal
use Rattle.world_core.proofs.site.Site.deliver.Goals.{in-Ok, in-Err}

pub overflow_sub-result : goal.overflow_sub-result
overflow_sub-result g c = grown c.self.inside.replica c.args.ops.now c.take_copies.new.replica c.len-before.result c.len.result c.in-Ok.ensures c.len-before.ensures c.len.ensures

pub invariant_of-self : goal.invariant_of-self
invariant_of-self g c =
    let journal = c.self.inside.replica in
    elim c.match-take_copies.branch [
      | in-Ok w ↦ still_within c.self.inside.saved journal c.args.ops.now c.take_copies.new.replica c.self.invariant w.in-Ok.ensures
      | in-Err w ↦ still_within c.self.inside.saved journal
          (take w.in-Err.partly.taken c.args.ops.now) c.take_copies.new.replica c.self.invariant w.in-Err.ensures.1
    ]

pub returns : goal.returns
returns g c =
    let journal = c.self.inside.replica in
    let saved = c.self.inside.saved in
    let start = c.self.inside.start in
    let new = site_with c.take_copies.new.replica saved start in
    subst (λ old. IsDelivery c.args.ops.now old c.match-take_copies.result new) c.self.view_is
    (elim c.match-take_copies.branch [
      | in-Ok w ↦ delivered c.args.ops.now journal c.take_copies.new.replica saved start c.len-before.result w.len.result _ c.self.invariant w.in-Ok.ensures c.len-before.ensures w.len.ensures w.result-is
      | in-Err w ↦ subst (λ r. IsDelivery c.args.ops.now (site_with journal saved start) r new) (sym w.result-is)
          (w.in-Err.ensures.0, grows journal (all_arrived journal (take w.in-Err.partly.taken c.args.ops.now)) c.take_copies.new.replica saved start w.in-Err.ensures.1 (take-all_arrived saved journal (take w.in-Err.partly.taken c.args.ops.now) c.self.invariant))
    ])
