-- The account with what was held behind what was published, and nothing held, is that of the parts as they are then.
use Rattle.std.proofs.Common.{◌≡◌, ◌<◌, List, [], ◌∷◌, ◌++◌, length, sym, ap, subst, ◌∙◌, arith, length-append, IfSome}
use Rattle.std.specs.Arc.{arc_value}
use Rattle.review_ops.specs.Operation.{Operation}
use Rattle.replica_core.specs.Journal.{all_arrived}
use Rattle.site_shared.specs.Law.{head_of}
use Rattle.site_shared.specs.Publishes.{arrive, IsFrontPart}
use Rattle.site_shared.specs.Spares.{AreSpares}
use Rattle.site_shared.proofs.Turning.{arrive-push, front_part, record_of-published, spare_on}
use Rattle.site_shared.proofs.desk.Desk.turn_to.Goals as goal

pub invariant_of-next : goal.invariant_of-next
invariant_of-next g c =
    let log = c.args.sight.seen.log in
    let some : 0 < length c.args.self.now.published = subst (λ a. 0 < length a.published) c.self.view_is c.self.invariant.opened in
    record { arrived = c.requires.replicas.1 ∙ (record_of-published c.args.self.now log some c.requires.sight.0 ∙ ap (λ s. arrive s.seen.log) (sym c.again.ensures)) }

pub invariant_of-self : goal.invariant_of-self
invariant_of-self g c =
    let desk = c.self.inside in
    let before = desk.latest.sight.seen in
    let after = c.replace-before.new.dest in
    let held = desk.held.items in
    let sight : after.sight ≡ c.args.sight = ap (λ s. s.sight) c.replace-before.ensures.after in
    let log : after.sight.seen.log ≡ before.log ++ held ∷ [] = ap (λ s. s.seen.log) sight ∙ (c.requires.sight.0 ∙ ap (λ a. a.published ++ a.held ∷ []) (sym c.self.view_is)) in
    let book : after.sight.seen.book ≡ before.book = ap (λ s. s.seen.book) sight ∙ (c.requires.sight.1 ∙ ap (λ a. a.book) (sym c.self.view_is)) in
    let journal : arrive after.sight.seen.log ≡ all_arrived (arrive before.log) held = ap arrive log ∙ arrive-push before.log held c.self.invariant.opened in
    let old_replica : arc_value c.replace-before.result.replica ≡ arrive before.log = ap (λ s. arc_value s.replica) c.replace-before.ensures.value ∙ desk.latest.arrived in
    let more : List Operation = all_arrived (arrive before.log) held in
    record {
      named = c.self.invariant.named ∙ ap head_of (sym book);
      shown = c.replace_with.ensures.1 ∙ (ap (λ s. s.seen) c.again.ensures ∙ ap (λ s. s.seen) (sym sight));
      settled = c.replace_with.ensures.0;
      spares = subst (λ j. AreSpares j c.put_aside.new.self) (sym journal) (
        subst (λ o. IfSome o (λ s. IsFrontPart (arc_value s) more)) (sym c.put_aside.ensures.0)
            (subst (λ j. IsFrontPart j more) (sym old_replica) (front_part (arrive before.log) held)),
        subst (λ o. IfSome o (λ s. IsFrontPart (arc_value s) more)) (sym c.put_aside.ensures.1)
            (spare_on (λ s. arc_value s) desk.spares.previous (arrive before.log) held c.self.invariant.spares.0),
        subst (λ o. IfSome o (λ s. IsFrontPart s more)) (sym c.put_aside.ensures.2)
            (spare_on (λ s. s) desk.spares.reserve (arrive before.log) held c.self.invariant.spares.2),
      );
      next = subst (λ j. IfSome desk.next (λ n. n ≡ j)) (sym journal ∙ ap (all_arrived (arrive after.sight.seen.log)) (sym c.clear.ensures.items)) c.self.invariant.next;
      opened = let e : length after.sight.seen.log ≡ length (before.log ++ held ∷ []) = ap length log in omega
          (arith, e, length-append before.log (held ∷ []));
    }
