-- What is shown next goes on from what is shown.
use Rattle.std.proofs.Common.{◌≡◌, sym, subst, ◌∙◌, ap, drop}
use Rattle.site_shared.specs.Showing.{Goes, seen_after}
use Rattle.site_shared.proofs.Shows.{turns}
use Rattle.site_shared.proofs.stage.published.Goals as goal

pub publish_as-after-requires : goal.publish_as-after-requires
publish_as-after-requires g c next is =
    let shown = c.loop.show.desk.shown.value in
    let first = c.args.show.desk.shown.value in
    let waiting = drop c.args.show.behind c.args.show.log.items in
    let same : shown ≡ first = c.loop.invariant.2 in
    let goes : Goes shown.sight.seen (seen_after first.sight.seen waiting) = subst (λ v. Goes v.sight.seen (seen_after first.sight.seen waiting)) (sym same) c.requires in
    let seen : next.sight.seen ≡ seen_after first.sight.seen waiting =
    is ∙ (ap (λ v. seen_after v.sight.seen (drop c.loop.show.behind c.loop.show.log.items)) same ∙ ap (seen_after first.sight.seen) c.loop.invariant.3) in
    turns _ _ shown next (subst (λ s. Goes shown.sight.seen s) (sym seen) goes)
