-- The three show one replica.
use Rattle.std.proofs.Common.{◌≡◌, sym, ap, subst, ◌∙◌}
use Rattle.site_shared.specs.Showing.{Goes}
use Rattle.site_shared.proofs.Shows.{goes_self}
use Rattle.site_shared.proofs.open.shown_first.Goals as goal

pub shown_by-requires-clause-goes_on : goal.shown_by-requires-clause-goes_on
shown_by-requires-clause-goes_on g c =
    let shown = c.in_ok-show.show.desk.shown.value.sight.seen in
    let same : c.in_ok-next.next.sight.seen ≡ shown =
    ap (λ s. s.seen) c.in_ok-next.ensures
    ∙ sym (ap (λ v. v.sight.seen) c.in_ok-show.ensures.0 ∙ ap (λ s. s.seen) c.in_ok-first.ensures) in
    subst (λ s. Goes shown s) (sym same) (goes_self shown)
