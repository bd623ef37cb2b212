-- What the evaluator has seen begins what is seen now.
use Rattle.std.proofs.Common.{sym, subst}
use mathlib.Core.List.{IsPrefix}
use Rattle.site_shared.specs.Watches.{Watched}
use Rattle.site_shared.proofs.Watching.{precedes_later}
use Rattle.site_shared.proofs.watch.Watch.follow.Goals as goal

pub update-requires : goal.update-requires
update-requires c =
    let seen = c.self.inside.sight.seen.log in
    let later = c.args.sight.now.seen.log in
    let begun : IsPrefix seen later = subst (λ (w : Watched). IsPrefix w.seen later) (sym c.self.view_is) c.requires.later in
    precedes_later c.self.inside.evaluator seen later c.args.replica.now begun c.requires.replica c.self.invariant
