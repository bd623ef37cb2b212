-- What a watch knows of the journal as publishes come.
use Rattle.std.proofs.Common.{◌≡◌, List, Option, None, Some, IfSome, refl, sym, subst}
use mathlib.Core.List.{IsPrefix}
use Rattle.review_ops.specs.Operation.{Operation}
use Rattle.ready_core.specs.Verdicts.{Judged}
use Rattle.watch_core.specs.Watching.{AreOfSeen, Extends, FollowsJournal, Follows-Precedes, Precedes, Precedes-extends}
use Rattle.watch_core.specs.Watching.{Watching}
use Rattle.site_shared.specs.Publishes.{arrive}
use Rattle.site_shared.specs.Watches.{KeepsUp}
use Rattle.site_shared.proofs.PublishLaws.{begins}

-- a later journal goes on from an earlier one
pub goes_on : (before after : List (List Operation)) → IsPrefix before after → Extends (arrive before) (arrive after)
goes_on before after p = let more = begins before after p in (more.0, sym more.1)

keeps : (watching : Watching) (journal : List Operation) (found : Option Judged) → watching.verdicts ≡ found
    → IfSome found (λ _. FollowsJournal watching journal)
    → IfSome found (AreOfSeen watching journal)
keeps watching journal None is kept = tt
keeps watching journal (Some judged) is kept =
    subst (λ (v : Option Judged). IfSome v (AreOfSeen watching journal)) is (Follows-Precedes watching journal kept)

-- what was kept of an earlier journal can be brought up to a later one
pub precedes_later : (watching : Watching) (before after : List (List Operation)) (journal : List Operation)
    → IsPrefix before after → journal ≡ arrive after
    → KeepsUp watching (arrive before) → Precedes watching journal
precedes_later watching before after journal p is kept =
    subst (Precedes watching) (sym is)
    (Precedes-extends watching (arrive before) (arrive after) (goes_on before after p)
    (keeps watching (arrive before) watching.verdicts refl kept))

-- who follows a journal keeps up with it
pub keeps_up : (watching : Watching) (journal : List Operation) → FollowsJournal watching journal → KeepsUp watching journal
keeps_up watching journal is = subst (λ (v : Option Judged). IfSome v (λ _. FollowsJournal watching journal)) (sym is.there) is
