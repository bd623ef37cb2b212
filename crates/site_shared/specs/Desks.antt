-- How the parts of a desk fit its account.
use Rattle.std.specs.Prelude.{◌≡◌, ◌<◌, List, [], Option, IfSome, length}
use Rattle.logbook.specs.Pages.{Named}
use Rattle.review_ops.specs.Operation.{Operation}
use Rattle.replica_core.specs.Journal.{all_arrived}
use Rattle.site_shared.specs.Law.{head_of}
use Rattle.site_shared.specs.Publishes.{arrive}
use Rattle.site_shared.specs.Showing.{Seeing}
use Rattle.site_shared.specs.Spares.{AreSpares}
use Rattle.site_shared.specs.declared.shown.Shown.{Shown}
use Rattle.site_shared.specs.declared.spares.Spares.{Spares}

-- the word counts the publishes that the desk has seen; these are shown, and nothing waits to be shown; the spares have
-- first parts of what is shown; the next replica has what is held, too; and the site was opened
pub record IsDesk (seen : Seeing) (head : Named) (showing : Seeing) (waiting : List Shown) (kept : Spares) (following : Option (List Operation)) (held : List Operation) : Type 0 where
  pub named : head ≡ head_of seen.book
  pub shown : showing ≡ seen
  pub settled : waiting ≡ []
  pub spares : AreSpares (arrive seen.log) kept
  pub next : IfSome following (λ journal. journal ≡ all_arrived (arrive seen.log) held)
  pub opened : 0 < length seen.log
