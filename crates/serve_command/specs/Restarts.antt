-- A site that begins again by what a crash left of its journal.
use Rattle.std.specs.Prelude.{◌≡◌, ◌++◌, ℕ, List, Option, Some, IfSome, IsSome}
use Rattle.replica_core.specs.Sets.{IsSameSet}
use Rattle.review_ops.specs.Operation.{Operation}
use Rattle.site_journal.specs.Book.{Book}
use Rattle.site_journal.specs.Tape.{Image, IsLeftBy}
use Rattle.site_ledger.specs.Keeping.{Survive}
use Rattle.serve_command.specs.Beginning.{HasSurvivors}
use Rattle.serve_command.specs.Leaving.{HasRun}

-- a site had begun with the record of its journal, of which all that it published survives; and one begins again with
-- whatever a crash left of that journal
pub record BeginsAgain (begun first more again : List Operation) : Type 0 where
  pub same : IsSameSet begun first
  pub book : Book
  pub kept : Survive book (first ++ more)
  pub image : Image
  pub known : book.image ≡ Some image
  pub text : List ℕ
  pub left : IsLeftBy image text
  pub survivors : HasSurvivors text again

-- a site ran by a journal, of whose tape something was known, and left a record; and one ran again, from this record
-- on, by whatever a crash left of that journal
pub record RunsAgain (left begun : List Operation) (later : Option (List Operation)) : Type 0 where
  pub tape : Option Image
  pub loaded : List Operation
  pub journal : Book
  pub ran : HasRun tape loaded journal (Some left)
  pub known : IsSome tape
  pub reopened : Image
  pub crashed : IfSome journal.image (λ image. IsLeftBy image reopened.contents)
  pub further : List Operation
  pub again : Book
  pub runs : HasRun (Some reopened) further again later
  pub begins : begun ≡ runs.begun
