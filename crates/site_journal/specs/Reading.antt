-- How far the text of a journal was read.
use Rattle.std.specs.Prelude.{◌≡◌, ◌+◌, ℕ, List, [], ◌++◌, length}
use Rattle.review_ops.specs.Operation.{Operation}
use Rattle.replica_core.specs.Journal.{all_arrived}
use Rattle.site_journal.specs.Text.{header_line, whole_lines, SayOperations, IsTorn, SaysJournal, IsFresh}
use Rattle.site_journal.specs.Prefixes.{IsPrefix}
use Rattle.site_journal.specs.declared.reading.Head.{Head}
use Rattle.site_journal.specs.declared.reading.Head.TheVariants.{Whole, Front, Other}
use Rattle.site_journal.specs.declared.reading.Found.{Found}
use Rattle.site_journal.specs.declared.reading.Found.TheVariants.{Fresh, Lines}

-- of what came, the whole lines of operations arrived, and the rest is held; the next line has this number, from 1
pub record HasRead (came : List ℕ) (journal : List Operation) (held : List ℕ) (next : ℕ) : Type 0 where
  pub pieces : List (List ℕ)
  pub ops : List Operation
  pub whole : came ≡ header_line ++ (whole_lines pieces ++ held)
  pub says : SayOperations pieces ops
  pub torn : IsTorn held
  pub taken : journal ≡ all_arrived [] ops
  pub count : next ≡ length pieces + 2

-- what was found in a text
abbrev pub IsFoundText : List ℕ → Found → Type 0
IsFoundText text (Fresh bytes) = IsFresh text × (bytes ≡ length text)
IsFoundText text (Lines journal len torn) = (ops : List Operation) × (rest : List ℕ) × SaysJournal text ops rest
    × (journal ≡ all_arrived [] ops) × (torn ≡ length rest) × (length text ≡ len + torn)

-- what is where the first line should be, up to its length
abbrev pub IsJudged : List ℕ → Head → Type 0
IsJudged head Whole = head ≡ header_line
IsJudged head Front = IsFresh head
IsJudged head Other = ¬ IsPrefix head header_line
