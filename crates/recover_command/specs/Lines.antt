-- The line of a journal's fault on standard error, in the form of a refusal. It is the project's own.
use Rattle.std.specs.Prelude.{ℕ, List}
use Rattle.refusal_line.specs.Line.{line_of}
use Rattle.refusal_line.specs.declared.part.Part.TheVariants.{Journal}
use Rattle.site_journal.specs.Fault.{number_of, words_of}
use Rattle.site_journal.specs.declared.fault.JournalFault.{JournalFault}

-- why a journal isn't read
abbrev pub journal_line : JournalFault → List ℕ
journal_line fault = line_of Journal (number_of fault) (words_of fault)
