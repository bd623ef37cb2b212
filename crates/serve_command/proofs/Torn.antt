-- How the torn line of a journal is reported, and why no record is begun.
use Rattle.std.proofs.Common.{ℕ, List, Option, None, Some, Result, Ok, Err}
use Rattle.std.specs.Prelude.{IfErr, IfSome, OnOk}
use Rattle.console.specs.Showing.{ErrorOutput}
use Rattle.review_ops.specs.Operation.{Operation}
use Rattle.serve_command.specs.Beginning.{IsOfSite, IsUnbegun, SaysTorn, SaysTornOf}
use Rattle.serve_command.specs.declared.command.Ended.{Ended}
use Rattle.serve_command.specs.declared.command.Ended.TheVariants.{Site}
use Rattle.site_journal.specs.Book.{IsOpened}
use Rattle.site_journal.specs.Tape.{Changes, Image, IsSettled}

-- the report is about the journal that was opened
pub torn_said : {E : Type 0} (output : E → ErrorOutput) (known later : Option Image) (own : List Operation) (torn : ℕ)
    (old new : E) → Changes known later (λ i j. IsSettled j × IsOpened i.contents own torn j.contents)
    → SaysTorn output torn old new → IfSome known (λ i. SaysTornOf output i.contents old new)
torn_said output None later own torn old new opened says = tt
torn_said output (Some i) None own torn old new opened says = absurd opened
torn_said output (Some i) (Some j) own torn old new opened says = (own, torn, j.contents, opened.1, says)

-- what holds in any case holds if the call succeeds
pub always_on_ok : {A F : Type 0} (result : Result A F) (P : Type 0) → P → OnOk result P
always_on_ok (Ok value) P p = p
always_on_ok (Err fault) P p = tt

-- if what was loaded can't be added no record is begun
pub unbegun_by_site : {A E : Type 0} (result : Result A Ended) (known : Option Image) (old new : E)
    → IfErr result IsOfSite → IfErr result (IsUnbegun known old new)
unbegun_by_site (Ok value) known old new is = tt
unbegun_by_site (Err (Site fault)) known old new is = tt
unbegun_by_site (Err ended) known old new is = absurd is
