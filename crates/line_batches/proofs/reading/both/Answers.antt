use Rattle.std.proofs.Common.{◌++◌, subst, sym}
use Rattle.std.specs.Prelude.{IfSome}
use Rattle.std.proofs.lemmas.Option.{IfSome_then}
use Rattle.line_batches.specs.Batches.{IsBatch}
use Rattle.line_batches.proofs.Lines.{batch-append}
use Rattle.line_batches.proofs.reading.both.Goals as goal

pub returns-in-Some-Some : goal.returns-in-Some-Some
returns-in-Some-Some c = λ front back one two.
    IfSome_then c.joined.result c.joined.ensures (λ ops is.
    subst (IsBatch (front ++ back)) (sym is)
    (batch-append front back c.in-Some-Some.first.items c.in-Some-Some.second.items
    (subst (λ o. IfSome o (λ v. IsBatch front v.items)) c.in-Some-Some.is-0 one) (subst (λ o. IfSome o (λ v. IsBatch back v.items)) c.in-Some-Some.is-1 two)))
