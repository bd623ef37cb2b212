use Rattle.page_text.specs.Rowless.{AddsRowless}
use Rattle.page_text.proofs.form.add_reasons.Given as goal

-- what is added so far has no row
abbrev pub invariant-loop-reason : goal.invariant-loop-reason
invariant-loop-reason l = AddsRowless l.initial.page l.page
