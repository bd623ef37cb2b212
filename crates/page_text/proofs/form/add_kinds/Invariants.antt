use Rattle.page_text.specs.Rowless.{AddsRowless}
use Rattle.page_text.proofs.form.add_kinds.Given as goal

-- what is added so far has no row
abbrev pub invariant-loop-kind : goal.invariant-loop-kind
invariant-loop-kind l = AddsRowless l.initial.page l.page
