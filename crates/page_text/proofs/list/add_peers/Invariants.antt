use Rattle.page_text.specs.Rowless.{AddsRowless}
use Rattle.page_text.proofs.list.add_peers.Given as goal

-- what is added so far has no row
abbrev pub invariant-loop-peer : goal.invariant-loop-peer
invariant-loop-peer l = AddsRowless l.initial.page l.page
