use Rattle.std.proofs.Common.{All}
use Rattle.std.specs.Prelude.{IsUtf8}
use Rattle.page_text.specs.Rowless.{AddsRowless, IsRowless, IsRowlessPiece}
use Rattle.page_text.proofs.template.fill.Given as goal

-- what is added so far has no row, and the rest of the template has none
abbrev pub invariant-loop-piece : goal.invariant-loop-piece
invariant-loop-piece l = record {
  rowless : IsRowless l.fn.template → All IsRowlessPiece l.fn.pieces → AddsRowless l.fn.page l.page × IsRowless l.rest;
  text : IsUtf8 l.rest;
}
