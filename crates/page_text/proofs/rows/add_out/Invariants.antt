use Rattle.std.proofs.Common.{◌≡◌, ◌++◌, map, take}
use Rattle.std.specs.Prelude.{filter}
use Rattle.page_text.specs.declared.rows.Row.TheVariants.{Waits}
use Rattle.page_text.specs.Rows.{is_asked}
use Rattle.page_text.proofs.rows.add_out.Given as goal

-- the rows of those so far are added; the search is for the same words
abbrev pub invariant-loop-left : goal.invariant-loop-left
invariant-loop-left l = record {
  rows : l.rows.items ≡ l.initial.rows.items ++ filter (is_asked l.state l.choice) (map Waits (take l.left-index l.out));
  search : l.search ≡ l.initial.search;
}
