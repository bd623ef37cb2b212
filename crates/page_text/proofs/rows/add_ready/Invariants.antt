use Rattle.std.proofs.Common.{◌≡◌, ◌+◌, ◌++◌, drop}
use Rattle.std.specs.Prelude.{filter}
use Rattle.page_text.specs.Rows.{entering, is_asked}
use Rattle.page_text.proofs.rows.add_ready.Given as goal

-- the rows so far, and those of the items that are left; the search is for the same words
abbrev pub invariant-loop-place : goal.invariant-loop-place
invariant-loop-place l = record {
  rows : l.rows.items ++ filter (is_asked l.state l.choice) (entering (l.place + 1) (drop l.place l.items))
      ≡ l.initial.rows.items ++ filter (is_asked l.state l.choice) (entering 1 l.items);
  search : l.search ≡ l.initial.search;
}
