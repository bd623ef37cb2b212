use Rattle.std.proofs.Common.{flat_map, take}
use Rattle.json_line.specs.Tokens.{AddsTokens, number_item}
use Rattle.json_line.proofs.lists.add_numbers.Given as goal

-- the items so far are added
abbrev pub invariant-loop-value : goal.invariant-loop-value
invariant-loop-value l = AddsTokens l.initial.out l.out (flat_map number_item (take l.value-index l.values))
