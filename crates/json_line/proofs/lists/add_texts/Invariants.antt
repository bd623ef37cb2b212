use Rattle.std.proofs.Common.{flat_map, take, string_bytes}
use Rattle.json_line.specs.Tokens.{AddsTokens, text_item}
use Rattle.json_line.proofs.lists.add_texts.Given as goal

-- the items so far are added
abbrev pub invariant-loop-text : goal.invariant-loop-text
invariant-loop-text l = AddsTokens l.initial.out l.out (flat_map (λ text. text_item (string_bytes text)) (take l.text-index l.texts))
