use Rattle.std.proofs.Common.{flat_map, take}
use Rattle.json_line.specs.Tokens.{AddsTokens, text_item}
use Rattle.json_line.proofs.lists.add_words.Given as goal

-- the items so far are added
abbrev pub invariant-loop-word : goal.invariant-loop-word
invariant-loop-word l = AddsTokens l.initial.out l.out (flat_map (λ word. text_item word.now) (take l.word-index l.words))
