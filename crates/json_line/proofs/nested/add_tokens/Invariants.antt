use Rattle.std.proofs.Common.{◌≡◌, ◌++◌, length}
use Rattle.json.specs.Lex.{tokens}
use Rattle.json_line.proofs.nested.add_tokens.Given as goal

-- what is written, with the tokens that are left, is the whole
abbrev pub invariant-loop-token : goal.invariant-loop-token
invariant-loop-token l = record {
  before : l.out.before ≡ l.initial.out.before;
  tokens : l.out.tokens ++ l.reader ≡ l.initial.out.tokens ++ tokens l.text;
}

abbrev pub decreases-loop-token : goal.decreases-loop-token
decreases-loop-token l = length l.reader
