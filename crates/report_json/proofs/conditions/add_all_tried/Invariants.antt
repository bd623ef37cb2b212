use Rattle.std.proofs.Common.{List, take}
use Rattle.json.specs.Token.{Token}
use Rattle.json_line.specs.Tokens.{AddsTokens}
use Rattle.why_text.specs.All.{WritesEach}
use Rattle.report_json.specs.Why.{SaysTried}
use Rattle.report_json.proofs.conditions.add_all_tried.Given as goal

-- the objects so far are added
abbrev pub invariant-loop-one : goal.invariant-loop-one
invariant-loop-one l = (added : List Token) × AddsTokens l.initial.out l.out added
    × WritesEach (SaysTried l.file l.state l.item) (take l.one-index l.tried) added
