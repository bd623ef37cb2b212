use Rattle.std.proofs.Common.{flat_map, take}
use Rattle.json_line.specs.Tokens.{AddsTokens}
use Rattle.report_json.specs.Report.{out_tokens}
use Rattle.report_json.proofs.report.add_all_out.Given as goal

-- the items so far are added
abbrev pub invariant-loop-one : goal.invariant-loop-one
invariant-loop-one l = AddsTokens l.initial.out l.out (flat_map out_tokens (take l.one-index l.left))
