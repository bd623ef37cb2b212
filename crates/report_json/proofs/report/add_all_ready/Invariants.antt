use Rattle.std.proofs.Common.{flat_map, take}
use Rattle.json_line.specs.Tokens.{AddsTokens}
use Rattle.report_json.specs.Report.{ready_tokens}
use Rattle.report_json.proofs.report.add_all_ready.Given as goal

-- the items so far are added
abbrev pub invariant-loop-item : goal.invariant-loop-item
invariant-loop-item l = AddsTokens l.initial.out l.out (flat_map ready_tokens (take l.item-index l.items))
