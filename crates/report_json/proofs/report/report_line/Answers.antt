use Rattle.std.proofs.Common.{◌∙◌, ap, codes, flat_map}
use Rattle.std.proofs.lemmas.Result.{IfOk-weaker}
use Rattle.json_line.specs.Adding.{adds_same, adds_then, begun, finished}
use Rattle.json_line.specs.Tokens.{listed_tokens}
use Rattle.report_json.specs.Report.{out_tokens, ready_tokens}
use Rattle.report_json.proofs.report.report_line.Goals as goal

pub line_of-requires : goal.line_of-requires
line_of-requires c =
    begun (c.new-out.ensures.before ∙ c.new.ensures.items)
    (adds_then c.in_ok-open_object.ensures (adds_then (adds_then (adds_same c.in_ok-put_ready.ensures (ap (λ items. listed_tokens (codes "ready") (flat_map ready_tokens items)) c.ready.ensures)) (adds_same c.in_ok-put_out.ensures (ap (λ left. listed_tokens (codes "out") (flat_map out_tokens left)) c.out-3.ensures))) c.in_ok-close_object.ensures))

pub returns : goal.returns
returns c =
    IfOk-weaker c.line_of.result _ _
    (λ line is. finished c.new-out.ensures.tokens
    (adds_then c.in_ok-open_object.ensures (adds_then (adds_then (adds_same c.in_ok-put_ready.ensures (ap (λ items. listed_tokens (codes "ready") (flat_map ready_tokens items)) c.ready.ensures)) (adds_same c.in_ok-put_out.ensures (ap (λ left. listed_tokens (codes "out") (flat_map out_tokens left)) c.out-3.ensures))) c.in_ok-close_object.ensures)) is) c.line_of.ensures.line
