use Rattle.std.proofs.Common.{◌∙◌, subst}
use Rattle.std.proofs.lemmas.Result.{IfOk-weaker}
use Rattle.json_line.specs.Adding.{adds_then, begun, finished, all_written}
use Rattle.json_line.specs.Tokens.{AreReadBack}
use Rattle.report_json.proofs.why.why_line.Goals as goal

pub line_of-requires : goal.line_of-requires
line_of-requires c =
    begun (c.new-out.ensures.before ∙ c.new.ensures.items)
    (adds_then c.in_ok-open_object.ensures (adds_then c.in_ok-put_why.ensures.1 c.in_ok-close_object.ensures))

pub returns : goal.returns
returns c =
    let why = c.in_ok-put_why.ensures in
    let all = adds_then c.in_ok-open_object.ensures (adds_then why.1 c.in_ok-close_object.ensures) in
    IfOk-weaker c.line_of.result _ _
    (λ line is. record {
      reason = why.0;
      is_reason = why.2;
      text = finished c.new-out.ensures.tokens all is;
      reads = subst AreReadBack (all_written c.new-out.ensures.tokens all) c.line_of.ensures.reads;
    }) c.line_of.ensures.line
