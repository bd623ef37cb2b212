use Rattle.std.proofs.Common.{◌∙◌}
use Rattle.std.proofs.lemmas.Result.{IfOk-weaker}
use Rattle.json_line.specs.Adding.{adds_then, begun, finished}
use Rattle.report_json.proofs.items.ready_item_line.Goals as goal

pub line_of-requires : goal.line_of-requires
line_of-requires c =
    begun (c.new-out.ensures.before ∙ c.new.ensures.items)
    (adds_then c.in_ok-open_object.ensures (adds_then (adds_then c.in_ok-put_place.ensures c.in_ok-put_flag.ensures) c.in_ok-close_object.ensures))

pub returns : goal.returns
returns c =
    IfOk-weaker c.line_of.result _ _
    (λ line is. finished c.new-out.ensures.tokens
    (adds_then c.in_ok-open_object.ensures (adds_then (adds_then c.in_ok-put_place.ensures c.in_ok-put_flag.ensures) c.in_ok-close_object.ensures)) is) c.line_of.ensures.line
