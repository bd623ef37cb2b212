use Rattle.std.proofs.Common.{rules}
use Rattle.json_line.specs.Adding.{adds_then, signed_so}
use Rattle.report_json.proofs.asked.add_vote.Goals as goal

pub returns : goal.returns
returns c =
    adds_then c.in_ok-open_object.ensures
    (adds_then (adds_then c.in_ok-put_text.ensures (adds_then c.in_ok-put_text-2.ensures (signed_so {m = c.args.approval.now.value} c.in_ok-put_signed.ensures (search rules)))) c.in_ok-close_object.ensures)
