use Rattle.json_line.specs.Adding.{adds_then}
use Rattle.report_json.proofs.items.put_verdict.Goals as goal

pub returns : goal.returns
returns c = adds_then c.in_ok-put_place.ensures (adds_then c.in_ok-put_flag.ensures c.in_ok-put_refusal.ensures)
