use Rattle.json_line.specs.Adding.{adds_then}
use Rattle.report_json.proofs.asked.put_votes.Goals as goal

pub returns : goal.returns
returns c = adds_then c.in_ok-open_list.ensures (adds_then c.in_ok-add_votes.ensures c.in_ok-close_list.ensures)
