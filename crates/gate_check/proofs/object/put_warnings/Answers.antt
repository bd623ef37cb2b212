use Rattle.json_line.specs.Adding.{adds_then}
use Rattle.gate_check.proofs.object.put_warnings.Goals as goal

pub returns : goal.returns
returns c = adds_then c.in_ok-open_list.ensures (adds_then c.in_ok-add_all.ensures c.in_ok-close_list.ensures)
