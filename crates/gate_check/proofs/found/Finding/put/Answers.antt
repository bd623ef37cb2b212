use Rattle.json_line.specs.Adding.{adds_then}
use Rattle.gate_check.proofs.found.Finding.put.Goals as goal

pub returns : goal.returns
returns c = adds_then c.in_ok-open_object.ensures
    (adds_then (adds_then c.in_ok-put_kind.ensures c.in_ok-put_details.ensures) c.in_ok-close_object.ensures)
