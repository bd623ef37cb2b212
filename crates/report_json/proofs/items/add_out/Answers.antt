use Rattle.json_line.specs.Adding.{adds_then}
use Rattle.report_json.proofs.items.add_out.Goals as goal

pub returns : goal.returns
returns c = adds_then c.in_ok-open_object.ensures
    (adds_then (adds_then c.in_ok-put_place.ensures c.in_ok-put_refusal.ensures) c.in_ok-close_object.ensures)
