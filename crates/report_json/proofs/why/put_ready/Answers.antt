use Rattle.json_line.specs.Adding.{adds_then}
use Rattle.report_json.proofs.why.put_ready.Goals as goal

pub returns : goal.returns
returns c =
    adds_then c.in_ok-put_place.ensures
    (adds_then c.in_ok-put_flag.ensures (adds_then c.in_ok-open_list.ensures c.in_ok-close_list.ensures))
