use Rattle.std.proofs.Common.{ap, flat_map, refl}
use Rattle.json_line.specs.Adding.{adds_same, adds_then}
use Rattle.report_json.specs.Report.{ready_tokens}
use Rattle.report_json.proofs.why.put_cycle.Goals as goal

pub returns : goal.returns
returns c = (
  _,
  adds_then c.in_ok-open_list.ensures
      (adds_then (adds_same c.in_ok-add_all_ready.ensures (ap (flat_map ready_tokens) c.as_slice.ensures.value)) c.in_ok-close_list.ensures),
  record { others = c.in_ok-others.others.items; cycle = c.in_ok-others.ensures; members = refl },
)
