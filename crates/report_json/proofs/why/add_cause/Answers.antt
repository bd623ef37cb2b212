use Rattle.json_line.specs.Adding.{adds_then}
use Rattle.report_json.proofs.why.add_cause.Goals as goal

pub returns : goal.returns
returns c =
    let details = c.in_ok-put_details.ensures in (
      details.0,
      adds_then c.in_ok-open_object.ensures
          (adds_then (adds_then c.in_ok-put_place.ensures (adds_then c.in_ok-put_refusal.ensures details.1)) c.in_ok-close_object.ensures),
      details.2,
    )
