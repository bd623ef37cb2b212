use Rattle.std.proofs.Common.{◌∙◌, refl}
use Rattle.json_line.specs.Adding.{adds_then, texted}
use Rattle.report_json.proofs.conditions.add_tried.Goals as goal

pub returns : goal.returns
returns c =
    let asked = c.in_ok-put_asked.ensures in (
      _,
      adds_then c.in_ok-open_object.ensures
          (adds_then (adds_then (texted c.in_ok-put_text.ensures (c.as_str.ensures.value ∙ c.in_ok-words.ensures)) (adds_then c.in_ok-put_flag.ensures asked.1)) c.in_ok-close_object.ensures),
      record { details = asked.0; shown = asked.2; members = refl },
    )
