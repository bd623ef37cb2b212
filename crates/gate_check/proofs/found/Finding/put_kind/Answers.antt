use Rattle.std.proofs.Common.{◌∙◌, ap}
use Rattle.json_line.specs.Adding.{adds_same, adds_then, counted_tokens, texted}
use Rattle.gate_check.specs.Checked.{kind_tokens}
use Rattle.gate_check.proofs.found.Finding.put_kind.Goals as goal

pub returns : goal.returns
returns c =
    adds_same (adds_then (counted_tokens c.in_ok-put_number.ensures (c.from.ensures ∙ c.number.ensures))
    (adds_then (texted c.in_ok-put_text.ensures c.name.ensures) (texted c.in_ok-put_text-2.ensures c.as_str.ensures.value)))
    (ap kind_tokens c.self.view_is)
