use Rattle.std.proofs.Common.{◌∙◌}
use Rattle.json_line.specs.Adding.{texted}
use Rattle.report_json.proofs.items.put_refusal.Goals as goal

pub returns : goal.returns
returns c = texted c.in_ok-put_text.ensures (c.as_str.ensures.value ∙ c.in_ok-words.ensures)
