use Rattle.json_line.specs.Adding.{adds_then, counted_tokens}
use Rattle.report_json.proofs.items.put_place.Goals as goal

pub returns : goal.returns
returns c = adds_then (counted_tokens c.in_ok-put_number.ensures c.from.ensures) (counted_tokens c.in_ok-put_number-2.ensures c.from-2.ensures)
