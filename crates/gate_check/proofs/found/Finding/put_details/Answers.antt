use Rattle.std.proofs.Common.{ap}
use Rattle.json_line.specs.Adding.{adds_same, adds_then}
use Rattle.gate_check.specs.Checked.{detail_tokens}
use Rattle.gate_check.proofs.found.Finding.put_details.Goals as goal

pub returns : goal.returns
returns c = adds_same (adds_then c.in_ok-put_if.ensures c.in_ok-put_if-2.ensures) (ap detail_tokens c.self.view_is)
