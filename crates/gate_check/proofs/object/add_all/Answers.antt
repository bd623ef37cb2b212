use Rattle.std.proofs.Common.{◌++◌, ◌∙◌, ap, flat_map, take}
use Rattle.json_line.specs.Adding.{adds_same, adds_then, flat_more}
use Rattle.gate_check.specs.Checked.{warning_tokens}
use Rattle.gate_check.specs.Warnings.{Found}
use Rattle.gate_check.proofs.object.add_all.Goals as goal

pub loop-finding-preserved : goal.loop-finding-preserved
loop-finding-preserved c =
    let so_far = flat_map warning_tokens (take c.loop-finding.finding-index c.args.found.now) in
    adds_same (adds_then c.loop-finding.invariant c.in_ok-put.ensures)
    (ap (λ (found : Found). so_far ++ warning_tokens found) c.finding-item.is
    ∙ flat_more warning_tokens c.args.found.now c.loop-finding.finding-index c.finding-item.result c.loop-finding-test.true)
