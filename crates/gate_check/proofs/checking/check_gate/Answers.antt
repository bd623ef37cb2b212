use Rattle.std.proofs.Common.{◌∙◌, ap, length, map, string_bytes}
use Rattle.std.specs.Prelude.{option_map}
use Rattle.gate_check.specs.Shown.{evidence_shown}
use Rattle.gate_check.specs.Warnings.{warnings_of}
use Rattle.gate_check.proofs.Texts.{check_whole}
use Rattle.gate_check.proofs.checking.check_gate.Goals as goal

pub returns : goal.returns
returns c =
    let evidence = option_map evidence_shown c.in_ok-evidence.evidence in
    let found = c.as_slice-2.ensures.value ∙ c.in_ok-found.ensures in (
      evidence,
      c.in_ok-evidence.ensures,
      check_whole c.as_slice.result.now c.as_slice-2.result.now (warnings_of c.args.gate.now evidence) _ (string_bytes c.in_ok-checked.checked.text) c.in_ok-checked.ensures.text
          (ap (map string_bytes) c.as_slice.ensures.value ∙ c.in_ok-conditions.ensures) found,
      c.in_ok-checked.ensures.warnings ∙ ap length found,
    )
