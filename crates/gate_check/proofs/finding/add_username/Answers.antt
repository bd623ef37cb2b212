use Rattle.gate_check.specs.Warnings.{nobody_warnings, pattern_warnings}
use Rattle.std.proofs.Common.{option_map}
use Rattle.std.proofs.lemmas.Result.{on_ok_weaker}
use Rattle.gate_check.proofs.Texts.{added}
use Rattle.gate_check.proofs.finding.add_username.Goals as goal

pub returns : goal.returns
returns c =
    let place = c.args.place.now in
    let name = option_map (λ name. name.now) c.args.username in
    on_ok_weaker c.add_nobody.result
    (added c.args.found.now.items (pattern_warnings place name) (nobody_warnings place name)
    c.add_pattern.new.found.items c.add_nobody.new.found.items c.in_ok-add_pattern.ensures) c.add_nobody.ensures
