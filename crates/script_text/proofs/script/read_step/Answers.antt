use Rattle.std.proofs.Common.{codes}
use Rattle.std.specs.Option.{option_copied}
use Rattle.script_text.proofs.Saying.{says_step}
use Rattle.script_text.proofs.script.read_step.Goals as goal

pub returns-in-Some-clause-says : goal.returns-in-Some-clause-says
returns-in-Some-clause-says c =
    let gate = option_copied c.args.gate in
    says_step gate c.args.line.now (codes "intake") c.in-Some.fields.now c.read_intake.result c.in-Some.ensures.found
    (c.read_intake.ensures.says gate)

pub returns-in-Some-after_word-clause-says : goal.returns-in-Some-after_word-clause-says
returns-in-Some-after_word-clause-says c =
    let gate = option_copied c.args.gate in
    says_step gate c.args.line.now
    (codes "send") c.in-Some-after_word.fields.now c.read_send.result c.in-Some-after_word.ensures.found
    (c.read_send.ensures.says gate)

pub returns-in-Some-after_word-2-clause-says : goal.returns-in-Some-after_word-2-clause-says
returns-in-Some-after_word-2-clause-says c =
    let gate = option_copied c.args.gate in
    says_step gate c.args.line.now
    (codes "deliver") c.in-Some-after_word-2.fields.now c.read_deliver.result c.in-Some-after_word-2.ensures.found
    (c.read_deliver.ensures.says gate)

pub returns-in-Some-after_word-3-clause-says : goal.returns-in-Some-after_word-3-clause-says
returns-in-Some-after_word-3-clause-says c =
    let gate = option_copied c.args.gate in
    says_step gate c.args.line.now
    (codes "restart") c.in-Some-after_word-3.fields.now c.read_restart.result c.in-Some-after_word-3.ensures.found
    (c.read_restart.ensures.says gate)
