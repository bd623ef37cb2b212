use Rattle.std.proofs.Common.{◌∙◌}
use Rattle.gate_check.proofs.Gathered.{has_shown}
use Rattle.gate_check.proofs.names.has.Goals as goal

pub returns : goal.returns
returns c = c.contains.ensures ∙ has_shown c.args.texts.now.keys c.args.text.now
