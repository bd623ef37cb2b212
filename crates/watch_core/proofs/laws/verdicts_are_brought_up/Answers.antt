use Rattle.watch_core.proofs.Bringing.{brought_up}
use Rattle.watch_core.proofs.laws.verdicts_are_brought_up.Goals as goal

pub returns : goal.returns
returns c = λ gate before after reached untouched old found new was items are holds up.
    brought_up gate before after reached untouched old found new was items are holds up
