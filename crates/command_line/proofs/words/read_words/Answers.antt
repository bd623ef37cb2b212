use Rattle.std.proofs.Common.{inl, inr, map}
use Rattle.command_line.proofs.Naming.{asks_meant, nothing_matched}
use Rattle.command_line.proofs.words.read_words.Goals as goal

pub returns-in-Command : goal.returns-in-Command
returns-in-Command g c =
    let parsed = c.in-Command.ensures in
    asks_meant (map g.S.AsStr.text c.args.words.now) _ c.asked_of.result parsed.0 parsed.1 c.asked_of.ensures

pub returns-in-Usage : goal.returns-in-Usage
returns-in-Usage g c = elim c.in-Usage.ensures [
  | inl faulty ↦ inl faulty
  | inr none ↦ inr (none.0, nothing_matched _ none.1)
]
