use Rattle.std.proofs.Common.{Contains, ◌∙◌, ap, sym, subst}
use Rattle.watch_core.specs.Namers.{items_at}
use Rattle.watch_core.proofs.Spread.{exchanged}
use Rattle.watch_core.proofs.namers.add_at.Goals as goal

pub returns-clause-keeps : goal.returns-clause-keeps
returns-clause-keeps c =
    exchanged c.args.namers.now c.remove.new.self c.insert.new.self c.args.target c.put.new.items c.remove.ensures.updates.0 c.in_ok-insert.ensures.updates.0
    (λ item has. c.in_ok-put.ensures.keeps item (subst (λ l. Contains l item) (ap items_at (sym c.remove.ensures.value) ∙ sym c.row_of-row.ensures) has))
