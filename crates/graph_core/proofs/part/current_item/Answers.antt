use Rattle.std.proofs.Common.{◌∙◌, sym, ap}
use Rattle.std.specs.Option.{option_copied}
use Rattle.graph_core.proofs.part.current_item.Goals as goal

pub returns-clause-item : goal.returns-clause-item
returns-clause-item c =
    (c.in_ok-change.field-0.now, sym c.change.ensures ∙ ap option_copied c.in_ok-change.was, c.in_ok-set.ensures.known)
