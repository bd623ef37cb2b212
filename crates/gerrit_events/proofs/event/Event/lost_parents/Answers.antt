use Rattle.std.proofs.Common.{◌-◌, length, min, sym, ap, ◌∙◌}
use Rattle.std.proofs.lemmas.List.{length-map}
use Rattle.gerrit_events.specs.Trees.{data_in}
use Rattle.gerrit_events.proofs.Parents.{lost_in_event, lost_in_row}
use Rattle.gerrit_events.proofs.event.Event.lost_parents.Goals as goal

pub returns-in-QueryLine : goal.returns-in-QueryLine
returns-in-QueryLine c =
    lost_in_row c.args.self.now.known.now c.args.self.now.line.kind (data_in c.args.self.now.line.value.now) _ _ _ c.in-QueryLine.is
    (sym (length-map c.parents_part.result.now data_in) ∙ ap length c.parents_part.ensures)
    (c.min.ensures ∙ ap (λ parents. min (length parents) 1) c.requires) c.saturating_sub.ensures

pub returns-in_default : goal.returns-in_default
returns-in_default c =
    c.saturating_sub-in_default.ensures ∙ ap (λ parents. length parents - 1) c.requires
    ∙ lost_in_event c.args.self.now.known.now c.args.self.now.line.kind (data_in c.args.self.now.line.value.now) c.in_default.not-QueryLine
