use Rattle.std.proofs.Common.{◌+◌, Global, Vec, get_or, sym, ap, ◌∙◌, subst}
use Rattle.std.proofs.lemmas.Option.{slice_get-get_or}
use Rattle.state_core.specs.declared.item.Item.{Item}
use Rattle.why_text.specs.Cycle.{AreTaken}
use Rattle.why_text.proofs.Cycles.{none_taken, taken_less, taken_more}
use Rattle.why_text.proofs.cycle.taken.Goals as goal
use Rattle.why_text.proofs.cycle.taken.Goals.{then-is_other+in_ok-push, else-is_other}

pub loop-place-init : goal.loop-place-init
loop-place-init c = none_taken c.args.items.now c.args.itself.now c.args.behind.now c.args.ahead.now c.new-others.result.items c.new-others.ensures.items

pub loop-place-preserved : goal.loop-place-preserved
loop-place-preserved c =
    let items = c.args.items.now in
    let itself = c.args.itself.now in
    let behind = c.args.behind.now in
    let ahead = c.args.ahead.now in
    let place = c.loop-place.place in
    let others = c.loop-place.others.items in
    let next = get_or items place (record { change = 0; set = 0 }) in
    elim c.if-is_other.branch [
      | then-is_other+in_ok-push w ↦
          taken_more items itself behind ahead c.requires.in_order place others c.loop-place.invariant next
          (slice_get-get_or items place _ c.loop-place-test.true) w.if-is_other.ensures
          c.if-is_other.others.items (ap (λ (v : Vec Item Global). v.items) w.others-is ∙ w.in_ok-push.ensures.items)
      | else-is_other w ↦
          subst (AreTaken items itself behind ahead (place + 1))
          (sym (ap (λ (v : Vec Item Global). v.items) w.others-is))
          (taken_less items itself behind ahead c.requires.in_order place others c.loop-place.invariant w.if-is_other.ensures)
    ]
