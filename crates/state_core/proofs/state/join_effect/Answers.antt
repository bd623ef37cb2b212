use Rattle.std.proofs.Common.{◌∙◌, ap, refl, subst}
use Rattle.std.proofs.lemmas.Result.{on_ok_weaker, on_err_weaker}
use Rattle.std.specs.Prelude.{IsSome}
use Rattle.std.specs.FinMap.{insert}
use Rattle.review_ops.specs.Deed.{change_of}
use Rattle.change_core.specs.Change.{change_joined, effect_of}
use Rattle.state_core.specs.State.{state_shown}
use Rattle.state_core.proofs.Joining.{effect_in_place, effect_added, unchanged_in_place}
use Rattle.state_core.proofs.state.join_effect.Goals as goal

pub returns-in-Some-clause-ok : goal.returns-in-Some-clause-ok
returns-in-Some-clause-ok g c =
    let old = state_shown c.args.changes.now in
    let new = c.take.new.self in
    let shown = c.get_mut.follows.holds new (subst IsSome c.in-Some.ensures.value refl) in
    on_ok_weaker c.take.result
    (λ e. effect_in_place old _ c.args.op.now c.change-number.result c.in-Some.change.now new (c.change-number.ensures.value ∙ ap change_of c.body.ensures.value) c.in-Some.ensures.value e shown)
    c.take.ensures.ok

pub returns-in-Some-clause-err : goal.returns-in-Some-clause-err
returns-in-Some-clause-err g c =
    let old = state_shown c.args.changes.now in
    let new = c.take.new.self in
    let shown = c.get_mut.follows.holds new (subst IsSome c.in-Some.ensures.value refl) in
    on_err_weaker c.take.result
    (λ e. unchanged_in_place old _ c.change-number.result c.in-Some.change.now new c.in-Some.ensures.value e shown)
    c.take.ensures.err

pub returns-clause-ok : goal.returns-clause-ok
returns-clause-ok g c =
    let old = state_shown c.args.changes.now in
    let number = c.change-number.result in
    let new = c.in_ok-new.field-0 in
    let none = c.get_mut.follows.holds-at-none in
    on_ok_weaker c.put.result
    (λ e. effect_added old _ c.args.op.now number new (c.change-number.ensures.value ∙ ap change_of c.body.ensures.value) c.in_default.ensures.value
    (c.in_ok-new.ensures ∙ c.in_ok-take.ensures.ok ∙ ap (λ was. change_joined was (effect_of c.args.op.now)) c.new-change.ensures)
    (e ∙ ap (λ m. insert (state_shown m) number new) none))
    c.put.ensures.ok
