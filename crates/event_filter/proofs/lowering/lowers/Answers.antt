use Rattle.std.proofs.Common.{◌≡◌, ◌∙◌, sym, ap, subst}
use Rattle.std.specs.Prelude.{IfOk}
use Rattle.review_ops.specs.Deed.{Deed}
use Rattle.change_core.specs.Change.{Change, no_change}
use Rattle.event_filter.specs.Lowering.{lowers_change}
use Rattle.event_filter.specs.Recorded.{change_at, change_or_none}
use Rattle.event_filter.proofs.lowering.lowers.Goals as goal

pub returns-in-None : goal.returns-in-None
returns-in-None c =
    let state = c.args.state.now in
    let deed : Deed = c.args.body.now in
    let answer = c.lowers_change-in-None-2.result in
    let absent : change_at state c.change.result ≡ no_change = ap change_or_none (sym c.in-None.ensures) in
    let of_change : Change → Type 0 = λ change. IfOk answer (λ does. does ≡ lowers_change change deed) in
    let of_deed : Deed → Type 0 = λ d. IfOk answer (λ does. does ≡ lowers_change no_change d) in
    subst of_change (sym absent ∙ ap (change_at state) c.change.ensures.value)
    (subst of_deed c.draft-in-None.ensures.value (rw c.new.ensures at c.lowers_change-in-None-2.ensures))
