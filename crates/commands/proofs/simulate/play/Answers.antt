use Rattle.std.proofs.Common.{sym, subst}
use Rattle.std.proofs.lemmas.Result.{err_from_is_err_and}
use Rattle.std.specs.Vec.Iter.{into_iter_items}
use Rattle.script_play.specs.Playing.{PlaysStep}
use Rattle.commands.proofs.Played.{cut_of, goes_on, is_cut, whole_of}
use Rattle.commands.proofs.simulate.play.Goals as goal

pub returns-in_err-print : goal.returns-in_err-print
returns-in_err-print g c =
    let p = err_from_is_err_and c.from_residual.result c.from_residual.ensures.1 in
    let mid = g.C.Console.state c.loop-step.console in
    let now = g.C.Console.state c.print.new.self in
    let cut = cut_of c.as_bytes.result.now mid now c.in_err-print.field-0.0 c.in_err-print.ensures in
    let plays = subst (λ text. PlaysStep c.loop-step.world c.in-Some.step text c.play_step.new.world) (sym c.as_bytes.ensures) c.in-Ok-play_step.ensures in
    rw (p.1, p.2, cut.0)
    (is_cut c.args.script.sites c.args.script.steps.items (into_iter_items c.loop-step.step-iterator) c.loop-step.world (g.C.Console.state c.args.console.now) mid c.loop-step.invariant
    c.args.script.bad_line c.in-Some.step (into_iter_items c.next.new.self) c.as_bytes.result.now c.play_step.new.world now c.in-Some.ensures.steps.0 plays cut.1)

pub loop-step-preserved-in_ok-print : goal.loop-step-preserved-in_ok-print
loop-step-preserved-in_ok-print g c =
    let mid = g.C.Console.state c.loop-step.console in
    let now = g.C.Console.state c.print.new.self in
    let plays = subst (λ text. PlaysStep c.loop-step.world c.in-Some.step text c.play_step.new.world) (sym c.as_bytes.ensures) c.in-Ok-play_step.ensures in
    goes_on c.args.script.sites c.args.script.steps.items (into_iter_items c.loop-step.step-iterator) c.loop-step.world
    (g.C.Console.state c.args.console.now) mid c.loop-step.invariant
    c.in-Some.step (into_iter_items c.next.new.self) c.as_bytes.result.now c.play_step.new.world now c.in-Some.ensures.steps.0 plays (whole_of c.as_bytes.result.now mid now _ c.in_ok-print.ensures)

pub loop-step-preserved : goal.loop-step-preserved
loop-step-preserved g c =
    let mid = g.C.Console.state c.loop-step.console in
    let now = g.C.Console.state c.print.new.self in
    let plays = subst (λ text. PlaysStep c.loop-step.world c.in-Some.step text c.play_step.new.world) (sym c.as_bytes.ensures) c.in-Ok-play_step.ensures in
    goes_on c.args.script.sites c.args.script.steps.items (into_iter_items c.loop-step.step-iterator) c.loop-step.world
    (g.C.Console.state c.args.console.now) mid c.loop-step.invariant
    c.in-Some.step (into_iter_items c.next.new.self) c.as_bytes.result.now c.play_step.new.world now c.in-Some.ensures.steps.0 plays (whole_of c.as_bytes.result.now mid now _ c.in_ok-print.ensures)
