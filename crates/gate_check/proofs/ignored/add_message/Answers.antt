use Rattle.std.proofs.Common.{lit<, map, subst}
use Rattle.std.proofs.lemmas.Iterator.Consumers.{YieldsList-end}
use Rattle.std.proofs.lemmas.Iterator.Splits.{YieldsList-from_str_split}
use Rattle.std.proofs.lemmas.List.{map-append}
use Rattle.gate_check.specs.Gained.{GainsTexts}
use Rattle.gate_check.specs.Ignored.{LineMisses}
use Rattle.gate_check.specs.Unused.{SomeIs}
use Rattle.gate_check.proofs.Missed.{gains_more, gains_none}
use Rattle.gate_check.proofs.ignored.add_message.Goals as goal

pub loop-line-init : goal.loop-line-init
loop-line-init c = gains_none (LineMisses c.args.bases.now) c.args.values.now

pub loop-line-preserved : goal.loop-line-preserved
loop-line-preserved c =
    rw map-append
    (gains_more (LineMisses c.args.bases.now) c.args.values.now c.loop-line.values c.add_line.new.values (map (λ line. line.now) c.loop-line.yielded) c.in-Some.line.now c.loop-line.invariant c.in_ok-add_line.ensures)

pub returns : goal.returns
returns c =
    let yields = YieldsList-from_str_split {s = c.into_iter-line-iterator.result} 10 c.args.message.now (lit< tt) (cc) (cc) (cc) in
    let whole = YieldsList-end yields c.loop-line.yielded _ c.loop-line.yielded_by _ _ c.in-None.is c.next.ensures.steps in
    subst (λ lines. GainsTexts c.args.values.now (λ value. SomeIs (LineMisses c.args.bases.now value) lines) c.loop-line.values) whole.0 c.loop-line.invariant
