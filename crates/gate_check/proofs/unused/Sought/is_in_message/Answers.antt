use Rattle.std.proofs.Common.{lit<, map, subst}
use Rattle.std.proofs.lemmas.Iterator.Consumers.{YieldsList-end, YieldsList-turn}
use Rattle.std.proofs.lemmas.Iterator.Splits.{YieldsList-from_str_split}
use Rattle.std.proofs.lemmas.List.{map-append}
use Rattle.footer_text.specs.Lines.{lines_of}
use Rattle.gate_check.specs.Unused.{HasValue, IsSought, SomeIs}
use Rattle.gate_check.proofs.Sought.{at_place, none_yet, not_if, so_if}
use Rattle.gate_check.proofs.unused.Sought.is_in_message.Goals as goal

pub loop-line-preserved : goal.loop-line-preserved
loop-line-preserved c =
    let P = HasValue (IsSought c.args.self) in
    rw map-append
    (none_yet P (map (λ line. line.now) c.loop-line.yielded) c.in-Some.line.now c.loop-line.invariant
    (not_if (P c.in-Some.line.now) c.is_in_line.result c.if-is_in_line.false c.is_in_line.ensures))

pub returns-then-is_in_line : goal.returns-then-is_in_line
returns-then-is_in_line c =
    let P = HasValue (IsSought c.args.self) in
    let yields = YieldsList-from_str_split {s = c.into_iter-line-iterator.result} 10 c.args.message.now (lit< tt) (cc) (cc) (cc) in
    let turn = YieldsList-turn yields c.loop-line.yielded _ c.loop-line.yielded_by _ _ c.in-Some.line c.in-Some.is c.next.ensures.steps in
    at_place P (lines_of c.args.message.now) _ c.in-Some.line.now turn.0 turn.1
    (so_if (P c.in-Some.line.now) c.is_in_line.result c.if-is_in_line.true c.is_in_line.ensures)

pub returns : goal.returns
returns c =
    let yields = YieldsList-from_str_split {s = c.into_iter-line-iterator.result} 10 c.args.message.now (lit< tt) (cc) (cc) (cc) in
    let whole = YieldsList-end yields c.loop-line.yielded _ c.loop-line.yielded_by _ _ c.in-None.is c.next.ensures.steps in
    subst (λ lines. ¬ SomeIs (HasValue (IsSought c.args.self)) lines) whole.0 c.loop-line.invariant
