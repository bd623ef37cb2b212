use Rattle.std.proofs.Common.{subst}
use Rattle.gate_check.specs.Ignored.{IsNearMiss}
use Rattle.gate_check.proofs.Missed.{gains_nothing, gains_one}
use Rattle.gate_check.proofs.Sought.{not_if, so_if}
use Rattle.gate_check.proofs.ignored.add_line.Goals as goal

pub returns-in_default : goal.returns-in_default
returns-in_default c =
    gains_nothing c.args.values.now c.args.bases.now c.args.line.now (λ value misses. c.in_default.ensures value misses.0)

pub returns-in_ok-add : goal.returns-in_ok-add
returns-in_ok-add c =
    gains_one c.args.values.now c.args.bases.now c.args.line.now c.add.new.texts c.in-Some.value.now
    (λ other footer. c.footers_are_unique.ensures.line c.args.line.now other c.in-Some.value.now footer c.in-Some.ensures)
    c.in-Some.ensures
    (so_if (IsNearMiss c.args.bases.now c.in-Some.value.now) c.is_near_miss.result c.if-is_near_miss.true c.is_near_miss.ensures)
    c.in_ok-add.ensures

pub returns-else-is_near_miss : goal.returns-else-is_near_miss
returns-else-is_near_miss c =
    gains_nothing c.args.values.now c.args.bases.now c.args.line.now
    (λ value misses. not_if (IsNearMiss c.args.bases.now c.in-Some.value.now) c.is_near_miss.result c.if-is_near_miss.false c.is_near_miss.ensures
    (subst (IsNearMiss c.args.bases.now) (c.footers_are_unique.ensures.line c.args.line.now value c.in-Some.value.now misses.0 c.in-Some.ensures) misses.1))
