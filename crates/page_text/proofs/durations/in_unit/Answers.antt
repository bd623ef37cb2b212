use Rattle.std.proofs.Common.{refl}
use Rattle.page_text.specs.Rowless.{begun_in}
use Rattle.page_text.proofs.durations.in_unit.Goals as goal

pub returns-then-milliseconds-lt-MINUTE : goal.returns-then-milliseconds-lt-MINUTE
unfolding begun_in
returns-then-milliseconds-lt-MINUTE c = refl

pub returns-then-milliseconds-lt-HOUR : goal.returns-then-milliseconds-lt-HOUR
unfolding begun_in
returns-then-milliseconds-lt-HOUR c = refl

pub returns-then-milliseconds-lt-DAY : goal.returns-then-milliseconds-lt-DAY
unfolding begun_in
returns-then-milliseconds-lt-DAY c = refl

pub returns-else-milliseconds-lt-DAY : goal.returns-else-milliseconds-lt-DAY
unfolding begun_in
returns-else-milliseconds-lt-DAY c = refl
