use Rattle.std.proofs.Common.{◌+◌, sym, arith}
use Rattle.replica_core.proofs.Greatest.{no_higher}
use Rattle.replica_core.proofs.line.climbed.Goals as goal

pub returns-after-loop-reach : goal.returns-after-loop-reach
returns-after-loop-reach g c = record {
  gapless = c.loop-reach.invariant;
  ends = no_higher c.args.arrivals.now.items c.args.line.now c.requires.filed (c.loop-reach.reach + 1)
      (omega (arith, sym c.last_seq-last.ensures, c.loop-reach-test.false));
}
