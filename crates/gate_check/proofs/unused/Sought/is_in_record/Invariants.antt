use Rattle.std.proofs.Common.{flat_map, map}
use Rattle.state_core.specs.State.{state_shown}
use Rattle.gate_check.specs.Unused.{HasFooter, IsSought, SomeIs, messages_in, messages_on}
use Rattle.gate_check.proofs.unused.Sought.is_in_record.Given as goal

-- it is left to look at the rest
abbrev pub invariant-loop-number : goal.invariant-loop-number
invariant-loop-number l = record {
  there : SomeIs (HasFooter (IsSought l.self)) (messages_in (state_shown l.changes))
      → SomeIs (HasFooter (IsSought l.self)) (flat_map messages_on (map (λ pair. (pair.0, pair.1)) l.number-iterator));
  back : SomeIs (HasFooter (IsSought l.self)) (flat_map messages_on (map (λ pair. (pair.0, pair.1)) l.number-iterator))
      → SomeIs (HasFooter (IsSought l.self)) (messages_in (state_shown l.changes));
}
