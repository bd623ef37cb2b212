use Rattle.std.proofs.Common.{map}
use Rattle.std.specs.FinMap.{entries}
use Rattle.change_core.specs.Parts.{patch_of, sets_shown}
use Rattle.gate_check.specs.Unused.{HasFooter, IsSought, SomeIs, messages_of}
use Rattle.gate_check.proofs.unused.Sought.is_in_change.Given as goal

-- it is left to look at the rest
abbrev pub invariant-loop-set : goal.invariant-loop-set
invariant-loop-set l = record {
  there : SomeIs (HasFooter (IsSought l.self)) (messages_of (entries (sets_shown l.sets)))
      → SomeIs (HasFooter (IsSought l.self)) (messages_of (map (λ pair. (pair.0, (pair.1.0, patch_of pair.1.1))) l.set-iterator));
  back : SomeIs (HasFooter (IsSought l.self)) (messages_of (map (λ pair. (pair.0, (pair.1.0, patch_of pair.1.1))) l.set-iterator))
      → SomeIs (HasFooter (IsSought l.self)) (messages_of (entries (sets_shown l.sets)));
}
