use Rattle.std.proofs.Common.{ℕ, Contains, take}
use Rattle.watch_core.specs.Namers.{IsNamer, KeepsNamers}
use Rattle.watch_core.proofs.namers.add_item.Given as goal

abbrev pub invariant-loop-target : goal.invariant-loop-target
invariant-loop-target l = record {
  keeps : KeepsNamers l.initial.namers l.namers;
  names : (number : ℕ) → Contains (take l.target-index l.targets) number → IsNamer l.namers number l.item;
}
