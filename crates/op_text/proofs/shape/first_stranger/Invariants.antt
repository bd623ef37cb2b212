use Rattle.std.proofs.Common.{◌≡◌, ◌++◌, map}
use Rattle.std.specs.Map.Iter.{deref}
use Rattle.std.specs.BTreeMap.{keys}
use Rattle.op_text.proofs.Entries.{AreFieldKeys}
use Rattle.op_text.proofs.shape.first_stranger.Given as goal

-- the keys so far are fields' keys
abbrev pub invariant-loop-key : goal.invariant-loop-key
invariant-loop-key l = record {
  can_next : (goal.iterator-loop-key).can_next l.key-iterator;
  is_finite : (goal.iterator-loop-key).is_finite l.key-iterator;
  so_far : map deref l.yielded ++ l.key-iterator ≡ keys l.members;
  named : AreFieldKeys (map deref l.yielded);
}
