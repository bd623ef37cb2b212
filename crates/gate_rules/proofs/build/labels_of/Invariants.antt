use Rattle.std.proofs.Common.{◌≡◌, ◌++◌}
use Rattle.serde_json.specs.View.{members_view}
use Rattle.gate_rules.specs.Reading.{labels_of}
use Rattle.gate_rules.proofs.build.labels_of.Given as goal

-- the labels so far, and those of the members that are left
abbrev pub invariant-loop-key : goal.invariant-loop-key
invariant-loop-key l = record {
  can_next : (goal.iterator-loop-key).can_next l.key-iterator;
  is_finite : (goal.iterator-loop-key).is_finite l.key-iterator;
  so_far : l.labels.items ++ labels_of (members_view l.key-iterator) ≡ labels_of (members_view l.fn.members.entries);
}
