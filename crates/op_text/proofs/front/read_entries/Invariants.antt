use Rattle.std.proofs.Common.{take}
use Rattle.serde_json.specs.View.{items_view}
use Rattle.op_text.specs.Front.{AreEntries}
use Rattle.op_text.proofs.front.read_entries.Given as goal

-- the values so far are the entries so far
abbrev pub invariant-loop-value : goal.invariant-loop-value
invariant-loop-value l = AreEntries (items_view (take l.value-index l.value-items)) l.entries.items
