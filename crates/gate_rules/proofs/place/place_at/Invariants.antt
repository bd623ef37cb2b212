use Rattle.std.proofs.Common.{◌≡◌, ◌≤◌, ◌+◌, drop}
use Rattle.gate_rules.specs.Place.{end_from, place_at}
use Rattle.gate_rules.proofs.place.place_at.Given as goal

-- from here the bytes that are left lead to the end; and each byte adds one at most
abbrev pub invariant-loop-byte : goal.invariant-loop-byte
invariant-loop-byte l = record {
  so_far : end_from l.place (drop l.byte-index l.byte-items) ≡ place_at l.text l.offset;
  some : 1 ≤ l.place.column;
  few : l.place.line + l.place.column ≤ 2 + l.byte-index;
}
