use Rattle.std.proofs.Common.{◌≡◌, ◌++◌, flat_map, string_bytes}
use Rattle.std.specs.Prelude.{IsUtf8}
use Rattle.std.specs.Str.{chars}
use Rattle.gate_check.specs.Asking.{pointer_escaped}
use Rattle.gate_check.proofs.place.escaped.Given as goal

-- the name so far, and what is made of the characters that are left
abbrev pub invariant-loop-letter : goal.invariant-loop-letter
invariant-loop-letter l = record {
  can_next : (goal.iterator-loop-letter).can_next l.letter-iterator;
  is_finite : (goal.iterator-loop-letter).is_finite l.letter-iterator;
  text : IsUtf8 l.letter-iterator.rest.now;
  so_far : string_bytes l.name ++ flat_map pointer_escaped (chars l.letter-iterator.rest.now)
      ≡ flat_map pointer_escaped (chars l.connection);
}
