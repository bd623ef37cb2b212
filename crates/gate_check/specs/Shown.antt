-- What the sets of names have.
use Rattle.std.specs.Prelude.{map, string_bytes}
use Rattle.gate_check.specs.Evidence.{Evidence}
use Rattle.gate_check.specs.Names.{KnownNames}
use Rattle.gate_check.specs.declared.names.Names as kept
use Rattle.gate_check.specs.declared.evidence.Evidence as held

abbrev pub names_shown : kept.Names → KnownNames
names_shown names = record {
  labels = map string_bytes names.labels.keys;
  voters = map string_bytes names.voters.keys;
}

abbrev pub evidence_shown : held.Evidence → Evidence
evidence_shown evidence = record {
  names = names_shown evidence.names;
  unused = evidence.unused.items;
  ignored = map string_bytes evidence.ignored.keys;
}
