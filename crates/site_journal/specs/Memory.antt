-- What a clause reads of a tape in memory.
use Rattle.std.specs.Prelude.{ℕ, List, take, drop}
use Rattle.site_journal.specs.Tape.{Image}
use Rattle.site_journal.specs.declared.memory.MemoryTape.{MemoryTape}

abbrev pub memory_image : MemoryTape → Image
memory_image tape = record {
  contents = take tape.len tape.bytes.items;
  synced = take tape.synced tape.bytes.items;
  written = tape.bytes.items;
  doubted = tape.is_doubted;
}

abbrev pub memory_left : MemoryTape → List ℕ
memory_left tape = drop tape.at (take tape.len tape.bytes.items)
