use Rattle.std.proofs.Common.{◌≡◌, ◌<◌, ℕ, take, get_or}
use Rattle.std.specs.Prelude.{IsTrue}
use Rattle.std.specs.Char.{is_ascii_digit}
use Rattle.script_text.specs.Fields.{written_number}
use Rattle.script_text.proofs.fields.written_number.Given as goal

abbrev pub invariant-loop-byte : goal.invariant-loop-byte
invariant-loop-byte l =
    record {
      digits : (k : ℕ) → k < l.byte-index → IsTrue (is_ascii_digit (get_or l.field k 0));
      value : l.number ≡ written_number (take l.byte-index l.field);
    }
