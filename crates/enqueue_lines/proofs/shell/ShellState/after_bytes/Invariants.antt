use Rattle.std.proofs.Common.{◌≡◌, drop}
use Rattle.enqueue_lines.specs.Shell.{after_bytes}
use Rattle.enqueue_lines.proofs.shell.ShellState.after_bytes.Given as goal

-- it is left to read the rest
abbrev pub invariant-loop-byte : goal.invariant-loop-byte
invariant-loop-byte l = after_bytes l.fn.self l.bytes ≡ after_bytes l.state (drop l.byte-index l.bytes)
