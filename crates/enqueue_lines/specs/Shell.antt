-- Which bytes of a text a POSIX shell reads as quoted, and which behind a dollar (POSIX.1-2017, Shell Command Language,
-- 2.2 "Quoting" and 2.6 "Word Expansions"). What it reads in comments, here-documents and substitutions is left out, and
-- so is `$'..'`, which bash has.
use Rattle.std.specs.Prelude.{◌==◌, ℕ, List, [], ◌∷◌, if◌then◌else◌}
use Rattle.enqueue_lines.specs.declared.shell.ShellState.{ShellState}
use Rattle.enqueue_lines.specs.declared.shell.ShellState.TheVariants.{AfterBackslash, AfterDollar, Bare, Double}
use Rattle.enqueue_lines.specs.declared.shell.ShellState.TheVariants.{DollarAfterBackslash, DoubleAfterBackslash, Single}

-- outside quotes a backslash quotes the byte behind it (2.2.1); single quotes last up to the next single quote (2.2.2),
-- and double quotes up to the next double quote that isn't behind a backslash (2.2.3); a dollar begins an expansion
-- (2.6), also where a backslash and a line end, which are left out first (2.2.1), stand behind it
abbrev pub after_bare : ℕ → ShellState
after_bare byte =
    if byte == 39 then Single else if byte == 34 then Double else if byte == 92 then AfterBackslash
    else if byte == 36 then AfterDollar else Bare

abbrev pub after_byte : ShellState → ℕ → ShellState
after_byte Bare byte = after_bare byte
after_byte AfterDollar byte = if byte == 92 then DollarAfterBackslash else after_bare byte
after_byte DollarAfterBackslash byte = if byte == 10 then AfterDollar else Bare
after_byte AfterBackslash byte = Bare
after_byte Single byte = if byte == 39 then Bare else Single
after_byte Double byte = if byte == 34 then Bare else if byte == 92 then DoubleAfterBackslash else Double
after_byte DoubleAfterBackslash byte = Double

-- how the byte after these is read
abbrev pub after_bytes : ShellState → List ℕ → ShellState
after_bytes state [] = state
after_bytes state (byte ∷ bytes) = after_bytes (after_byte state byte) bytes
