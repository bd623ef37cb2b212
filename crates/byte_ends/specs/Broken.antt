-- When an end that fails once does so. The rule is this project's own, for tests of the crates above.
use Rattle.std.specs.Prelude.{ℕ, ◌+◌, ◌-◌, min, ◌&&◌, ◌==◌, nat_lt, Bool, false, if◌then◌else◌, Result, Ok, Err}
use Rattle.byte_ends.specs.Failures.{most_failures}
use Rattle.byte_ends.specs.declared.breaking.Due.{Due}
use Rattle.byte_ends.specs.declared.breaking.Due.TheVariants.{AtCall, BeforeByte, Past}
use Rattle.byte_ends.specs.declared.breaking.Broken.{Broken}

-- the end that is broken
abbrev pub broken_inner : {T : Type 0} → Broken T → T
broken_inner b = b.inner

-- when it fails, counted from now on
abbrev pub broken_due : {T : Type 0} → Broken T → Due
broken_due b = b.due

-- a call on a slice of this length is the one that fails: it is the first call, or it would move the byte before
-- which the end fails, and that byte is the first
abbrev pub is_due : Due → ℕ → Bool
is_due (AtCall n) length = n == 1
is_due (BeforeByte n) length = (n == 1) && nat_lt 0 length
is_due Past length = false

-- how much of a slice of this length such a call may move: it stops short of the byte before which the end fails
abbrev pub reach : Due → ℕ → ℕ
reach (AtCall n) length = length
reach (BeforeByte n) length = if n == 0 then length else min length (n - 1)
reach Past length = length

-- what is due after a call that moved this many bytes
abbrev pub due_after : Due → ℕ → Due
due_after (AtCall n) moved = AtCall (n - 1)
due_after (BeforeByte n) moved = BeforeByte (n - moved)
due_after Past moved = Past

-- how many bytes a call moved
abbrev pub moved : {E : Type 0} → Result ℕ E → ℕ
moved (Ok n) = n
moved (Err _) = 0

-- the calls that failed: those of the end within, and, once it is past, its own one
abbrev pub failed_with : Due → ℕ → ℕ
failed_with (AtCall n) inner = inner
failed_with (BeforeByte n) inner = inner
failed_with Past inner = min (inner + 1) most_failures
