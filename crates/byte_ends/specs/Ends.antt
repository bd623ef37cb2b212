-- What a clause reads of an `Ends`.
use Rattle.std.specs.Prelude.{ℕ}
use Rattle.byte_ends.specs.declared.over_std.Ends.{Ends}

-- the reader or writer of std's
abbrev pub ends_inner : {T : Type 0} → Ends T → T
ends_inner e = e.inner

-- how many calls have failed
abbrev pub ends_failed : {T : Type 0} → Ends T → ℕ
ends_failed e = e.failures
