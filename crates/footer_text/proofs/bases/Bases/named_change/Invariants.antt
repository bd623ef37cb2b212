use Rattle.std.proofs.Common.{ℕ, List, Contains, map, take, string_bytes}
use Rattle.footer_text.specs.Readings.{ReadsAs}
use Rattle.footer_text.proofs.bases.Bases.named_change.Given as goal

-- under no base so far does the value name a change
abbrev pub invariant-loop-base : goal.invariant-loop-base
invariant-loop-base g l =
    (earlier : List ℕ) (other : ℕ) → Contains (take l.base-index (map string_bytes l.texts)) earlier
    → ¬ (ReadsAs earlier l.value other)
