-- When the patience with another side is at its end, in nanoseconds that were waited.
use Rattle.std.specs.Prelude.{ℕ, ◌≤◌, IsSomeAnd}
use Rattle.std.specs.Duration.{as_nanos}
use Rattle.site_net.specs.declared.patience.Awaited.{Awaited}
use Rattle.site_net.specs.declared.patience.Awaited.TheVariants.{FirstLine, RestOfLine, NextLine}
use Rattle.site_net.specs.declared.patience.Patience.{Patience}

abbrev pub IsOver : Patience → Awaited → ℕ → Type 0
IsOver patience FirstLine waited = as_nanos patience.limit ≤ waited
IsOver patience RestOfLine waited = as_nanos patience.limit ≤ waited
IsOver patience NextLine waited = IsSomeAnd patience.idle (λ idle. as_nanos idle ≤ waited)
