-- What a wire shows.
use Rattle.std.specs.Prelude.{◌≤◌, ℕ, List, Option, length}
use Rattle.line_reader.specs.Lines.{HasNoLf}
use Rattle.sealed_ends.specs.Unread.{sealed_limit}
use Rattle.sealed_line.specs.Sealing.{Sealing}
use Rattle.sealed_link.specs.declared.fault.WireFault.{WireFault}

-- what opens the next line that comes, what came of it, and why nothing is opened any more; what seals the next line
-- that is sent, and the bytes that wait to be sent
pub record Wiring : Type 0 where
  pub inward : Sealing
  pub held : List ℕ
  pub fault : Option WireFault
  pub outward : Sealing
  pub waiting : List ℕ

-- while so many bytes wait no further text is sealed
abbrev pub waiting_limit : ℕ
waiting_limit = 65536

-- so many bytes of those that were sealed are sent, and what is held is a piece of a line
pub record IsWired (sent sealed : ℕ) (held : List ℕ) : Type 0 where
  pub within : sent ≤ sealed
  pub short : length held ≤ sealed_limit
  pub plain : HasNoLf held
