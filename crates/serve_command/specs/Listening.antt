-- Where a site listens, and who may connect there (chmod(2)).
use Rattle.std.specs.Prelude.{ℕ, Bool, Option, None, Some, if◌then◌else◌}
use Rattle.command_line.specs.declared.asked.SocketMode.{SocketMode}
use Rattle.command_line.specs.declared.asked.SocketMode.TheVariants.{Group, Owner}

-- the port that it listens at: the system chooses one where it listens nowhere else
abbrev pub port_of : Option ℕ → Bool → Option ℕ
port_of (Some port) is_alone = Some port
port_of None is_alone = if is_alone then Some 0 else None

-- read and write for its user, or for its group as well
abbrev pub bits_of : SocketMode → ℕ
bits_of Owner = 384
bits_of Group = 432
