-- How a site's program ends, by how the site ended.
use Rattle.std.specs.Prelude.{◌≡◌, Bool, true, false, Result, Ok, Err}
use Rattle.serve_command.specs.declared.fault.ProgramFault.TheVariants.{StartTaken}
use Rattle.serve_command.specs.declared.command.Ended.{Ended}
use Rattle.serve_command.specs.declared.command.Ended.TheVariants.{Program, Unprinted}

-- well only where its start isn't taken and its output took all that was printed
abbrev pub EndsAs : Bool → Bool → Result (Unit {0}) Ended → Type 0
EndsAs true written result = result ≡ Err (Program StartTaken)
EndsAs false true result = result ≡ Ok tt
EndsAs false false result = result ≡ Err Unprinted
