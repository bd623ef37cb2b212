-- The numbers and names under which it is reported how a session failed.
use Rattle.std.specs.Prelude.{ℕ, List, codes}
use Rattle.gossip_line.specs.Fault as line
use Rattle.site_serve.specs.declared.session_fault.SessionFault.{SessionFault}
use Rattle.site_serve.specs.declared.session_fault.SessionFault.TheVariants.{Line, BadSeal, NoKey}

abbrev pub number_of : SessionFault → ℕ
number_of (Line fault) = line.number_of fault
number_of BadSeal = 10
number_of NoKey = 11

abbrev pub name_of : SessionFault → List ℕ
name_of (Line fault) = line.name_of fault
name_of BadSeal = codes "BadSeal"
name_of NoKey = codes "NoKey"
