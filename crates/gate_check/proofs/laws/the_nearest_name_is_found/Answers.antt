use Rattle.gate_check.proofs.Gathered.{the_same_texts}
use Rattle.gate_check.proofs.Nearby.{finds_nearest}
use Rattle.gate_check.proofs.laws.the_nearest_name_is_found.Goals as goal

pub returns : goal.returns
returns c = record { nearest = finds_nearest; same = the_same_texts }
