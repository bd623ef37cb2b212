use Rattle.std.proofs.Common.{arith}
use Rattle.std.proofs.lemmas.List.Elements.{Contains-get_or}
use Rattle.gate_tests.proofs.graphs.second_item.Goals as goal

pub targets-requires : goal.targets-requires
targets-requires g = rw (← g.items-items.ensures) (Contains-get_or g.items-items.result.now 1 _ (omega arith))
