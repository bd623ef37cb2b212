use Rattle.std.proofs.Common.{sym, subst}
use Rattle.walk_core.specs.Digraphs.{IsWithin}
use Rattle.graph_text.proofs.near.near_of.Goals as goal

pub reached-requires-clause-within : goal.reached-requires-clause-within
reached-requires-clause-within c = subst IsWithin (sym c.digraph.ensures.ends) c.requires
