use Rattle.std.proofs.Common.{ℕ, Vec, map, sym, subst}
use Rattle.walk_core.specs.Digraphs.{IsWithin}
use Rattle.walk_core.proofs.edges.Edges.new.Goals as goal

pub turned_round-requires : goal.turned_round-requires
turned_round-requires g c =
    let items = λ (row : Vec ℕ g.row.A.Denot). row.items in
    subst (λ rows. IsWithin (map items rows)) (sym c.as_slice.ensures.value) c.requires
