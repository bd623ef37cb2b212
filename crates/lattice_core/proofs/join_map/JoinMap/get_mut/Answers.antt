use Rattle.std.proofs.Common.{refl, sym, ap, ◌∙◌}
use Rattle.lattice_core.proofs.AtKey.{map_of-written}
use Rattle.lattice_core.proofs.Pairs.{get-map_of}
use Rattle.lattice_core.proofs.join_map.JoinMap.get_mut.Goals as goal

pub returns : goal.returns
returns g c = (
  (
    refl,
    λ w. rw (← c.self.view_is) (map_of-written g.met.K.Keep.ordered g.K.Keep.shape g.V.Join.shape g.met.K.Keep.compares c.args.key.now c.self.inside.entries.entries (c.get_mut.follows.lender w).entries w (c.get_mut.follows.holds w).0),
    ap (λ m. m.entries) c.get_mut.follows.holds-at-none ∙ c.self.view_is,
  ),
  record { writes_back = tt; value = rw (c.get_mut.ensures.value, ← c.self.view_is) (sym (get-map_of g.met.K.Keep.ordered g.K.Keep.shape g.V.Join.shape g.met.K.Keep.compares c.args.key.now c.self.inside.entries.entries)) },
)
