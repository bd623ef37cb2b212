use Rattle.std.specs.Option.{option_map}
use Rattle.std.proofs.Common.{ap, ◌∙◌}
use Rattle.lattice_core.proofs.Exits.{OnErr-always}
use Rattle.lattice_core.proofs.Pairs.{get-map_of, map_of-insert_entry}
use Rattle.lattice_core.proofs.join_map.JoinMap.put.Goals as goal

pub returns-clause-ok : goal.returns-clause-ok
returns-clause-ok g c =
    rw (c.in_ok-insert.ensures.entries, ← c.self.view_is)
    (map_of-insert_entry g.met.K.Keep.ordered g.K.Keep.shape g.V.Join.shape g.met.K.Keep.compares c.args.key c.args.value c.self.inside.entries.entries)

pub returns-in_err-insert-clause-absent : goal.returns-in_err-insert-clause-absent
returns-in_err-insert-clause-absent g c = OnErr-always c.from_residual.result
    (rw (← c.self.view_is) (get-map_of g.met.K.Keep.ordered g.K.Keep.shape g.V.Join.shape g.met.K.Keep.compares c.args.key c.self.inside.entries.entries
    ∙ ap (option_map g.V.Join.shape) c.in_err-insert.ensures.absent))
