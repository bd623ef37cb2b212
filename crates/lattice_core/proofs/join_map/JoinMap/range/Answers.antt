use Rattle.std.specs.BTreeMap.Range.{entries_between}
use Rattle.std.specs.Range.Bound.{bound_map}
use Rattle.std.proofs.Common.{map, sym, ap, ◌∙◌}
use Rattle.lattice_core.proofs.Pairs.{entries-map_of, shapes-entries_between}
use Rattle.lattice_core.proofs.join_map.JoinMap.range.Goals as goal

pub returns-clause-entries : goal.returns-clause-entries
returns-clause-entries g c = λ has.
    let pairs = c.self.inside.entries.entries in
    let start = g.R.RangeBounds.start_bound c.args.range in
    let end = g.R.RangeBounds.end_bound c.args.range in
    rw (← c.self.view_is)
    (ap (map (λ pair. (g.K.Keep.shape pair.0, g.V.Join.shape pair.1))) (c.range.ensures.between has)
    ∙ shapes-entries_between g.met.K.Keep.ordered g.K.Keep.shape g.V.Join.shape g.met.K.Keep.compares start end pairs
    ∙ ap (entries_between g.K.Keep.order (bound_map g.K.Keep.shape start) (bound_map g.K.Keep.shape end))
    (sym (entries-map_of g.met.K.Keep.ordered g.K.Keep.shape g.V.Join.shape g.met.K.Keep.compares pairs c.range.ensures.ordered)))
