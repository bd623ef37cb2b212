use Rattle.std.specs.Ordering.{nat_cmp}
use Rattle.std.specs.Cmp.Lexicographic.{slice_cmp}
use Rattle.std.proofs.Common.{refl, sym, string_bytes}
use Rattle.lattice_core.specs.Keep.{texts_exact}
use Rattle.lattice_core.proofs.Pairs.{get-map_of_query}
use Rattle.lattice_core.proofs.join_map.JoinMap+String+B+V+A.get_by_text.Goals as goal

pub returns : goal.returns
returns g c = rw (c.get.ensures.value, ← c.self.view_is)
    (sym (get-map_of_query texts_exact string_bytes g.V.Join.shape (λ k. slice_cmp nat_cmp c.args.text.now (string_bytes k)) c.args.text.now (λ _. refl) c.self.inside.entries.entries))
