use Rattle.std.proofs.Common.{◌≡◌, map}
use Rattle.std.proofs.lemmas.Result.{IfOk-weaker}
use Rattle.walk_core.specs.Digraphs.{AreOnCycles}
use Rattle.walk_core.specs.Components.{is_on_cycle}
use Rattle.walk_core.proofs.Marks.{are_on_cycles}
use Rattle.walk_core.proofs.digraph.Digraph.on_cycles.Goals as goal

pub returns : goal.returns
returns g c =
    let found = c.components.ensures in
    let marked = are_on_cycles c.args.self.now _ found.settled found.none in
    IfOk-weaker c.flags_of.result (λ flags. flags.items ≡ map is_on_cycle c.as_slice.result.now)
    (λ flags. AreOnCycles c.args.self.now flags.items)
    (λ flags are. rw (are, c.as_slice.ensures.value) marked) c.flags_of.ensures
