use Rattle.std.proofs.Common.{◌<◌, ◌≡◌, ℕ, Vec, length, map, sym, ap, subst, ◌∙◌, arith}
use Rattle.std.specs.List.{All}
use Rattle.std.proofs.lemmas.List.{length-map}
use Rattle.walk_core.specs.EdgeLaws.{ends_of-read, lent_ends_within}
use Rattle.walk_core.proofs.edges.Edges.ends.Goals as goal

pub returns-clause-within : goal.returns-clause-within
returns-clause-within g c =
    let items = λ (row : Vec ℕ g.row.A.Denot). row.items in
    let rows = c.self.inside.ends.items in
    let view : map items rows ≡ c.args.self.now = c.self.view_is in
    let within : c.args.node < length rows = omega (arith, c.requires, ap length view, length-map rows items) in
    subst (λ graph. All (λ y. y < length graph) c.as_slice.result.now) view
    (lent_ends_within (map items rows) (map items c.self.inside.namers.items) c.args.node c.as_slice.result.now c.self.invariant
    (ends_of-read items rows c.args.node c.index.result.now within c.index.ensures ∙ sym c.as_slice.ensures.value))
