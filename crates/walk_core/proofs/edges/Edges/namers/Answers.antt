use Rattle.std.proofs.Common.{◌<◌, ◌≡◌, ◌↔◌, ℕ, Vec, length, map, sym, ap, subst, ◌∙◌, arith}
use Rattle.std.specs.List.{All, Contains}
use Rattle.std.proofs.lemmas.List.{length-map}
use Rattle.walk_core.specs.Digraphs.{HasEdge, ends_of}
use Rattle.walk_core.specs.EdgeLaws.{ends_of-read, lent_names, lent_names_within}
use Rattle.walk_core.proofs.edges.Edges.namers.Goals as goal

pub returns-clause-row : goal.returns-clause-row
returns-clause-row g c =
    let items = λ (row : Vec ℕ g.row.A.Denot). row.items in
    let rows = c.self.inside.namers.items in
    let view : map items c.self.inside.ends.items ≡ c.args.self.now = c.self.view_is in
    let within : c.args.node < length rows = omega (arith, c.requires, ap length view, length-map rows items, c.self.invariant.nodes) in
    let at : ends_of (map items rows) c.args.node ≡ c.as_slice.result.now =
    ends_of-read items rows c.args.node c.index.result.now within c.index.ensures ∙ sym c.as_slice.ensures.value in
    subst (λ graph. (y : ℕ) → Contains c.as_slice.result.now y ↔ HasEdge graph y c.args.node) view
    (lent_names (map items c.self.inside.ends.items) (map items rows) c.args.node c.as_slice.result.now c.self.invariant at)

pub returns-clause-within : goal.returns-clause-within
returns-clause-within g c =
    let items = λ (row : Vec ℕ g.row.A.Denot). row.items in
    let rows = c.self.inside.namers.items in
    let view : map items c.self.inside.ends.items ≡ c.args.self.now = c.self.view_is in
    let within : c.args.node < length rows = omega (arith, c.requires, ap length view, length-map rows items, c.self.invariant.nodes) in
    let at : ends_of (map items rows) c.args.node ≡ c.as_slice.result.now =
    ends_of-read items rows c.args.node c.index.result.now within c.index.ensures ∙ sym c.as_slice.ensures.value in
    subst (λ graph. All (λ y. y < length graph) c.as_slice.result.now) view
    (lent_names_within (map items c.self.inside.ends.items) (map items rows) c.args.node c.as_slice.result.now c.self.invariant at)
