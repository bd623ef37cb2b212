use Rattle.std.proofs.Common.{◌∙◌, ◌++◌, drop, ap}
use Rattle.std.specs.List.{flat_map}
use Rattle.chunk_list.proofs.Pieces.{items_on}
use Rattle.chunk_list.proofs.iter.Iter.from.Goals as goal

pub returns-in-Some : goal.returns-in-Some
returns-in-Some g c =
    let chunks = c.args.chunks.now in
    let look = c.in-Some.ensures.lookup in
    let first = c.items_from.ensures ∙ ap (drop c.args.spot.index) c.as_slice.ensures.value in
    ap (λ l. l ++ flat_map (λ c. c.items) c.items_from-in-Some.result.now) first
    ∙ ap
    (λ l. drop c.args.spot.index c.in-Some.chunk.now.items ++ flat_map (λ c. c.items) l) c.items_from-in-Some.ensures
    ∙ items_on
    (λ c. c.items) chunks c.args.spot.chunk c.args.spot.index c.in-Some.chunk.now look.3.0 look.1 c.requires.inside
