use Rattle.std.proofs.Common.{◌∙◌, ap}
use Rattle.std.specs.Prelude.{slice_get}
use denote.Ref.{Bor}
use Rattle.chunk_list.specs.Looks.{copied_at}
use Rattle.chunk_list.proofs.Pieces.{item_there}
use Rattle.chunk_list.proofs.spot.item_at.Goals as goal

pub returns : goal.returns
returns g c =
    let chunks = c.args.chunks.now in
    let look = c.in_ok-chunk.ensures.lookup in
    copied_at (λ (b : Bor g.row.T.Denot). b.now) c.as_slice.result.now c.args.spot.index c.get-2.result c.get-2.ensures.lookup
    ∙ ap (λ l. slice_get l c.args.spot.index) c.as_slice.ensures.value
    ∙ item_there
    (λ c. c.items) chunks c.args.spot.chunk c.args.spot.index c.in_ok-chunk.chunk.now look.3.0 look.1 c.requires
