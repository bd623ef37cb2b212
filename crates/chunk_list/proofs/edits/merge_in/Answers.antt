use Rattle.std.proofs.Common.{◌≡◌, ◌∙◌, ◌<◌, length, set, ap, subst, sym}
use Rattle.std.specs.List.{flat_map}
use Rattle.std.specs.Prelude.{slice_get}
use Rattle.chunk_list.specs.Ranks.{rank}
use Rattle.chunk_list.specs.Chunks.{place_of, IsInside}
use Rattle.chunk_list.proofs.Pieces.{replaced, found_at, index_inside, chunk_there}
use Rattle.chunk_list.proofs.edits.merge_in.Goals as goal

pub returns-clause-merged : goal.returns-clause-merged
returns-clause-merged g c =
    let test = g.T.Probe.passes c.args.entry in
    let chunks = c.args.chunks.now.items in
    let whole = flat_map (λ c. c.items) chunks in
    let spot = c.first_failing-spot.result in
    let found = c.index_mut-chunk.result.now in
    let held = c.index_mut.result.now in
    let kept = c.merge_into.new.held in
    let spot_inside = subst (λ l. IsInside (λ c. c.items) l spot.chunk spot.index) c.as_slice.ensures.value c.first_failing-spot.ensures.inside in
    let spot_rank = subst (λ l. place_of (λ c. c.items) l spot.chunk spot.index ≡ rank test (flat_map (λ c. c.items) l)) c.as_slice.ensures.value c.first_failing-spot.ensures.rank in
    let inside : spot.chunk < length chunks = chunk_there (λ c. c.items) chunks spot.chunk spot.index (rank test whole) spot_inside spot_rank c.requires.there in
    let there = found_at (λ c. c.items) chunks spot.chunk spot.index found inside c.index_mut-chunk.ensures.value spot_inside held c.index_mut.ensures.value ∙ ap (slice_get whole) spot_rank in
    (held, kept, sym there, c.merge_into.ensures, replaced (λ c. c.items) chunks spot.chunk found inside spot.index kept _ (index_inside (λ c. c.items) chunks spot.chunk spot.index found inside spot_inside) (ap (λ v. set v.items spot.index kept) c.index_mut-chunk.ensures.value) ∙ ap (λ n. set whole n kept) spot_rank)
