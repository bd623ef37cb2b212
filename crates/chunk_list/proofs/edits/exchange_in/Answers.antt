use Rattle.std.proofs.Common.{◌≡◌, ◌∙◌, ◌<◌, length, get_or, set, ap, subst, sym, arith}
use Rattle.std.specs.List.{flat_map}
use Rattle.std.specs.Prelude.{slice_get}
use Rattle.chunk_list.specs.Ranks.{rank}
use Rattle.chunk_list.specs.Chunks.{place_of, IsInside}
use Rattle.chunk_list.proofs.Pieces.{replaced, found_at, index_inside}
use Rattle.chunk_list.proofs.edits.exchange_in.Goals as goal

pub returns-clause-item : goal.returns-clause-item
returns-clause-item g c =
    let test = g.P.Probe.passes c.args.probe.now in
    let chunks = c.args.chunks.now.items in
    let spot = c.first_failing-spot.result in
    let found = c.index_mut-chunk.result.now in
    let inside : spot.chunk < length chunks = omega (arith, c.if-spot-len.false, c.len.ensures, c.args.chunks.now.ok.0) in
    let spot_inside = subst (λ l. IsInside (λ c. c.items) l spot.chunk spot.index) c.as_slice.ensures.value c.first_failing-spot.ensures.inside in
    let spot_rank = subst (λ l. place_of (λ c. c.items) l spot.chunk spot.index ≡ rank test (flat_map (λ c. c.items) l)) c.as_slice.ensures.value c.first_failing-spot.ensures.rank in
    found_at (λ c. c.items) chunks spot.chunk spot.index found inside c.index_mut-chunk.ensures.value spot_inside c.replace.result
    (subst (λ x. x ≡ get_or found.items spot.index x) (sym c.replace.ensures.value) c.index_mut-kept.ensures.value)
    ∙ ap (slice_get (flat_map (λ c. c.items) chunks)) spot_rank

pub returns-clause-rest : goal.returns-clause-rest
returns-clause-rest g c =
    let test = g.P.Probe.passes c.args.probe.now in
    let chunks = c.args.chunks.now.items in
    let spot = c.first_failing-spot.result in
    let found = c.index_mut-chunk.result.now in
    let inside : spot.chunk < length chunks = omega (arith, c.if-spot-len.false, c.len.ensures, c.args.chunks.now.ok.0) in
    let spot_inside = subst (λ l. IsInside (λ c. c.items) l spot.chunk spot.index) c.as_slice.ensures.value c.first_failing-spot.ensures.inside in
    let spot_rank = subst (λ l. place_of (λ c. c.items) l spot.chunk spot.index ≡ rank test (flat_map (λ c. c.items) l)) c.as_slice.ensures.value c.first_failing-spot.ensures.rank in
    replaced (λ c. c.items) chunks spot.chunk found inside spot.index c.args.item _
    (index_inside (λ c. c.items) chunks spot.chunk spot.index found inside spot_inside)
    (ap (set found.items spot.index) c.replace.ensures.after ∙ ap (λ v. set v.items spot.index c.args.item) c.index_mut-chunk.ensures.value)
    ∙ ap (λ n. set (flat_map (λ c. c.items) chunks) n c.args.item) spot_rank
