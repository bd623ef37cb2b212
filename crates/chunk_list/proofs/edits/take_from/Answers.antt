use Rattle.std.proofs.Common.{◌≡◌, ◌∙◌, ◌<◌, length, ap, subst, sym, arith}
use Rattle.std.specs.List.{flat_map, remove}
use Rattle.std.specs.Prelude.{slice_get}
use Rattle.std.proofs.lemmas.Bool.{eqb-true}
use Rattle.std.proofs.lemmas.List.{nil_from_length}
use Rattle.chunk_list.specs.Ranks.{rank}
use Rattle.chunk_list.specs.Chunks.{place_of, IsInside}
use Rattle.chunk_list.proofs.Pieces.{removed, emptied, found_at, index_inside}
use Rattle.chunk_list.proofs.edits.take_from.Goals as goal

pub returns-then-not-is_empty-clause-item : goal.returns-then-not-is_empty-clause-item
returns-then-not-is_empty-clause-item g c =
    let test = g.P.Probe.passes c.args.probe.now in
    let chunks = c.args.chunks.now.items in
    let spot = c.first_failing-spot.result in
    let found = c.index_mut-chunk.result.now in
    let inside : spot.chunk < length chunks = omega (arith, c.if-spot-len.false, c.len.ensures, c.args.chunks.now.ok.0) in
    let spot_inside = subst (λ l. IsInside (λ c. c.items) l spot.chunk spot.index) c.as_slice.ensures.value c.first_failing-spot.ensures.inside in
    let spot_rank = subst (λ l. place_of (λ c. c.items) l spot.chunk spot.index ≡ rank test (flat_map (λ c. c.items) l)) c.as_slice.ensures.value c.first_failing-spot.ensures.rank in
    found_at (λ c. c.items) chunks spot.chunk spot.index found inside c.index_mut-chunk.ensures.value spot_inside c.remove-item.result c.remove-item.ensures.value
    ∙ ap (slice_get (flat_map (λ c. c.items) chunks)) spot_rank

pub returns-then-not-is_empty-clause-rest : goal.returns-then-not-is_empty-clause-rest
returns-then-not-is_empty-clause-rest g c =
    let test = g.P.Probe.passes c.args.probe.now in
    let chunks = c.args.chunks.now.items in
    let spot = c.first_failing-spot.result in
    let found = c.index_mut-chunk.result.now in
    let inside : spot.chunk < length chunks = omega (arith, c.if-spot-len.false, c.len.ensures, c.args.chunks.now.ok.0) in
    let spot_inside = subst (λ l. IsInside (λ c. c.items) l spot.chunk spot.index) c.as_slice.ensures.value c.first_failing-spot.ensures.inside in
    let spot_rank = subst (λ l. place_of (λ c. c.items) l spot.chunk spot.index ≡ rank test (flat_map (λ c. c.items) l)) c.as_slice.ensures.value c.first_failing-spot.ensures.rank in
    removed (λ c. c.items) chunks spot.chunk found inside spot.index c.remove-item.new.self
    (index_inside (λ c. c.items) chunks spot.chunk spot.index found inside spot_inside)
    (c.remove-item.ensures.items ∙ ap (λ v. remove v.items spot.index) c.index_mut-chunk.ensures.value)
    ∙ ap (remove (flat_map (λ c. c.items) chunks)) spot_rank

pub returns-clause-item : goal.returns-clause-item
returns-clause-item g c =
    let test = g.P.Probe.passes c.args.probe.now in
    let chunks = c.args.chunks.now.items in
    let spot = c.first_failing-spot.result in
    let found = c.index_mut-chunk.result.now in
    let inside : spot.chunk < length chunks = omega (arith, c.if-spot-len.false, c.len.ensures, c.args.chunks.now.ok.0) in
    let spot_inside = subst (λ l. IsInside (λ c. c.items) l spot.chunk spot.index) c.as_slice.ensures.value c.first_failing-spot.ensures.inside in
    let spot_rank = subst (λ l. place_of (λ c. c.items) l spot.chunk spot.index ≡ rank test (flat_map (λ c. c.items) l)) c.as_slice.ensures.value c.first_failing-spot.ensures.rank in
    found_at (λ c. c.items) chunks spot.chunk spot.index found inside c.index_mut-chunk.ensures.value spot_inside c.remove-item.result c.remove-item.ensures.value
    ∙ ap (slice_get (flat_map (λ c. c.items) chunks)) spot_rank

pub returns-clause-rest : goal.returns-clause-rest
returns-clause-rest g c =
    let test = g.P.Probe.passes c.args.probe.now in
    let chunks = c.args.chunks.now.items in
    let spot = c.first_failing-spot.result in
    let found = c.index_mut-chunk.result.now in
    let new = c.remove-item.new.self in
    let inside : spot.chunk < length chunks = omega (arith, c.if-spot-len.false, c.len.ensures, c.args.chunks.now.ok.0) in
    let spot_inside = subst (λ l. IsInside (λ c. c.items) l spot.chunk spot.index) c.as_slice.ensures.value c.first_failing-spot.ensures.inside in
    let spot_rank = subst (λ l. place_of (λ c. c.items) l spot.chunk spot.index ≡ rank test (flat_map (λ c. c.items) l)) c.as_slice.ensures.value c.first_failing-spot.ensures.rank in
    let none : length new.items ≡ 0 = omega (arith, eqb-true _ _ (sym c.is_empty.ensures ∙ c.if-not-is_empty.false), new.ok.0) in
    ap (flat_map (λ c. c.items)) c.remove-none.ensures.items
    ∙ emptied (λ c. c.items) chunks spot.chunk new inside (nil_from_length new.items none)
    ∙ removed (λ c. c.items) chunks spot.chunk found inside spot.index new
    (index_inside (λ c. c.items) chunks spot.chunk spot.index found inside spot_inside)
    (c.remove-item.ensures.items ∙ ap (λ v. remove v.items spot.index) c.index_mut-chunk.ensures.value)
    ∙ ap (remove (flat_map (λ c. c.items) chunks)) spot_rank
