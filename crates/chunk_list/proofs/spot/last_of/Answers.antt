use Rattle.std.proofs.Common.{◌∙◌, ◌<◌, ◌-◌, length, ap, subst, sym}
use Rattle.std.specs.Prelude.{slice_get}
use Rattle.std.specs.List.{flat_map}
use Rattle.std.proofs.lemmas.Option.{slice_get_within, get_or_from_slice_get}
use Rattle.chunk_list.proofs.Pieces.{last_there, some_there}
use Rattle.chunk_list.proofs.Wholes.{last_right}
use Rattle.chunk_list.proofs.spot.last_of.Goals as goal

pub returns-in-Some : goal.returns-in-Some
returns-in-Some g c =
    let chunks = c.args.rest.now in
    let found = c.in-Some.chunk.now in
    let there = c.in-Some.ensures.value in
    let some = subst (λ v. 0 < length v.items) (get_or_from_slice_get chunks (length chunks - 1) found found (sym there)) (c.requires (length chunks - 1) found (slice_get_within chunks (length chunks - 1) found (sym there))) in
    c.last-in-Some.ensures.value ∙ ap (λ l. slice_get l (length l - 1)) c.as_slice.ensures.value
    ∙ last_there (λ v. v.items) chunks found some there
    ∙ last_right c.args.first.now (flat_map (λ chunk. chunk.items) chunks) (some_there (λ v. v.items) chunks found some there)
