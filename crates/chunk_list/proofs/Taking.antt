-- The first item of the next chunk of a list that is taken apart.
use Rattle.std.proofs.Common.{◌≡◌, ◌<◌, ◌∙◌, List, [], ◌∷◌, ◌++◌, Option, None, Some, length, sym, ap, arith}
use Rattle.std.specs.Prelude.{MatchOption}
use Rattle.std.specs.List.{flat_map}
use Rattle.std.specs.Vec.Iter.{into_iter_items, into_iter_steps}
use Rattle.std.specs.declared.vec.IntoIter.{IntoIter}
use Rattle.std.proofs.lemmas.List.{nil_from_length}

pub next_chunk : {C T : Type 0} (items : C → List T) (now done : List T) (chunks left : List C) (chunk : C)
    (answer : Option T) (rest : List T) → done ++ flat_map items chunks ≡ now → done ≡ [] → chunks ≡ chunk ∷ left
    → 0 < length (items chunk) → MatchOption answer (items chunk ≡ []) (λ x. items chunk ≡ x ∷ rest)
    → MatchOption answer ((now ≡ []) × (rest ++ flat_map items left ≡ [])) (λ x. now ≡ x ∷ rest ++ flat_map items left)
next_chunk items now done chunks left chunk None rest whole none first some gives =
    absurd (omega (arith, some, ap length gives))
next_chunk items now done chunks left chunk (Some x) rest whole none first some gives =
    sym whole ∙ ap (λ l. l ++ flat_map items chunks) none ∙ ap (flat_map items) first ∙ ap (λ l. l ++ flat_map items left) gives

-- the next item of a chunk that is taken apart
pub chunk_gives : {T Z : Type 0} (s t : IntoIter T Z) (answer : Option T) → into_iter_steps s answer t
    → MatchOption answer (into_iter_items s ≡ []) (λ x. into_iter_items s ≡ x ∷ into_iter_items t)
chunk_gives s t None steps = nil_from_length _ (omega (arith, steps.0, s.rest.ok.0))
chunk_gives s t (Some x) steps = steps.0
