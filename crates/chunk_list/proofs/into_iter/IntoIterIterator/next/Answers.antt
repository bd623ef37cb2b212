use Rattle.std.proofs.Common.{◌≡◌, ◌<◌, [], length, subst, arith}
use Rattle.std.proofs.Common.{◌∷◌}
use Rattle.std.specs.Prelude.{MatchOption}
use Rattle.std.specs.List.{All}
use Rattle.std.specs.Vec.Iter.{into_iter_items}
use Rattle.std.proofs.lemmas.List.{nil_from_length}
use Rattle.std.proofs.Common.{rules}
use Rattle.std.proofs.lemmas.List.Elements.{All-head, All-tail}
use Rattle.chunk_list.proofs.Taking.{next_chunk, chunk_gives}
use Rattle.chunk_list.proofs.into_iter.IntoIterIterator.next.Goals as goal

pub invariant_of-self-2 : goal.invariant_of-self-2
invariant_of-self-2 g c =
    All-tail (λ chunk. 0 < length chunk.items) c.in_ok-next.field-0 (into_iter_items c.next-2.new.self)
    (subst (All (λ chunk. 0 < length chunk.items)) c.in_ok-next.ensures.cases.0 c.self.invariant)

pub returns-clause-steps : goal.returns-clause-steps
returns-clause-steps g c =
    next_chunk (λ chunk. chunk.items) c.args.self.now (into_iter_items c.self.inside.items) (into_iter_items c.self.inside.chunks)
    (into_iter_items c.next-2.new.self) c.in_ok-next.field-0 c.next-3.result (into_iter_items c.next-3.new.self)
    c.self.view_is (nil_from_length _ (omega (arith, c.in_default.ensures.cases.0, c.self.inside.items.rest.ok.0))) c.in_ok-next.ensures.cases.0
    (All-head (λ chunk. 0 < length chunk.items) c.in_ok-next.field-0 (into_iter_items c.next-2.new.self) (subst (All (λ chunk. 0 < length chunk.items)) c.in_ok-next.ensures.cases.0 c.self.invariant))
    (subst (λ l. MatchOption c.next-3.result (l ≡ []) (λ x. l ≡ x ∷ into_iter_items c.next-3.new.self)) c.into_iter.ensures.rest (chunk_gives c.into_iter.result c.next-3.new.self c.next-3.result c.next-3.ensures.cases))

pub returns-clause-goes : goal.returns-clause-goes
returns-clause-goes g c = search (returns-clause-steps g c, rules)
