use Rattle.std.proofs.Common.{◌≡◌, ◌∙◌, ◌++◌, map, ap, sym, subst}
use Rattle.std.specs.List.Sorted.{IsPermutation}
use Rattle.std.proofs.lemmas.List.{append-nil}
use Rattle.std.proofs.lemmas.List.Sorted.{IsPermutation-map}
use Rattle.replica_core.proofs.gathering.by_change.Goals as goal

pub returns : goal.returns
returns g c =
    let before = c.loop-op.sorted.items in
    let after = c.sort_unstable_by_key.new.self.items in
    let whole : map (λ one. one.1.now) before ≡ c.args.ops = sym (append-nil (map (λ one. one.1.now) before))
    ∙ ap (λ l. map (λ one. one.1.now) before ++ l) (sym c.in-None.ensures.steps.0)
    ∙ c.loop-op.invariant ∙ c.into_iter-op-iterator.ensures.into_iter_gives in
    subst (λ l. IsPermutation l (map (λ one. one.1.now) after)) whole
    (IsPermutation-map (λ one. one.1.now) before after c.sort_unstable_by_key.ensures.permutation)
