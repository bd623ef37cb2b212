use Rattle.std.proofs.Common.{◌≡◌, ◌∙◌, map, subst}
use Rattle.std.specs.List.Sorted.{IsPermutation}
use Rattle.std.proofs.lemmas.List.{take_all}
use Rattle.std.proofs.lemmas.List.Sorted.{IsPermutation-map}
use Rattle.replica_core.proofs.gathering.each_by_change.Goals as goal

pub returns : goal.returns
returns g c =
    let before = c.loop-op.sorted.items in
    let after = c.sort_unstable_by_key.new.self.items in
    let whole : map (λ one. one.1.now) before ≡ c.args.ops.now = c.loop-op.invariant ∙ take_all c.loop-op.op-index c.args.ops.now c.loop-op-test.false in
    subst (λ l. IsPermutation l (map (λ one. one.1.now) after)) whole
    (IsPermutation-map (λ one. one.1.now) before after c.sort_unstable_by_key.ensures.permutation)
