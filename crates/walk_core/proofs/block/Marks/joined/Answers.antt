use Rattle.std.proofs.Common.{◌<◌, ◌^◌, inl, inr, sym, subst}
use Rattle.std.proofs.lemmas.Bool.{cases_lt}
use Rattle.std.proofs.lemmas.Nat.{or_lt}
use Rattle.walk_core.proofs.block.Marks.joined.Goals as goal

pub invariant_of-result : goal.invariant_of-result
invariant_of-result c = record {
  size = c.loop-index.invariant.size;
  in_range = λ k. elim (cases_lt k c.loop-index.index) [
    | inl done ↦ subst (λ word. word < 2 ^ 64) (sym (c.loop-index.invariant.done k done))
        (or_lt 64 _ _ (c.args.self.in_range k) (c.args.other.in_range k))
    | inr left ↦ subst (λ word. word < 2 ^ 64) (sym (c.loop-index.invariant.left k left)) (c.args.self.in_range k)
  ];
}
