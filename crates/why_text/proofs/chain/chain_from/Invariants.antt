use Rattle.std.proofs.Common.{◌≡◌, ◌+◌, ◌++◌, ◌∷◌, [], Contains, Some, length}
use Rattle.std.specs.Prelude.{slice_get}
use Rattle.why_text.specs.Chain.{Path, WaitsFor}
use Rattle.why_text.proofs.chain.chain_from.Given as goal

-- the items so far lead to this one, and as many steps are left as its rank says
abbrev pub invariant-loop-left : goal.invariant-loop-left
invariant-loop-left l = record {
  begins : slice_get (l.waiting.items ++ l.left ∷ []) 0 ≡ Some l.fn.first;
  path : Path (WaitsFor l.state l.verdicts) (l.waiting.items ++ l.left ∷ []);
  out : Contains l.verdicts.out l.left;
  steps : length l.waiting.items + l.left.rank ≡ l.fn.first.rank;
}

abbrev pub decreases-loop-left : goal.decreases-loop-left
decreases-loop-left l = l.left.rank
