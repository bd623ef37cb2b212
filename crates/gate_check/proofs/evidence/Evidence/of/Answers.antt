use Rattle.std.proofs.Common.{List, ℕ, map, string_bytes, subst}
use Rattle.std.specs.Prelude.{MatchBool}
use Rattle.std.specs.List.{AllZip}
use Rattle.gate_check.specs.Ignored.{AreIgnored}
use Rattle.gate_check.specs.Unused.{IsUnusedBase, messages_in}
use Rattle.gate_check.proofs.evidence.Evidence.of.Goals as goal

pub returns : goal.returns
returns c = record {
  names = c.in_ok-names.ensures;
  unused = subst (λ (bases : List (List ℕ)). AllZip (λ base is_so. MatchBool is_so (IsUnusedBase bases (messages_in c.args.state.now) base) (¬ IsUnusedBase bases (messages_in c.args.state.now) base)) bases c.in_ok-unused.unused.items) c.bases.ensures c.in_ok-unused.ensures;
  ignored = subst (λ (bases : List (List ℕ)). AreIgnored bases (messages_in c.args.state.now) (map string_bytes c.in_ok-ignored.ignored.keys)) c.bases-2.ensures c.in_ok-ignored.ensures;
}
