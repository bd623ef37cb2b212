use Rattle.std.proofs.Common.{◌∙◌, [], ap, sym, subst}
use Rattle.replica_core.specs.Clock.{greatest, times}
use Rattle.replica_core.specs.Journal.{AreApart}
use Rattle.replica_core.specs.Lines.{AreLines}
use Rattle.state_core.specs.State.{state_of}
use Rattle.state_core.specs.StateLaws.{state_of-nil}
use Rattle.replica_core.proofs.Effects.{AreApart-nil}
use Rattle.replica_core.proofs.LineLists.{no_lines}
use Rattle.replica_core.proofs.replica.Replica.new.Goals as goal

pub invariant_of-result : goal.invariant_of-result
invariant_of-result g c = record {
  joined = c.new-3.ensures ∙ sym state_of-nil ∙ ap state_of (sym c.new.ensures);
  is_kept = record {
    apart = subst AreApart (sym c.new.ensures) AreApart-nil;
    lines = subst (λ j. AreLines j c.new-2.result) (sym c.new.ensures)
        (subst (AreLines []) (sym c.new-2.ensures) no_lines);
    latest = ap (λ j. greatest (times j)) (sym c.new.ensures);
  };
}
