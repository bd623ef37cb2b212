use Rattle.std.proofs.Common.{Contains, take, get_or, subst, arith}
use Rattle.std.proofs.lemmas.List.{take_more, take_all}
use Rattle.std.proofs.Common.{sym, inl, inr}
use Rattle.std.proofs.lemmas.List.Elements.{Contains-push_cases}
use Rattle.watch_core.specs.Namers.{IsNamer}
use Rattle.watch_core.proofs.namers.add_item.Goals as goal

pub loop-target-preserved : goal.loop-target-preserved
loop-target-preserved c =
    let targets = c.args.targets.now in
    let index = c.loop-target.target-index in
    record {
      keeps =
          λ number item has. c.in_ok-add_at.ensures.keeps number item (c.loop-target.invariant.keeps number item has);
      names = λ number here. elim (Contains-push_cases (take index targets) (get_or targets index 0) number (subst (λ l. Contains l number) (take_more targets index 0 (omega arith)) here)) [
        | inl earlier ↦ c.in_ok-add_at.ensures.keeps number c.args.item (c.loop-target.invariant.names number earlier)
        | inr same ↦ subst (λ n. IsNamer c.add_at.new.namers n c.args.item) same c.in_ok-add_at.ensures.names
      ];
    }

pub returns-clause-names : goal.returns-clause-names
returns-clause-names c = λ number here.
    c.loop-target.invariant.names number (subst (λ l. Contains l number) (sym (take_all c.loop-target.target-index c.args.targets.now (omega arith))) here)
