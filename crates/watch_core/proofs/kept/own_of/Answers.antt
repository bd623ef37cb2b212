use Rattle.std.proofs.Common.{sym, ◌∙◌, subst, List}
use Rattle.std.specs.Prelude.{MatchOption}
use Rattle.gate_rules.specs.declared.condition.Condition.{Condition}
use Rattle.ready_core.specs.declared.verdicts.Left.{Left}
use Rattle.watch_core.specs.KeptOwns.{IsOutWith}
use Rattle.watch_core.proofs.KeptLemmas.{own_stays}
use Rattle.watch_core.proofs.kept.own_of.Goals as goal

pub returns-then-not-contains-clause-own : goal.returns-then-not-contains-clause-own
returns-then-not-contains-clause-own g c =
    let item = c.args.item in
    let kept = c.kept_own.ensures in
    own_stays c.args.gate.now c.args.replica.now c.args.seen c.args.kept.now item c.kept_own.result c.requires.kept c.requires.item
    (sym (c.requires.touched item.change) ∙ sym c.contains.ensures ∙ c.if-not-contains.true)
    (subst (λ (out : List Left). MatchOption c.kept_own.result ((condition : Condition) → ¬ IsOutWith out item condition) (IsOutWith out item)) c.out.ensures kept)
