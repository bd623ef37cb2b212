use Rattle.std.proofs.Common.{List, sym, subst, map}
use Rattle.std.specs.Prelude.{IfSome}
use Rattle.serde_json.specs.View.{view, members_view}
use Rattle.serde_json.specs.declared.value.Value.{Value}
use Rattle.gate_rules.specs.BadItems.{IsFirstRefused}
use Rattle.gate_rules.proofs.BadItems.{bad_item_if, first_of}
use Rattle.gate_rules.proofs.bad_base.bad_base.Goals as goal

pub returns-clause-found : goal.returns-clause-found
returns-clause-found c =
    bad_item_if (members_view c.args.members.now.entries) (view c.in_ok-value.value.now) c.in_ok-value.ensures
    c.in_ok-items.items.now.items c.in_ok-items.ensures c.first_refused.result
    (subst (λ (vs : List Value). IfSome c.first_refused.result (IsFirstRefused (map view vs))) c.as_slice.ensures.value c.first_refused.ensures.found)

pub returns-clause-only : goal.returns-clause-only
returns-clause-only c = λ bad h.
    c.first_refused.ensures.only bad
    (subst (λ (vs : List Value). IsFirstRefused (map view vs) bad) (sym c.as_slice.ensures.value)
    (first_of (members_view c.args.members.now.entries) (view c.in_ok-value.value.now) c.in_ok-value.ensures
    c.in_ok-items.items.now.items c.in_ok-items.ensures bad h))
