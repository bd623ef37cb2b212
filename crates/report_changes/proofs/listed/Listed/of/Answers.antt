use Rattle.std.proofs.Common.{◌≡◌, ◌∙◌, ap, rules}
use Rattle.std.specs.List.{list_any}
use Rattle.report_changes.proofs.Members.{kept_so}
use Rattle.report_changes.proofs.listed.Listed.of.Goals as goal

pub invariant_of-result : goal.invariant_of-result
invariant_of-result c =
    let copied : c.in_ok-ready.ready.items ≡ c.args.verdicts.now.ready = search rules in
    kept_so c.args.verdicts.now _ _ _ c.requires copied
    (λ test. c.in_ok-ordered.ensures.same test ∙ ap (list_any test) c.ready-2.ensures) c.in_ok-ordered.ensures.ordered (search rules)

pub returns : goal.returns
returns c =
    let copied : c.in_ok-ready.ready.items ≡ c.args.verdicts.now.ready = search rules in
    search (rules, copied)
