use Rattle.std.proofs.Common.{◌≡◌, ◌++◌, ◌∙◌, ap, List, map, subst, string_bytes}
use Rattle.std.specs.Prelude.{OnOk}
use Rattle.gate_rules.specs.Rules.{PatternRule, SideRules}
use Rattle.gate_check.specs.Asking.{approval_lines, current_lines, by_place, open_lines, status_lines}
use Rattle.gate_check.proofs.Texts.{after_four}
use Rattle.gate_check.proofs.asking.add_side.Goals as goal

pub returns : goal.returns
returns c =
    let gate = c.args.gate.now in
    let side = c.args.side in
    let approvals = c.approvals.ensures ∙ ap (λ (rules : SideRules). rules.approvals) c.clauses.ensures in
    after_four c.add_approvals.result _ (open_lines gate side) (current_lines gate side) (status_lines gate side) _ _ _ _ _
    c.in_ok-add_open.ensures c.in_ok-add_current.ensures c.in_ok-add_status.ensures
    (subst (λ (patterns : List PatternRule). OnOk c.add_approvals.result (map string_bytes c.add_approvals.new.lines.items ≡ map string_bytes c.add_status.new.lines.items ++ by_place (approval_lines gate side) 0 patterns)) approvals c.add_approvals.ensures)
