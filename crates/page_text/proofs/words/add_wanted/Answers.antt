use Rattle.std.proofs.Common.{◌∙◌, ◌-◌, ap, append-nil, slice_get, subst, sym}
use Rattle.gate_rules.specs.Own.{side_rules}
use Rattle.gate_rules.specs.Rules.{SideRules}
use Rattle.gate_rules.specs.declared.condition.Clause.{Clause}
use Rattle.markup_text.specs.Growing.{Adds}
use Rattle.page_text.specs.Wanted.{approval_html, clause_html, current_phrase, open_phrase, status_html}
use Rattle.page_text.proofs.words.add_wanted.Goals as goal

pub returns-in-OpenState : goal.returns-in-OpenState
returns-in-OpenState c =
    let rules = side_rules c.args.gate.now c.args.condition.side in
    let words = append-nil c.open_words.result.now ∙ c.open_words.ensures
    ∙ ap open_phrase (c.asks_open.ensures ∙ ap (λ (rules : SideRules). rules.is_open) c.clauses-clauses.ensures) in
    subst (λ (clause : Clause). Adds (clause_html rules clause) c.args.page.now c.add.new.self) (sym c.in-OpenState.is)
    (subst (λ html. Adds html c.args.page.now c.add.new.self) words c.add.ensures)

pub returns-in-CurrentSet : goal.returns-in-CurrentSet
returns-in-CurrentSet c =
    let rules = side_rules c.args.gate.now c.args.condition.side in
    let words = append-nil c.current_words.result.now ∙ c.current_words.ensures
    ∙ ap current_phrase (c.asks_current.ensures ∙ ap (λ (rules : SideRules). rules.is_current) c.clauses-clauses.ensures) in
    subst (λ (clause : Clause). Adds (clause_html rules clause) c.args.page.now c.add-in-CurrentSet.new.self)
    (sym c.in-CurrentSet.is)
    (subst (λ html. Adds html c.args.page.now c.add-in-CurrentSet.new.self) words c.add-in-CurrentSet.ensures)

pub returns-in-StatusIn : goal.returns-in-StatusIn
returns-in-StatusIn c =
    let rules = side_rules c.args.gate.now c.args.condition.side in
    subst (λ (clause : Clause). Adds (clause_html rules clause) c.args.page.now c.add_status.new.page)
    (sym c.in-StatusIn.is)
    (subst (λ (rules : SideRules). Adds (status_html rules.status) c.args.page.now c.add_status.new.page) c.clauses-clauses.ensures c.add_status.ensures)

pub returns-in-Approval : goal.returns-in-Approval
returns-in-Approval c =
    let rules = side_rules c.args.gate.now c.args.condition.side in
    let patterns = c.approvals.ensures ∙ ap (λ (rules : SideRules). rules.approvals) c.clauses-clauses.ensures in
    subst (λ (clause : Clause). Adds (clause_html rules clause) c.args.page.now c.add_approval.new.page)
    (sym c.in-Approval.is)
    (subst (λ list. Adds (approval_html (slice_get list (c.in-Approval.number - 1))) c.args.page.now c.add_approval.new.page) patterns
    c.add_approval.ensures)
