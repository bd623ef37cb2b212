use Rattle.std.proofs.Common.{[], refl, subst, sym}
use Rattle.ready_core.specs.declared.verdicts.Refusal.{Refusal}
use Rattle.page_text.specs.Table.{IsCauseHtml}
use Rattle.page_text.proofs.TableRows.{cause_added, no_cause}
use Rattle.page_text.proofs.table.add_cause.Goals as goal

pub returns-in-Dependency : goal.returns-in-Dependency
returns-in-Dependency c =
    cause_added c.args.state.now c.args.verdicts.now c.args.left _ c.args.cells.now c.add_end.new.cells
    c.in-Dependency.is c.add_end.ensures

pub returns-in-Own : goal.returns-in-Own
returns-in-Own c =
    no_cause c.args.state.now c.args.verdicts.now c.args.left c.args.cells.now
    (subst (λ (refusal : Refusal). IsCauseHtml c.args.state.now c.args.verdicts.now c.args.left refusal []) (sym c.in-Own.is) refl)

pub returns-in-Cycle : goal.returns-in-Cycle
returns-in-Cycle c =
    no_cause c.args.state.now c.args.verdicts.now c.args.left c.args.cells.now
    (subst (λ (refusal : Refusal). IsCauseHtml c.args.state.now c.args.verdicts.now c.args.left refusal []) (sym c.in-Cycle.is) refl)

pub returns-in-Unknown : goal.returns-in-Unknown
returns-in-Unknown c =
    no_cause c.args.state.now c.args.verdicts.now c.args.left c.args.cells.now
    (subst (λ (refusal : Refusal). IsCauseHtml c.args.state.now c.args.verdicts.now c.args.left refusal []) (sym c.in-Unknown.is) refl)
