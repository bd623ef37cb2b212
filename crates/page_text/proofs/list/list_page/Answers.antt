use Rattle.std.proofs.Common.{◌∙◌, List, ap, subst, sym}
use Rattle.state_core.specs.State.{State, state_of}
use Rattle.ready_core.specs.Verdicts.{AreVerdicts}
use Rattle.page_text.specs.Rows.{chosen_rows}
use Rattle.page_text.specs.declared.rows.Row.{Row}
use Rattle.page_text.specs.Table.{HasTable}
use Rattle.page_text.proofs.TableRows.{chosen_there, table_had}
use Rattle.page_text.proofs.list.list_page.Goals as goal

pub add_table-requires-clause-judged : goal.add_table-requires-clause-judged
add_table-requires-clause-judged c =
    subst (λ (state : State). AreVerdicts c.args.gate.now state c.args.verdicts.now) (sym c.state-2.ensures) c.requires

pub add_table-requires-clause-there : goal.add_table-requires-clause-there
add_table-requires-clause-there c =
    chosen_there c.state.result.now c.args.choice.now c.args.verdicts.now c.as_slice-rows.result.now
    (c.as_slice-rows.ensures.value ∙ c.in_ok-chosen.ensures)

pub returns : goal.returns
returns c =
    let choice = c.args.choice.now in
    let gate = c.args.gate.now in
    let verdicts = c.args.verdicts.now in
    let html = c.in_ok-text.text.items in
    let rows = c.as_slice-rows.result.now in
    let asked = c.as_slice-rows.ensures.value ∙ c.in_ok-chosen.ensures ∙ ap (λ state. chosen_rows state choice verdicts) c.state.ensures in
    let has = table_had gate c.state-2.result.now verdicts choice.page rows c.top_of-page.result c.add_table.new.page c.add_bottom.new.page html
    c.top_of-page.ensures c.add_table.ensures c.add_bottom.ensures c.in_ok-text.ensures in
    subst (λ (rows : List Row). HasTable gate (state_of c.args.replica.now) verdicts choice.page rows html) asked
    (subst (λ state. HasTable gate state verdicts choice.page rows html) c.state-2.ensures has)
