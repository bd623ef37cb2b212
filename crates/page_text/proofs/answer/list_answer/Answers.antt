use Rattle.std.proofs.Common.{subst, sym}
use Rattle.state_core.specs.State.{state_of}
use Rattle.page_text.specs.Rows.{chosen_rows}
use Rattle.page_text.specs.Table.{HasTable}
use Rattle.page_text.proofs.answer.list_answer.Goals as goal

pub returns : goal.returns
returns c =
    let state = state_of c.args.replica.now in
    let choice = c.args.choice.now in
    let rows = chosen_rows state choice c.args.verdicts.now in
    record {
      is = c.found.ensures.is;
      rows_are = subst (HasTable c.args.gate.now state c.args.verdicts.now choice.page rows) (sym c.found.ensures.text_is)
          c.in_ok-body.ensures;
    }
