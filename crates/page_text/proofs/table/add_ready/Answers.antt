use Rattle.std.proofs.Common.{◌∷◌, [], codes, refl}
use Rattle.page_text.specs.declared.rows.Row.TheVariants.{Enters}
use Rattle.report_text.specs.StateText.{joined}
use Rattle.page_text.proofs.TableRows.{row_added}
use Rattle.page_text.proofs.table.add_ready.Goals as goal

pub returns : goal.returns
returns c = λ gate verdicts.
    row_added gate c.args.state.now verdicts (Enters c.args.item c.args.place) c.args.page.now c.add.new.self c.add_about.new.page
    c.add-2.new.self (joined (codes "<td class=\"ready\">ready</td><td></td></tr>\n" ∷ []))
    refl c.add.ensures c.add_about.ensures c.add-2.ensures
