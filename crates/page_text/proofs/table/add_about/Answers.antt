use Rattle.std.proofs.Common.{◌∷◌, [], codes, subst}
use Rattle.markup_text.specs.Html.{html_of}
use Rattle.markup_text.specs.Growing.{Adds}
use Rattle.markup_text.specs.Adding.{adds_then2}
use Rattle.report_text.specs.StateText.{joined}
use Rattle.page_text.specs.Table.{link_html, subject_html}
use Rattle.page_text.proofs.table.add_about.Goals as goal

pub returns : goal.returns
returns c =
    adds_then2 c.args.page.now c.add.new.self c.add_item_link.new.page c.add-2.new.self
    (joined (codes "<th scope=\"row\">" ∷ [])) (link_html c.args.item) (subject_html c.args.state.now c.args.item)
    c.add.ensures c.add_item_link.ensures
    (subst (λ text. Adds (joined (codes "</th><td>" ∷ html_of text ∷ codes "</td>" ∷ [])) c.add_item_link.new.page
    c.add-2.new.self) c.subject_of.ensures c.add-2.ensures)
