use Rattle.std.proofs.Common.{◌∙◌, ap, append-nil, subst}
use Rattle.markup_text.specs.Adding.{adds_then}
use Rattle.markup_text.specs.Growing.{Adds}
use Rattle.markup_text.specs.Html.{html_of}
use Rattle.page_text.specs.Wanted.{values_html}
use Rattle.page_text.proofs.words.add_label.Goals as goal

pub returns : goal.returns
returns c =
    let rule = c.args.rule.now in
    let name = subst (λ html. Adds html c.args.page.now c.add.new.self)
    (append-nil (html_of c.label.result.now) ∙ ap html_of c.label.ensures) c.add.ensures in
    let values = subst (λ values. Adds (values_html values) c.add.new.self c.add_values.new.page) c.values.ensures c.add_values.ensures in
    adds_then c.args.page.now c.add.new.self c.add_values.new.page (html_of rule.label) (values_html rule.values) name values
