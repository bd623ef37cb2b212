use Rattle.std.proofs.Common.{◌∙◌, ap, append-nil, subst}
use Rattle.markup_text.specs.Growing.{Adds}
use Rattle.markup_text.specs.Html.{html_of}
use Rattle.page_text.proofs.links.add_refusal_words.Goals as goal

pub returns-in-Ok : goal.returns-in-Ok
returns-in-Ok c =
    subst (λ html. Adds html c.args.page.now c.add.new.self)
    (append-nil (html_of c.as_str.result.now) ∙ ap html_of (c.as_str.ensures.value ∙ c.in-Ok.ensures)) c.add.ensures
