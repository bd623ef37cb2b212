use Rattle.std.proofs.Common.{◌∙◌, ap}
use Rattle.std.specs.Fmt.{decimal}
use Rattle.page_routes.proofs.Reading.{no_page}
use Rattle.page_routes.proofs.choice.page_of.Goals as goal

pub returns-then-page-eq0 : goal.returns-then-page-eq0
returns-then-page-eq0 c other is =
    no_page c.args.text.now (λ empty. let yes = c.is_text.ensures.1 empty in cc)
    (c.in_ok-page.ensures.1 ∙ ap decimal c.if-page-eq0.true) other is
