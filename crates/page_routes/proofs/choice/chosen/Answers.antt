use Rattle.page_routes.proofs.choice.chosen.Goals as goal

pub returns-in_err-shown : goal.returns-in_err-shown
returns-in_err-shown c = rw c.from_residual.ensures (λ other is. c.in_err-shown.ensures other.shown is.shown)

pub returns-in_err-page : goal.returns-in_err-page
returns-in_err-page c = rw c.from_residual-in_err-page.ensures (λ other is. c.in_err-page.ensures other.page is.page_is)
