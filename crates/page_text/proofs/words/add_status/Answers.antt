use Rattle.std.proofs.Common.{codes, map, string_bytes, subst}
use Rattle.markup_text.specs.Adding.{adds_then}
use Rattle.markup_text.specs.Growing.{Adds}
use Rattle.page_text.specs.Wanted.{status_html, statuses_html}
use Rattle.page_text.proofs.words.add_status.Goals as goal

pub returns-in-Some : goal.returns-in-Some
returns-in-Some c =
    subst (λ status. Adds (status_html status) c.args.page.now c.add_statuses.new.page) c.in-Some.ensures
    (adds_then c.args.page.now c.add.new.self c.add_statuses.new.page (codes "status") (statuses_html (map string_bytes c.in-Some.texts.now))
    c.add.ensures c.add_statuses.ensures)

pub returns-in-None : goal.returns-in-None
returns-in-None c =
    subst (λ status. Adds (status_html status) c.args.page.now c.add.new.self) c.in-None.ensures c.add.ensures
