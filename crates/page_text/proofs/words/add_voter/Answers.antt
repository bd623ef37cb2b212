use Rattle.std.proofs.Common.{◌++◌, List, ℕ, Bor, Option, append-nil, codes, option_map, subst, sym}
use Rattle.markup_text.specs.Growing.{Adds}
use Rattle.markup_text.specs.Html.{html_of}
use Rattle.page_text.specs.Wanted.{voter_html}
use Rattle.page_text.proofs.words.add_voter.Goals as goal

pub returns-in-Some : goal.returns-in-Some
returns-in-Some c =
    let said = subst (λ html. Adds (codes " by " ++ html) c.args.page.now c.add.new.self) (append-nil (html_of c.in-Some.name.now)) c.add.ensures in
    subst (λ (voter : Option (Bor (List ℕ))). Adds (voter_html (option_map (λ name. name.now) voter)) c.args.page.now c.add.new.self)
    (sym c.in-Some.is) said
