use Rattle.std.proofs.Common.{subst}
use Rattle.markup_text.specs.Adding.{adds_then2}
use Rattle.markup_text.specs.Growing.{Adds}
use Rattle.page_text.specs.Wanted.{any_html, labels_html, voter_html}
use Rattle.page_text.proofs.words.add_pattern.Goals as goal

pub returns : goal.returns
returns c =
    let pattern = c.args.pattern.now in
    let any = subst (λ rules. Adds (any_html rules) c.args.page.now c.add_any.new.page) c.labels.ensures c.add_any.ensures in
    let labels = subst (λ rules. Adds (labels_html rules) c.add_any.new.page c.add_labels.new.page) c.labels-2.ensures c.add_labels.ensures in
    let voter = subst (λ name. Adds (voter_html name) c.add_labels.new.page c.add_voter.new.page) c.username.ensures c.add_voter.ensures in
    adds_then2 c.args.page.now c.add_any.new.page c.add_labels.new.page c.add_voter.new.page (any_html pattern.labels)
    (labels_html pattern.labels) (voter_html pattern.username) any labels voter
