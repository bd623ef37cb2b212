use Rattle.std.proofs.Common.{◌∙◌, ◌++◌, [], List, ℕ, ap, append-nil, codes, map, rules, string_bytes, subst, sym}
use Rattle.markup_text.specs.Html.{html_of}
use Rattle.page_text.specs.Wanted.{separated, statuses_html}
use Rattle.page_text.proofs.Wanting.{SaidSoFar, all_said, map_twice, nothing_said, one_said}
use Rattle.page_text.proofs.words.add_statuses.Goals as goal

pub loop-text-init : goal.loop-text-init
loop-text-init c = record {
  said = subst (λ (texts : List (List ℕ)). SaidSoFar (λ text. html_of (string_bytes text)) (codes " or ") c.args.texts.now 0 (codes " ")
      (separated (codes " ") (codes " or ") texts) c.args.page.now c.args.page.now) (sym (map_twice html_of string_bytes c.args.texts.now))
      (nothing_said (λ text. html_of (string_bytes text)) (codes " ") (codes " or ") c.args.texts.now c.args.page.now);
  text = search rules;
}

pub loop-text-preserved : goal.loop-text-preserved
loop-text-preserved c = record {
  said = one_said (λ text. html_of (string_bytes text)) (codes " or ") c.args.texts.now c.loop-text.text-index c.text-item.result c.text-item.result c.loop-text.before.now
      (statuses_html (map string_bytes c.args.texts.now)) (c.loop-text.before.now ++ (html_of c.as_str.result.now ++ [])) c.args.page.now c.loop-text.page
      c.add.new.self c.loop-text-test.true c.text-item.is c.loop-text.invariant.said
      (ap (λ t. c.loop-text.before.now ++ t) (append-nil (html_of c.as_str.result.now) ∙ ap html_of c.as_str.ensures.value)) c.add.ensures;
  text = search rules;
}

pub returns : goal.returns
returns c =
    all_said (λ text. html_of (string_bytes text)) (codes " or ") c.args.texts.now c.loop-text.text-index c.loop-text.before.now
    (statuses_html (map string_bytes c.args.texts.now)) c.args.page.now c.loop-text.page c.loop-text-test.false c.loop-text.invariant.said
