use Rattle.std.proofs.Common.{◌++◌, [], ap, append-nil, codes, rules}
use Rattle.markup_text.specs.Adding.{adds_then}
use Rattle.page_text.specs.Wanted.{label_html, labels_html}
use Rattle.page_text.proofs.Wanting.{all_said, nothing_said, one_said}
use Rattle.page_text.proofs.words.add_labels.Goals as goal

pub loop-rule-init : goal.loop-rule-init
loop-rule-init c = record {
  said = nothing_said label_html [] (codes " and ") c.args.labels.now c.args.page.now;
  text = search rules;
}

pub loop-rule-preserved : goal.loop-rule-preserved
loop-rule-preserved c = record {
  said = one_said label_html (codes " and ") c.args.labels.now c.loop-rule.rule-index c.rule-item.result c.rule-item.result c.loop-rule.before.now
      (labels_html c.args.labels.now) ((c.loop-rule.before.now ++ []) ++ label_html c.rule-item.result) c.args.page.now c.loop-rule.page
      c.add_label.new.page c.loop-rule-test.true c.rule-item.is c.loop-rule.invariant.said
      (ap (λ t. t ++ label_html c.rule-item.result) (append-nil c.loop-rule.before.now))
      (adds_then c.loop-rule.page c.add.new.self c.add_label.new.page (c.loop-rule.before.now ++ []) (label_html c.rule-item.result)
      c.add.ensures c.add_label.ensures);
  text = search rules;
}

pub returns : goal.returns
returns c =
    all_said label_html (codes " and ") c.args.labels.now c.loop-rule.rule-index c.loop-rule.before.now (labels_html c.args.labels.now)
    c.args.page.now c.loop-rule.page c.loop-rule-test.false c.loop-rule.invariant.said
