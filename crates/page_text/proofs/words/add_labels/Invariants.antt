use Rattle.std.proofs.Common.{IsUtf8, codes}
use Rattle.page_text.specs.Wanted.{label_html, labels_html}
use Rattle.page_text.proofs.Wanting.{SaidSoFar}
use Rattle.page_text.proofs.words.add_labels.Given as goal

-- those so far are added
abbrev pub invariant-loop-rule : goal.invariant-loop-rule
invariant-loop-rule l = record {
  said : SaidSoFar label_html (codes " and ") l.labels l.rule-index l.before (labels_html l.labels) l.initial.page l.page;
  text : IsUtf8 l.before;
}
