use Rattle.std.proofs.Common.{IsUtf8, codes}
use Rattle.std.specs.Fmt.{signed_decimal}
use Rattle.page_text.specs.Wanted.{values_html}
use Rattle.page_text.proofs.Wanting.{SaidSoFar}
use Rattle.page_text.proofs.words.add_values.Given as goal

-- those so far are added
abbrev pub invariant-loop-value : goal.invariant-loop-value
invariant-loop-value l = record {
  said : SaidSoFar signed_decimal (codes " or ") l.values l.value-index l.before (values_html l.values) l.initial.page l.page;
  text : IsUtf8 l.before;
}
