use Rattle.std.proofs.Common.{IsUtf8, codes, map, string_bytes}
use Rattle.markup_text.specs.Html.{html_of}
use Rattle.page_text.specs.Wanted.{statuses_html}
use Rattle.page_text.proofs.Wanting.{SaidSoFar}
use Rattle.page_text.proofs.words.add_statuses.Given as goal

-- those so far are added
abbrev pub invariant-loop-text : goal.invariant-loop-text
invariant-loop-text l = record {
  said : SaidSoFar (λ text. html_of (string_bytes text)) (codes " or ") l.texts l.text-index l.before (statuses_html (map string_bytes l.texts)) l.initial.page l.page;
  text : IsUtf8 l.before;
}
