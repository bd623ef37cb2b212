use Rattle.footer_text.specs.LineLaws.{IsFooter-same}
use Rattle.footer_text.specs.ReadingLaws.{IsNumberAndTail-no_slash, ReadsAs-same, NamesChange-same}
use Rattle.footer_text.specs.FooterLaws.{AreFooters-same}
use Rattle.footer_text.proofs.depend.footers_are_unique.Goals as goal

pub returns : goal.returns
returns c = record {
  line = IsFooter-same;
  project = IsNumberAndTail-no_slash;
  base = ReadsAs-same;
  bases = NamesChange-same;
  message = AreFooters-same;
}
