use Rattle.std.proofs.Common.{codes, refl}
use Rattle.std.proofs.lemmas.Str.Pattern.{split_text_parts}
use Rattle.page_text.proofs.RowlessSteps.{place_added}
use Rattle.page_text.proofs.template.add_to_place.Goals as goal

pub returns : goal.returns
returns c = λ rowless.
    place_added c.args.template.now c.split_once.result c.args.template _ c.unwrap_or.result c.args.page.now c.add.new.self
    c.unwrap_or.ensures refl refl (split_text_parts (codes "{}") c.args.template.now c.split_once.result c.split_once.ensures.cases)
    c.add.ensures rowless
