use Rattle.std.proofs.Common.{◌∙◌, [], ◌∷◌, ap}
use Rattle.json.specs.Token.{string}
use Rattle.page_text.proofs.Marks.{notes_same}
use Rattle.page_text.proofs.waiting.put_item.Goals as goal

pub returns-in-Ok : goal.returns-in-Ok
returns-in-Ok c =
    notes_same c.put_text.ensures (ap (λ text. string text ∷ []) (c.as_str.ensures.value ∙ c.in-Ok.ensures))
