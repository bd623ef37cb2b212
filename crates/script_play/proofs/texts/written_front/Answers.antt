use Rattle.std.proofs.Common.{ap, ◌∙◌, ◌++◌, ◌∷◌, []}
use Rattle.script_play.proofs.texts.written_front.Goals as goal

pub returns : goal.returns
returns c = (c.in_ok-front.front, c.in_ok-front.ensures, c.in_ok-push_str.ensures.bytes ∙ ap (λ t. t ++ 10 ∷ []) c.in_ok-line.ensures.text)
