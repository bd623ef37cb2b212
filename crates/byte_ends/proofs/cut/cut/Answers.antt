use Rattle.std.proofs.Common.{ap, ◌∙◌, ◌∷◌, ◌+◌, add-one, sym, take, drop}
use Rattle.std.proofs.lemmas.List.{take_rest}
use Rattle.byte_ends.specs.Lines.{pieces_of}
use Rattle.byte_ends.proofs.CutLemmas.{pieces_of-none, pieces_of-first}
use Rattle.byte_ends.proofs.cut.cut.Goals as goal

pub returns-in-None : goal.returns-in-None
returns-in-None c = pieces_of-none c.args.text.now c.requires (c.in-None.ensures)

pub returns-in-Some : goal.returns-in-Some
returns-in-Some c =
    let text = c.args.text.now in
    let at = c.in-Some.at in
    pieces_of-first text at c.in-Some.ensures.0.high c.in-Some.ensures.1 c.in-Some.ensures.0.before
    ∙ ap (λ n. take at text ∷ pieces_of (drop n text)) (sym (add-one at))
    ∙ ap (λ rest. take at text ∷ pieces_of rest) (sym (take_rest text (at + 1)))
