use Rattle.std.proofs.Common.{sym}
use Rattle.std.proofs.lemmas.List.Folds.{flat_map-map}
use Rattle.json_line.specs.Adding.{adds_same, adds_then}
use Rattle.json_line.specs.Tokens.{text_item}
use Rattle.json_line.proofs.lists.put_words.Goals as goal

pub returns : goal.returns
returns c =
    adds_then c.in_ok-open_list.ensures
    (adds_then (adds_same c.in_ok-add_words.ensures (sym (flat_map-map text_item (λ word. word.now) c.args.words.now))) c.in_ok-close_list.ensures)
