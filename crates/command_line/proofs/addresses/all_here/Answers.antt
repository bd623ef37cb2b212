use Rattle.std.proofs.Common.{rules, ◌≡◌, ◌∙◌, Some, map, sym}
use Rattle.std.proofs.lemmas.List.Folds.{list_all-map}
use Rattle.command_tree.specs.Matching.{all_of}
use Rattle.command_tree.specs.Rows.{rows_in}
use Rattle.site_address.specs.Address.{has_slash}
use Rattle.command_line.proofs.addresses.all_here.Goals as goal

pub returns-in-Some : goal.returns-in-Some
returns-in-Some c =
    let texts = c.texts.ensures in
    let given : all_of c.args.argument.now (rows_in c.args.values.now) ≡ Some (map (λ text. text.now) c.in-Some.words.now) = search (rules, texts) in
    rw given (c.are_paths.ensures ∙ sym (list_all-map has_slash (λ text. text.now) c.in-Some.words.now))
