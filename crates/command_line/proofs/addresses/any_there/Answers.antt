use Rattle.std.proofs.Common.{rules, ◌≡◌, ◌∙◌, Some, map, sym}
use Rattle.command_tree.specs.Matching.{all_of}
use Rattle.command_tree.specs.Rows.{rows_in}
use Rattle.site_address.specs.Peer.{is_there}
use Rattle.command_line.proofs.Reading.{any_over}
use Rattle.command_line.proofs.addresses.any_there.Goals as goal

pub returns-in-Some : goal.returns-in-Some
returns-in-Some c =
    let texts = c.texts.ensures in
    let given : all_of c.args.argument.now (rows_in c.args.values.now) ≡ Some (map (λ text. text.now) c.in-Some.words.now) = search (rules, texts) in
    rw given (c.has_there.ensures ∙ sym (any_over (λ text. text.now) is_there c.in-Some.words.now))
