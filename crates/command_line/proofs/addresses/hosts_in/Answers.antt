use Rattle.std.proofs.Common.{rules, ◌≡◌, Some, map}
use Rattle.command_tree.specs.Matching.{all_of}
use Rattle.command_tree.specs.Rows.{rows_in}
use Rattle.command_line.proofs.addresses.hosts_in.Goals as goal

pub returns-in-Some : goal.returns-in-Some
returns-in-Some c =
    let texts = c.texts.ensures in
    let given : all_of c.args.option.now (rows_in c.args.values.now) ≡ Some (map (λ text. text.now) c.in-Some.texts.now) = search (rules, texts) in
    rw given c.hosts_of.ensures
