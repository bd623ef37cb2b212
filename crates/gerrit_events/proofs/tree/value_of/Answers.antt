use Rattle.std.proofs.Common.{◌≡◌, Some, is_some, true, false, sym, ap, ◌∙◌, arith}
use Rattle.json.specs.Json.{value}
use Rattle.json.specs.Lex.{tokens}
use Rattle.json.specs.Value.{value_view}
use Rattle.gerrit_events.specs.Trees.{has_values}
use Rattle.gerrit_events.proofs.Trees.{read_whole, unread_whole}
use Rattle.gerrit_events.proofs.tree.value_of.Goals as goal

pub returns-then-has_values : goal.returns-then-has_values
returns-then-has_values c =
    let begins : value 127 (tokens c.args.text.now) ≡ Some (value_view c.in-Ok.value, c.read.new.reader) =
    ap (value 127) (sym c.in_ok-reader.ensures.ok) ∙ c.in-Ok.ensures.ok in
    let last : is_some c.next.result ≡ false = grind arith in
    let has : has_values (value_view c.in-Ok.value) ≡ true = grind arith in
    read_whole c.args.text.now (value_view c.in-Ok.value) c.read.new.reader c.next.new.self c.next.result begins
    c.next.ensures.value last has

pub returns : goal.returns
returns c =
    let begins : value 127 (tokens c.args.text.now) ≡ Some (value_view c.in-Ok.value, c.read.new.reader) =
    ap (value 127) (sym c.in_ok-reader.ensures.ok) ∙ c.in-Ok.ensures.ok in
    let last : is_some c.next.result ≡ false = grind arith in
    let has : has_values (value_view c.in-Ok.value) ≡ false = grind arith in
    unread_whole c.args.text.now (value_view c.in-Ok.value) c.read.new.reader c.next.new.self c.next.result begins
    c.next.ensures.value last has
