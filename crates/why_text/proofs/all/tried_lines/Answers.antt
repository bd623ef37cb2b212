use Rattle.std.proofs.Common.{◌≡◌, ◌++◌, ◌<◌, length, rules, string_bytes}
use Rattle.why_text.specs.All.{WritesTried}
use Rattle.why_text.specs.Each.{each_more}
use Rattle.why_text.proofs.all.tried_lines.Goals as goal

pub loop-one-preserved : goal.loop-one-preserved
loop-one-preserved c =
    let writes = WritesTried c.args.file.now c.args.state.now c.args.item in
    let inside : c.loop-one.one-index < length c.args.tried.now = search rules in
    let grown : string_bytes c.push_str.new.self ≡ string_bytes c.loop-one.text ++ string_bytes c.in_ok-more.more = search rules in
    each_more writes c.args.tried.now c.loop-one.one-index _ _ _ _ inside
    (search rules) c.loop-one.invariant c.in_ok-more.ensures grown
