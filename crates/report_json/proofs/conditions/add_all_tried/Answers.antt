use Rattle.std.proofs.Common.{◌++◌, ◌<◌, length, refl, rules}
use Rattle.json_line.specs.Adding.{adds_then}
use Rattle.why_text.specs.Each.{each_more}
use Rattle.report_json.specs.Why.{SaysTried}
use Rattle.report_json.proofs.conditions.add_all_tried.Goals as goal

pub loop-one-preserved : goal.loop-one-preserved
loop-one-preserved c =
    let says = SaysTried c.args.file.now c.args.state.now c.args.item in
    let inside : c.loop-one.one-index < length c.args.tried.now = search rules in
    let before = c.loop-one.invariant in
    let more = c.in_ok-add_tried.ensures in (
      before.0 ++ more.0,
      adds_then before.1 more.1,
      each_more says c.args.tried.now c.loop-one.one-index _ before.0 more.0 _ inside (search rules) before.2 more.2 refl,
    )
