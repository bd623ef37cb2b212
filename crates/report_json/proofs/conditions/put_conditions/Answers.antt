use Rattle.std.proofs.Common.{refl, subst}
use Rattle.json_line.specs.Adding.{adds_then}
use Rattle.why_text.specs.All.{WritesEach}
use Rattle.report_json.specs.Why.{SaysTried}
use Rattle.report_json.proofs.conditions.put_conditions.Goals as goal

pub returns : goal.returns
returns c =
    let all = c.in_ok-add_all_tried.ensures in (
      _,
      adds_then c.in_ok-open_list.ensures (adds_then all.1 c.in_ok-close_list.ensures),
      record {
        tried = c.in_ok-tried.tried.items;
        are = c.in_ok-tried.ensures;
        objects = all.0;
        each = subst (λ l. WritesEach (SaysTried c.args.file.now c.args.state.now c.args.item) l all.0) c.as_slice.ensures.value all.2;
        members = refl;
      },
    )
