use Rattle.std.proofs.Common.{refl, rules}
use Rattle.gate_rules.specs.Wanted.{wanted_value}
use Rattle.json_line.specs.Adding.{adds_then}
use Rattle.report_json.proofs.asked.put_asked.Goals as goal

pub returns : goal.returns
returns c =
    let want = c.in_ok-put_want.ensures in (
      _,
      adds_then want.2 c.in_ok-put_have.ensures,
      record {
        want = wanted_value c.args.condition want.0;
        change = c.unwrap-change.result.now;
        current = c.unwrap-current.result;
        asked = record {
          members = want.0;
          is_object = want.1;
          wanted = refl;
          there = search rules;
          greatest = search rules;
        };
        members = refl;
      },
    )
