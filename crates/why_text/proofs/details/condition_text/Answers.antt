use Rattle.std.proofs.Common.{rules, ◌++◌, ap, refl, ◌∙◌}
use Rattle.gate_rules.specs.Wanted.{wanted_value}
use Rattle.why_text.specs.Why.{have_lines}
use Rattle.why_text.proofs.details.condition_text.Goals as goal

pub returns : goal.returns
returns c =
    let want = c.in_ok-text.ensures in
    record {
      want = wanted_value c.args.condition want.0;
      change = c.unwrap-change.result.now;
      current = c.unwrap-current.result;
      asked = record {
        members = want.0;
        is_object = want.1;
        wanted = refl;
        there = search rules;
        greatest = search rules;
      };
      lines = c.in_ok-add_have.ensures ∙ ap (λ t. t ++ have_lines c.args.condition.clause c.unwrap-change.result.now c.unwrap-current.result) want.2;
    }
