use Rattle.std.proofs.Common.{Some, option_map, sym, ap, ◌∙◌}
use Rattle.serde_json.specs.View.{view, members_view}
use Rattle.serde_json.specs.Written.{compact_text}
use Rattle.gate_rules.specs.WantedLaws.{wanted_whole}
use Rattle.gate_rules.proofs.wanted.json_at.Goals as goal

pub returns : goal.returns
returns c =
    let members = members_view c.args.members.now.entries in
    let value = view c.in-Some.value.now in
    let whole = wanted_whole members c.args.condition value c.requires (sym c.in-Some.ensures) in
    ap Some (c.in_ok-to_string.ensures.text whole) ∙ ap (option_map compact_text) c.in-Some.ensures
