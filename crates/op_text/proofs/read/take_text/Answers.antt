use Rattle.std.proofs.Common.{◌≡◌, IsSome, option_map, string_bytes, subst, sym, ap, ◌∙◌}
use Rattle.serde_json.specs.Find.{get_member}
use Rattle.serde_json.specs.View.{view, members_view}
use Rattle.serde_json.proofs.Views.{view-lookup}
use Rattle.op_text.specs.Shape.{found_at}
use Rattle.op_text.proofs.Entries.{get_member-remove_entry}
use Rattle.op_text.proofs.Taken.{IsSome-taken, text-taken, IsSome-text}
use Rattle.op_text.proofs.read.take_text.Goals as goal
use Rattle.op_text.proofs.read.take_text.Goals.{After-remove}

taken_is : (c : After-remove)
    → option_map view c.remove.result ≡ found_at c.args.field (members_view c.args.members.now.entries)
taken_is c = ap (option_map view) c.remove.ensures.value ∙ view-lookup c.key.result.now c.args.members.now.entries
    ∙ ap (λ k. get_member k (members_view c.args.members.now.entries)) c.key.ensures

pub unwrap-value-requires : goal.unwrap-value-requires
unwrap-value-requires c = IsSome-taken c.remove.result _ (taken_is c) c.requires

pub unwrap-requires : goal.unwrap-requires
unwrap-requires c =
    IsSome-text c.into_text.result _ c.into_text.ensures (subst IsSome (text-taken c.remove.result _ c.unwrap-value.result (taken_is (goal.at.unwrap-requires c).After-remove) c.unwrap-value.ensures) c.requires)

pub returns-clause-text : goal.returns-clause-text
returns-clause-text c =
    text-taken c.remove.result _ c.unwrap-value.result
    (taken_is (goal.at.returns-clause-text c).After-remove) c.unwrap-value.ensures ∙ sym c.into_text.ensures ∙ ap
    (option_map string_bytes) c.unwrap.ensures

pub returns-clause-others : goal.returns-clause-others
returns-clause-others c = λ key other.
    ap (λ es. get_member key (members_view es)) c.remove.ensures.entries
    ∙ get_member-remove_entry key c.key.result.now c.args.members.now.entries (λ same. other (same ∙ c.key.ensures))
