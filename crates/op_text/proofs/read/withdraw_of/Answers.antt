use Rattle.std.proofs.Common.{◌≡◌, refl}
use Rattle.serde_json.specs.View.{members_view}
use Rattle.op_text.specs.declared.field.Field.TheVariants.{Change, Label, Set, Voter}
use Rattle.op_text.specs.Shape.{found_at}
use Rattle.op_text.specs.Field.{key_of}
use Rattle.op_text.proofs.Fits.{voter_is_not_label, required32, required_text}
use Rattle.op_text.proofs.read.withdraw_of.Goals as goal

pub number32-change-requires : goal.number32-change-requires
number32-change-requires c = required32 Change (λ d. refl) (found_at Change (members_view c.args.members.entries))
    (c.requires.shape.1.fields Change)

pub number32-set-requires : goal.number32-set-requires
number32-set-requires c =
    required32 Set (λ d. refl) (found_at Set (members_view c.args.members.entries)) (c.requires.shape.1.fields Set)

pub take_text-label-requires : goal.take_text-label-requires
take_text-label-requires c = required_text Label (λ d. refl) (found_at Label (members_view c.args.members.entries))
    (c.requires.shape.1.fields Label)

-- the voter is there as it was before the label was taken
pub take_text-voter-requires : goal.take_text-voter-requires
take_text-voter-requires c =
    let same : found_at Voter (members_view c.take_text-label.new.members.entries) ≡ found_at Voter (members_view c.args.members.entries) = c.take_text-label.ensures.others (key_of Voter) voter_is_not_label in
    rw same (required_text Voter (λ d. refl) (found_at Voter (members_view c.args.members.entries)) (c.requires.shape.1.fields Voter))
