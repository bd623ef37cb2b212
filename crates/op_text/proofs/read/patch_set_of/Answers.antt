use Rattle.std.proofs.Common.{refl}
use Rattle.serde_json.specs.View.{members_view}
use Rattle.op_text.specs.declared.field.Field.TheVariants.{Change, Message, Parent, Set}
use Rattle.op_text.specs.Shape.{found_at}
use Rattle.op_text.proofs.Fits.{required32, optional_parent, required_text}
use Rattle.op_text.proofs.read.patch_set_of.Goals as goal

pub number32-change-requires : goal.number32-change-requires
number32-change-requires c = required32 Change (λ d. refl) (found_at Change (members_view c.args.members.entries))
    (c.requires.shape.1.fields Change)

pub number32-set-requires : goal.number32-set-requires
number32-set-requires c =
    required32 Set (λ d. refl) (found_at Set (members_view c.args.members.entries)) (c.requires.shape.1.fields Set)

pub optional32-parent-requires : goal.optional32-parent-requires
optional32-parent-requires c =
    optional_parent (found_at Parent (members_view c.args.members.entries)) (c.requires.shape.1.fields Parent)

pub take_text-message-requires : goal.take_text-message-requires
take_text-message-requires c = required_text Message (λ d. refl)
    (found_at Message (members_view c.args.members.entries)) (c.requires.shape.1.fields Message)
