use Rattle.std.proofs.Common.{refl}
use Rattle.serde_json.specs.View.{members_view}
use Rattle.op_text.specs.declared.field.Field.TheVariants.{Change}
use Rattle.op_text.specs.Shape.{found_at}
use Rattle.op_text.proofs.Fits.{required32}
use Rattle.op_text.proofs.read.draft_of.Goals as goal

pub number32-requires : goal.number32-requires
number32-requires c = required32 Change (λ d. refl) (found_at Change (members_view c.args.members.entries))
    (c.requires.shape.1.fields Change)

pub number32-requires-in-Restore : goal.number32-requires-in-Restore
number32-requires-in-Restore c = required32 Change (λ d. refl) (found_at Change (members_view c.args.members.entries))
    (c.requires.shape.1.fields Change)

pub number32-requires-in-Merged : goal.number32-requires-in-Merged
number32-requires-in-Merged c = required32 Change (λ d. refl) (found_at Change (members_view c.args.members.entries))
    (c.requires.shape.1.fields Change)
