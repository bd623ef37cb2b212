use Rattle.std.proofs.Common.{◌≡◌, ℕ, ◌<◌, true, get_or}
use Rattle.serde_json.specs.View.{members_view}
use Rattle.op_text.specs.declared.field.Field.TheVariants.{Change}
use Rattle.op_text.specs.Shape.{fits}
use Rattle.op_text.specs.Text.{all_fields}
use Rattle.op_text.proofs.shape.first_misfit.Given as goal

-- the fields before this one are as they should be
abbrev pub invariant-loop-field : goal.invariant-loop-field
invariant-loop-field l = (k : ℕ) → k < l.field-index
    → fits l.form l.kind (members_view l.members.entries) (get_or all_fields k Change) ≡ true
