use Rattle.std.proofs.Common.{◌≡◌, ◌<◌, true, get_or, subst, sym, ◌∙◌, below_more, arith}
use Rattle.serde_json.specs.View.{members_view}
use Rattle.op_text.specs.declared.field.Field.TheVariants.{Change}
use Rattle.op_text.specs.Shape.{fits}
use Rattle.op_text.specs.Text.{all_fields}
use Rattle.op_text.proofs.Fields.{place_of, field_at, place_at, place_below}
use Rattle.op_text.proofs.shape.first_misfit.Goals as goal

-- a field with a lesser key comes before
pub returns-then-not-fits-clause-first : goal.returns-then-not-fits-clause-first
returns-then-not-fits-clause-first c = λ other less.
    let below : place_of other < place_of (get_or all_fields c.loop-field.field-index Change) = place_below other (get_or all_fields c.loop-field.field-index Change) less in
    let here = place_at c.loop-field.field-index c.loop-field-test.true in
    subst (λ f. fits c.args.form c.args.kind (members_view c.args.members.now.entries) f ≡ true) (field_at other).1
    (c.loop-field.invariant (place_of other) (omega (arith, below, here)))

pub loop-field-preserved : goal.loop-field-preserved
loop-field-preserved c = below_more _ _ c.loop-field.invariant (sym c.fits.ensures ∙ c.if-not-fits.false)

pub returns-clause-none : goal.returns-clause-none
returns-clause-none c = λ field.
    subst (λ f. fits c.args.form c.args.kind (members_view c.args.members.now.entries) f ≡ true) (field_at field).1
    (c.loop-field.invariant (place_of field) (omega (arith, (field_at field).0, c.loop-field-test.false)))
