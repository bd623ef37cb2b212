use Rattle.std.proofs.Common.{sym, ◌∙◌, ap, length}
use Rattle.serde_json.specs.View.{view}
use Rattle.op_text.proofs.Fronts.{three_values}
use Rattle.op_text.proofs.front.entry_of.Goals as goal

-- an entry has three values
pub returns-then-values-ne3-clause-none : goal.returns-then-values-ne3-clause-none
returns-then-values-ne3-clause-none c = λ entry is.
    c.if-values-ne3.true (ap length c.as_slice-values.ensures.value ∙ three_values (view c.args.value.now) c.in_ok-as_array.field-0.now.items entry (sym c.in_ok-as_array.ensures) is)
