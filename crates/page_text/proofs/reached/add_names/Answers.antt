use Rattle.std.proofs.Common.{subst, sym}
use Rattle.page_text.specs.Reached.{AreNames}
use Rattle.page_text.proofs.ReachedSteps.{names_added}
use Rattle.page_text.proofs.reached.add_names.Goals as goal

pub returns : goal.returns
returns c =
    names_added c.args.gate.now c.args.state.now c.args.item c.args.number c.in-Some.from c.as_slice.result.now _ _
    c.in-Some.ensures
    (subst (AreNames c.args.gate.now c.args.state.now c.in-Some.from) (sym c.as_slice.ensures.value)
    c.in_ok-needs.ensures)
    c.in_ok-add_new.ensures
