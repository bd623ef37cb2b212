use Rattle.std.proofs.Common.{refl, sym}
use Rattle.why_text.proofs.Asking.{asked_current, asked_set}
use Rattle.why_text.proofs.asked.item_asked.Goals as goal

pub returns-in_default-clause-asked : goal.returns-in_default-clause-asked
returns-in_default-clause-asked c =
    asked_current c.args.state.now c.args.change c.in_ok-set.set c.args.set c.in_ok-about.about.now c.in_default.is
    (sym c.in_ok-about.ensures) c.in_ok-set.ensures

pub returns-clause-asked : goal.returns-clause-asked
returns-clause-asked c =
    asked_set c.args.state.now c.args.change c.in-Some.set c.args.set c.in_ok-about.about.now c.in-Some.is
    (sym c.in_ok-about.ensures) (c.if-not-has_set.ensures.0 refl)

pub returns-in_default-clause-there : goal.returns-in_default-clause-there
returns-in_default-clause-there c = (c.in_ok-about.about.now, sym c.in_ok-about.ensures, c.in_ok-set.ensures.known)

pub returns-clause-there : goal.returns-clause-there
returns-clause-there c = (c.in_ok-about.about.now, sym c.in_ok-about.ensures, c.if-not-has_set.ensures.0 refl)
