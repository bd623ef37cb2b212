use Rattle.std.specs.Arc.{arc_value}
use Rattle.site_serve.proofs.Ends.{shown_kept}
use Rattle.site_serve.proofs.opening.OwnLedger.end.Goals as goal

pub returns-clause-shown : goal.returns-clause-shown
returns-clause-shown g c =
    shown_kept g.K.Keeps.holds g.K.Keeps.survives g.J.Naming.book g.J.Opening.journal g.J.Opening.had c.self.inside.ledger
    c.end-remains.result.keeper (arc_value c.end-remains.result.shown) c.self.invariant.0 c.end-remains.ensures.keeper
    c.end-remains.ensures.shown c.what_comes_first_survives.ensures
