use Rattle.std.specs.Arc.{arc_value}
use Rattle.site_serve.proofs.Ends.{kept_served}
use Rattle.site_serve.proofs.run.end_site.Goals as goal

pub returns-clause-keeps : goal.returns-clause-keeps
returns-clause-keeps g c =
    kept_served g.K.Keeps.survives g.J.Opening.had g.J.Opening.journal c.args.remains.keeper
    (arc_value c.args.remains.shown) c.served_of.result c.requires.shown c.served_of.ensures.shown
