use Rattle.site_serve.proofs.Ends.{answered_survives}
use Rattle.site_serve.proofs.laws.answered_stamps_survive.Goals as goal

pub returns : goal.returns
returns g c = λ entries first stamp own had part answered.
    answered_survives g.K.Keeps.holds g.K.Keeps.survives g.J.Naming.book g.J.Opening.journal first g.J.Opening.had entries stamp own had part answered
