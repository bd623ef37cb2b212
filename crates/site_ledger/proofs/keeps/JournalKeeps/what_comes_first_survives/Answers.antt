use Rattle.site_ledger.proofs.Crashes.{front_survives}
use Rattle.site_ledger.proofs.keeps.JournalKeeps.what_comes_first_survives.Goals as goal

pub returns : goal.returns
returns g c = λ ops more survives. front_survives c.args.self.now.image ops more survives
