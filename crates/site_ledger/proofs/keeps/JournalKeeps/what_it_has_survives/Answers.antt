use Rattle.site_ledger.proofs.Crashes.{held_survives}
use Rattle.site_ledger.proofs.keeps.JournalKeeps.what_it_has_survives.Goals as goal

pub returns : goal.returns
returns g c = λ ops holding. held_survives c.args.self.now ops holding
