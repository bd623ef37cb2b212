use Rattle.site_journal.proofs.Fronts.{uncut, cut_to}
use Rattle.site_journal.proofs.memory.MemoryTapeTape.cut.Goals as goal

pub returns-then-comes_due-clause-cut : goal.returns-then-comes_due-clause-cut
returns-then-comes_due-clause-cut c =
    let tape = c.args.self.now in
    (uncut tape.bytes.items c.args.len tape.len tape.synced tape.is_doubted, tt)

pub returns-clause-cut : goal.returns-clause-cut
returns-clause-cut c =
    let tape = c.args.self.now in
    cut_to tape.bytes.items c.args.len tape.len tape.synced c.min-self.result tape.is_doubted c.requires c.min-self.ensures
