use Rattle.site_journal.proofs.Fronts.{settled}
use Rattle.site_journal.proofs.memory.MemoryTapeTape.sync.Goals as goal

pub returns-then-not-self-clause-synced : goal.returns-then-not-self-clause-synced
returns-then-not-self-clause-synced c =
    let tape = c.args.self.now in
    let done = settled tape.bytes.items c.truncate.new.self.items tape.synced tape.len tape.is_doubted tape.kept c.truncate.ensures.items in
    (done.0, done.1, tt)
