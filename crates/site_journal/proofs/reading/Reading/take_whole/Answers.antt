use Rattle.std.proofs.Common.{◌≡◌, ◌+◌, List, ap, length, rules, subst}
use Rattle.std.specs.Prelude.{IsTrue, MatchOption}
use Rattle.line_batches.specs.Batches.{IsBatch}
use Rattle.review_ops.specs.Operation.{Operation}
use Rattle.replica_core.specs.Journal.{all_arrived}
use Rattle.site_journal.proofs.Batches.{batch_taken}
use Rattle.site_journal.proofs.reading.Reading.take_whole.Goals as goal

pub returns-in-Ok-Some-clause-ok : goal.returns-in-Ok-Some-clause-ok
returns-in-Ok-Some-clause-ok g c =
    let room : IsTrue c.has_room.result = search rules in
    let old = c.args.self.now in
    let new = c.take_lines-2.new.self in
    let read = subst (λ read. MatchOption read (new ≡ old.gathering) (λ count. (ops : List Operation)
    × IsBatch c.args.lines.now ops × (count ≡ length ops) × (new ≡ all_arrived old.gathering ops)))
    c.in-Ok-Some.field-0-is c.in-Ok-Some.ensures.ok in
    λ came has. batch_taken came c.args.lines.now old _ read.0 (old.next + c.in-Ok-Some.count) read.1
    (c.has_room.ensures room).0 (ap (λ n. old.next + n) read.2)
    (ap (λ journal. record old { gathering = journal; next = old.next + c.in-Ok-Some.count }) read.3) has
