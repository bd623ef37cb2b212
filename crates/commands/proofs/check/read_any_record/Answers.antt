use Rattle.commands.proofs.Checking.{record_had}
use Rattle.commands.proofs.check.read_any_record.Goals as goal

pub returns-clause-had : goal.returns-clause-had
returns-clause-had g c =
    rw c.in-Some.is
    (record_had c.in-Some.name.now c.in_ok-record.record c.new.result (g.C.Console.state c.args.console.now) (g.C.Console.state c.read_record.new.console) c.new.ensures c.in_ok-record.ensures.had)
