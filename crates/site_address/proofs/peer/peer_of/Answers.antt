use Rattle.std.proofs.Common.{Some}
use Rattle.site_address.proofs.Writing.{here_named, there_named, told_result}
use Rattle.site_address.proofs.peer.peer_of.Goals as goal

pub returns-in-Some-clause-told : goal.returns-in-Some-clause-told
returns-in-Some-clause-told c =
    let found = c.in-Some.ensures in
    told_result c.args.word.now (Some c.in-Some.peer) (there_named c.args.word.now c.in-Some.peer found.0 found.1 found.2 found.3)

pub returns-in-None-clause-told : goal.returns-in-None-clause-told
returns-in-None-clause-told c =
    told_result c.args.word.now c.here.result (here_named c.args.word.now c.here.result c.in-None.ensures c.here.ensures)
