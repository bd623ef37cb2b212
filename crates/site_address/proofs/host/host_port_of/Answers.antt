use Rattle.std.proofs.Common.{Some, inl}
use Rattle.site_address.proofs.Cutting.{neither}
use Rattle.site_address.proofs.Writing.{written_place}
use Rattle.site_address.proofs.host.host_port_of.Goals as goal

pub returns-in-Some-clause-written : goal.returns-in-Some-clause-written
returns-in-Some-clause-written c = written_place c.args.word.now (Some c.in-Some.at) (inl c.in-Some.ensures)

pub returns-in-None-clause-named : goal.returns-in-None-clause-named
returns-in-None-clause-named c = neither c.args.word.now c.in_brackets.result c.in-None.ensures c.in_brackets.ensures

pub returns-in-None-clause-written : goal.returns-in-None-clause-written
returns-in-None-clause-written c = written_place c.args.word.now c.in_brackets.result
    (neither c.args.word.now c.in_brackets.result c.in-None.ensures c.in_brackets.ensures)
