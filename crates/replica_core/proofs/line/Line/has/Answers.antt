use Rattle.std.proofs.Common.{◌∙◌, ap, sym}
use Rattle.replica_core.specs.Journal.{same_operation}
use Rattle.replica_core.specs.Lines.{ops_of}
use Rattle.chunk_list.specs.Chunks.{is_some_passing}
use Rattle.replica_core.proofs.Sought.{sought_op}
use Rattle.replica_core.proofs.line.Line.has.Goals as goal

pub returns-in-Some : goal.returns-in-Some
returns-in-Some g c =
    let ops = ops_of c.args.arrivals.now.items c.args.self.now in
    c.eq.ensures ∙ ap (is_some_passing (λ o. same_operation o c.args.op.now)) c.in-Some.ensures
    ∙ sym (sought_op c.args.op.now ops c.requires.ordered.sorted)

pub returns-in-None : goal.returns-in-None
returns-in-None g c =
    let ops = ops_of c.args.arrivals.now.items c.args.self.now in
    ap (is_some_passing (λ o. same_operation o c.args.op.now)) c.in-None.ensures
    ∙ sym (sought_op c.args.op.now ops c.requires.ordered.sorted)
