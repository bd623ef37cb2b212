use Rattle.std.proofs.Common.{◌∙◌, ap}
use Rattle.replica_core.proofs.Greatest.{seqs_last, seqs_none}
use Rattle.replica_core.proofs.line.Line.last_seq.Goals as goal

pub returns-in-Some : goal.returns-in-Some
returns-in-Some g c =
    c.seq.ensures.value ∙ ap (λ s. s.seq) c.stamp.ensures.value
    ∙ seqs_last c.args.arrivals.now.items c.args.self.now c.requires c.in-Some.op.now c.in-Some.ensures

pub returns-in-None : goal.returns-in-None
returns-in-None g c = seqs_none c.args.arrivals.now.items c.args.self.now c.requires c.in-None.ensures
