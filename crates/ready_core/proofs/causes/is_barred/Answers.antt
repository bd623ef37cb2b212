use Rattle.std.proofs.Common.{sym, ap, false}
use Rattle.std.specs.Prelude.{slice_index_or}
use Rattle.ready_core.proofs.Causing.{barred_here}
use Rattle.ready_core.proofs.causes.is_barred.Goals as goal

pub returns : goal.returns
returns c = λ state item is here.
    barred_here c.args.gate.now state c.args.graph.now is c.args.place item here _
    (ap (λ l. slice_index_or l c.args.place false) c.on_cycles.ensures.flags) (sym c.if-cycles.ensures)
