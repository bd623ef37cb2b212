use Rattle.std.proofs.Common.{◌∙◌, ◌+◌, ◌==◌, ap, sym, arith}
use Rattle.replica_core.specs.Lines.{ops_of}
use Rattle.chunk_list.specs.Chunks.{is_some_passing}
use Rattle.replica_core.proofs.Sought.{sought_next}
use Rattle.replica_core.proofs.Filed.{all_of}
use Rattle.replica_core.proofs.Greatest.{held_last, holds_of}
use Rattle.replica_core.proofs.line.Line.follows.Goals as goal

pub returns-then-last-seq : goal.returns-then-last-seq
returns-then-last-seq g c = held_last c.args.arrivals.now.items c.args.self.now c.requires.filed c.last_seq-last.result
    (c.args.seq + 1) (omega arith) c.last_seq-last.ensures c.if-last-seq.true

pub returns-in-Some : goal.returns-in-Some
returns-in-Some g c =
    let journal = c.args.arrivals.now.items in
    let line = c.args.self.now in
    ap (λ n. n == c.args.seq + 1) (c.seq.ensures.value ∙ ap (λ s. s.seq) c.stamp.ensures.value)
    ∙ ap (is_some_passing (λ o. o.stamp.seq == c.args.seq + 1)) c.in-Some.ensures
    ∙ sym (sought_next line.site line.start c.args.seq (ops_of journal line) c.requires.filed.ordered.sorted (all_of journal line c.requires.filed))
    ∙ holds_of journal line c.requires.filed (c.args.seq + 1)

pub returns-in-None : goal.returns-in-None
returns-in-None g c =
    let journal = c.args.arrivals.now.items in
    let line = c.args.self.now in
    ap (is_some_passing (λ o. o.stamp.seq == c.args.seq + 1)) c.in-None.ensures
    ∙ sym (sought_next line.site line.start c.args.seq (ops_of journal line) c.requires.filed.ordered.sorted (all_of journal line c.requires.filed))
    ∙ holds_of journal line c.requires.filed (c.args.seq + 1)
