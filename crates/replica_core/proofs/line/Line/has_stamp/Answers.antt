use Rattle.std.proofs.Common.{◌∙◌, ap, sym}
use Rattle.std.specs.Ordering.{is_eq, eq_by_cmp}
use Rattle.review_ops.specs.Timestamp.{timestamp_cmp}
use Rattle.replica_core.specs.Lines.{ops_of}
use Rattle.chunk_list.specs.Chunks.{is_some_passing}
use Rattle.replica_core.proofs.Sought.{sought_stamp}
use Rattle.replica_core.proofs.Filed.{all_of}
use Rattle.replica_core.proofs.line.Line.has_stamp.Goals as goal

pub returns-in-Some : goal.returns-in-Some
returns-in-Some g c =
    let journal = c.args.arrivals.now.items in
    let line = c.args.self.now in
    c.is_eq.ensures ∙ ap is_eq c.cmp.ensures ∙ ap (λ s. eq_by_cmp timestamp_cmp s c.args.stamp) c.stamp.ensures.value
    ∙ ap (is_some_passing (λ o. eq_by_cmp timestamp_cmp o.stamp c.args.stamp)) c.in-Some.ensures
    ∙ sym (sought_stamp line.site line.start c.args.stamp (ops_of journal line) c.requires.ordered.sorted (all_of journal line c.requires))

pub returns-in-None : goal.returns-in-None
returns-in-None g c =
    let journal = c.args.arrivals.now.items in
    let line = c.args.self.now in
    ap (is_some_passing (λ o. eq_by_cmp timestamp_cmp o.stamp c.args.stamp)) c.in-None.ensures
    ∙ sym (sought_stamp line.site line.start c.args.stamp (ops_of journal line) c.requires.ordered.sorted (all_of journal line c.requires))
