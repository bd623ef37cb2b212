-- A plain site has a record: its front is that of the record, which keeps what it has and takes what it is handed.
use Rattle.std.proofs.Common.{sym, ap, ◌∙◌, subst}
use Rattle.std.specs.Ordering.{eq_by_cmp}
use Rattle.gossip_line.specs.PassingOn.{KeepsRecord}
use Rattle.lattice_core.specs.Exact.{test_of_same}
use Rattle.replica_core.specs.Front.{IsFront}
use Rattle.replica_core.specs.Journal.{has}
use Rattle.replica_core.specs.JournalLaws.{has-all_arrived, has-append_right, kept-all_arrived, one_passes}
use Rattle.review_ops.specs.Timestamp.{timestamp_cmp, timestamps_exact}
use Rattle.site_port.specs.OwnSite.{OwnSinks, OwnState}

pub own_keeps : KeepsRecord OwnSinks (λ own. own.journal)
own_keeps = record {
  says = λ old mid front s. subst (λ (own : OwnState). IsFront own.journal front) (sym s.1) s.0;
  grows = λ old new ops s op held. ap (λ (own : OwnState). has own.journal op) s ∙ kept-all_arrived old.journal ops op held;
  takes = λ old new ops s op among. one_passes (λ other. eq_by_cmp timestamp_cmp other.stamp op.stamp) new.journal op
      (ap (λ (own : OwnState). has own.journal op) s ∙ (has-all_arrived old.journal ops op ∙ has-append_right old.journal ops op among))
      (test_of_same timestamps_exact op.stamp);
}
