use Rattle.std.proofs.Common.{◌++◌, List}
use Rattle.console.specs.Showing.{error_output}
use Rattle.replica_core.specs.Sets.{IsSameSet}
use Rattle.review_ops.specs.Operation.{Operation}
use Rattle.site_journal.specs.Book.{IsHolding}
use Rattle.serve_command.specs.Beginning.{lacking_of}
use Rattle.serve_command.proofs.Adding.{both_kept, opened_known, opened_says}
use Rattle.serve_command.proofs.Ending.{both_ok}
use Rattle.serve_command.proofs.Torn.{always_on_ok, torn_said, unbegun_by_site}
use Rattle.serve_command.proofs.journal.open_and_add.Goals as goal

pub returns-in-Ok-clause-kept : goal.returns-in-Ok-clause-kept
returns-in-Ok-clause-kept g c =
    let own = c.in-Ok.started.replica in
    let says = opened_says _ _ own _ c.in-Ok.ensures.ok.1 in
    let now_said = says.0 ++ lacking_of own c.args.loaded in
    both_ok c.add_loaded.result (λ begun. IsHolding begun.0 now_said)
    (λ begun. IsSameSet begun.1 (own ++ c.args.loaded))
    (λ begun. (ops : List Operation) × IsHolding begun.0 ops × IsSameSet begun.1 ops)
    (λ begun kept both. (now_said, kept, both_kept own says.0 c.args.loaded begun.1 says.2 both))
    (c.add_loaded.ensures.kept says.0 (record { sound = c.in-Ok.ensures.ok.0; holds = says.1 })) c.add_loaded.ensures.both

pub returns-in-Ok-clause-known : goal.returns-in-Ok-clause-known
returns-in-Ok-clause-known g c =
    opened_known _ _ _ _ c.add_loaded.result c.in-Ok.ensures.ok.1 c.add_loaded.ensures.known

pub returns-in-Ok-clause-torn : goal.returns-in-Ok-clause-torn
returns-in-Ok-clause-torn g c =
    always_on_ok c.add_loaded.result _
    (torn_said (λ output. error_output (g.E.Drain.taken output) (g.E.Drain.failed output)) _ _ _ _ _ _
    c.in-Ok.ensures.ok.1 (c.show_torn.ensures.whole, c.show_torn.ensures.torn))

pub returns-in-Ok-clause-unbegun : goal.returns-in-Ok-clause-unbegun
returns-in-Ok-clause-unbegun g c = unbegun_by_site c.add_loaded.result _ _ _ c.add_loaded.ensures.site
