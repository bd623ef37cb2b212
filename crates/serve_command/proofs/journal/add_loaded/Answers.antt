use Rattle.std.proofs.Common.{◌∙◌, ap, sym}
use Rattle.std.specs.Prelude.{◌||◌}
use Rattle.replica_core.specs.Journal.{has}
use Rattle.replica_core.specs.JournalLaws.{has-all_arrived, has-append}
use Rattle.serve_command.proofs.journal.add_loaded.Goals as goal

pub returns-in-Ok-absorb-clause-both : goal.returns-in-Ok-absorb-clause-both
returns-in-Ok-absorb-clause-both g c = λ op.
    let absorbed = c.in-Ok-absorb.ensures in
    ap (λ l. has l op) absorbed.2 ∙ has-all_arrived c.args.replica absorbed.0 op ∙ has-append c.args.replica absorbed.0 op
    ∙ ap (λ t. has c.args.replica op || t) (absorbed.1.members op) ∙ sym (has-append c.args.replica c.args.loaded op)
