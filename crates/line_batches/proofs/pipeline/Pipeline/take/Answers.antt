use Rattle.std.proofs.Common.{◌∙◌, ap}
use Rattle.std.proofs.lemmas.Result.{on_ok_weaker}
use Rattle.replica_core.specs.Journal.{all_arrived, arrived}
use Rattle.replica_core.specs.JournalLaws.{all_arrived-push}
use Rattle.line_batches.proofs.pipeline.Pipeline.take.Goals as goal

pub returns-clause-ok : goal.returns-clause-ok
returns-clause-ok c =
    let gathering = c.self.inside.gathering in
    on_ok_weaker c.wait.result (λ came. ap (all_arrived gathering) came
    ∙ all_arrived-push gathering c.self.inside.waiting.items c.args.op ∙ ap (λ j. arrived j c.args.op) c.self.view_is)
    c.wait.ensures.ok
