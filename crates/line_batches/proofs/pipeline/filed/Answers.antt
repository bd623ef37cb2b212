use Rattle.std.proofs.Common.{◌++◌, ◌∷◌, [], ap, append_assoc, sym, ◌∙◌}
use Rattle.replica_core.specs.Journal.{arrived}
use Rattle.replica_core.specs.JournalLaws.{all_arrived-push}
use Rattle.line_batches.proofs.pipeline.filed.Goals as goal

pub loop-op-preserved : goal.loop-op-preserved
loop-op-preserved c =
    let before = c.loop-op.yielded in
    let op = c.in-Some.op in (
      c.in_ok-file.ensures.ok ∙ ap (λ j. arrived j op) c.loop-op.invariant.0
          ∙ sym (all_arrived-push c.args.gathering before op),
      c.loop-op.invariant.1 ∙ ap (λ rest. before ++ rest) c.in-Some.ensures.steps.0
          ∙ sym (append_assoc before (op ∷ []) c.next.new.self.rest.items),
    )
