use Rattle.std.proofs.Common.{◌∙◌, ◌∷◌, ◌++◌, [], sym, ap, append_assoc}
use Rattle.std.proofs.lemmas.Result.{err_from_is_err_and}
use Rattle.replica_core.specs.Journal.{arrived, all_arrived}
use Rattle.replica_core.specs.JournalLaws.{all_arrived-push}
use Rattle.record_pull.proofs.Coming.{first_of, sound-append}
use Rattle.record_pull.proofs.record.gather.Goals as goal

pub loop-op-preserved : goal.loop-op-preserved
loop-op-preserved c =
    let before = c.loop-op.yielded in
    let op = c.in-Some.op in (
      c.in_ok-take.ensures.ok.0 ∙ ap (λ journal. arrived journal op) c.loop-op.invariant.0
          ∙ sym (all_arrived-push c.args.replica.now before op),
      sound-append before (op ∷ []) c.loop-op.invariant.1
          (record { numbered = c.stamp.ensures.numbered; good = c.body.ensures.good }, tt),
      c.loop-op.invariant.2 ∙ ap (λ rest. before ++ rest) c.in-Some.ensures.steps.0
          ∙ sym (append_assoc before (op ∷ []) c.next.new.self.rest.items),
    )

pub returns-in_err-take-clause-err : goal.returns-in_err-take-clause-err
returns-in_err-take-clause-err c =
    let before = c.loop-op.yielded in
    let refused = err_from_is_err_and c.from_residual.result c.from_residual.ensures.1 in
    let first = first_of c.args.ops.items before c.in-Some.op c.next.new.self.rest.items (c.loop-op.invariant.2 ∙ ap (λ rest. before ++ rest) c.in-Some.ensures.steps.0) in
    rw refused.1 (first.0, first.1, c.in_err-take.ensures.err ∙ c.loop-op.invariant.0 ∙ ap (all_arrived c.args.replica.now) first.2)
