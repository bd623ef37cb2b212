use Rattle.std.proofs.Common.{refl, rules, subst, sym}
use Rattle.std.specs.Prelude.{IsTrue}
use Rattle.std.proofs.lemmas.Result.{IfErr-weaker}
use Rattle.snapshot_text.specs.Progress.{HasCut}
use Rattle.snapshot_text.proofs.Batches.{cut_batch}
use Rattle.snapshot_text.proofs.blocks.Cutter.take_whole.Goals as goal

pub returns-in-Ok-true-clause-ok : goal.returns-in-Ok-true-clause-ok
returns-in-Ok-true-clause-ok g c =
    let at : IsTrue c.is_at_operations.result = search rules in
    let read = c.in-Ok-true.ensures.read c.in-Ok-true.field-0-test in
    λ base came has. cut_batch base came c.args.lines.now c.args.self.now _ read.0 has read.1
    (c.is_at_operations.ensures at).0 (c.is_at_operations.ensures at).1 refl read.2

pub returns-in-Ok-false-clause-err : goal.returns-in-Ok-false-clause-err
returns-in-Ok-false-clause-err g c =
    let same = c.in-Ok-false.ensures.left c.in-Ok-false.field-0-test in
    IfErr-weaker c.take_lines-in-Ok-false.result _ _ (λ fault fails base came has.
    fails base came (subst (λ p. HasCut base came (record c.args.self.now { progress = p })) (sym same) has))
    c.take_lines-in-Ok-false.ensures.err
