use Rattle.std.proofs.Common.{◌≡◌, ◌++◌, ◌∷◌, [], ap, append_assoc, sym, subst, ◌∙◌}
use Rattle.std.specs.Prelude.{if◌then◌else◌}
use Rattle.byte_ends.specs.Lines.{as_line}
use Rattle.line_batches.specs.Batches.{IsBatch}
use Rattle.line_reader.specs.Lines.{line_first}
use Rattle.line_batches.proofs.Lines.{batch-append, one_line}
use Rattle.line_batches.proofs.reading.read_in_turn.Goals as goal

pub loop-at-preserved : goal.loop-at-preserved
loop-at-preserved c =
    let before = c.loop-at.invariant in
    let piece = c.split_at.result.0.now in
    let rest = c.split_at-in-Some.result.1.now in
    let is : c.loop-at.rest.now ≡ as_line piece ++ rest =
    line_first c.loop-at.rest.now piece rest c.in-Some.at c.split_at.ensures.front c.split_at-in-Some.ensures.back c.in-Some.ensures in
    let op = c.in_ok-op.op in (
      before.0 ++ as_line piece,
      before.1 ∙ ap (λ l. before.0 ++ l) is ∙ sym (append_assoc before.0 (as_line piece) rest),
      subst (IsBatch (before.0 ++ as_line piece)) (sym c.push.ensures.items)
          (subst (λ done. IsBatch (before.0 ++ as_line piece) (if done then c.loop-at.ops.items ++ op ∷ [] else c.loop-at.ops.items)) c.in_ok-ok.ensures.variant (batch-append before.0 (as_line piece) c.loop-at.ops.items (op ∷ []) before.2
          (one_line piece op c.in_ok-op.ensures))),
    )
