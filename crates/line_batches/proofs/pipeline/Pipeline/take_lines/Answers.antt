use Rattle.std.proofs.Common.{◌≡◌, length, subst, arith, rules}
use Rattle.std.specs.Prelude.{IfSome}
use Rattle.line_batches.specs.Batches.{IsBatch}
use Rattle.line_batches.proofs.Lines.{few_lines}
use Rattle.line_batches.proofs.pipeline.Pipeline.take_lines.Goals as goal

pub returns-clause-few : goal.returns-clause-few
returns-clause-few g c =
    let counted : c.len-count.result ≡ length c.in-Some.ops.items = search rules in
    omega (
      arith,
      counted,
      few_lines c.args.lines.now c.in-Some.ops.items
          (subst (λ r. IfSome r (λ read. IsBatch c.args.lines.now read.items)) c.in-Some.is c.in_ok-gathering.ensures.1),
    )
