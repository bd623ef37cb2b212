-- Each operation that is held comes behind those before it.
use Rattle.std.proofs.Common.{◌≡◌, ◌∷◌, ◌++◌, [], List, ℕ, length, take, sym, ap, ◌∙◌, arith, append_assoc}
use Rattle.std.proofs.Common.{length-append}
use Rattle.std.proofs.Math.Seq.{take-append_seam}
use Rattle.review_ops.specs.Operation.{Operation}
use Rattle.site_shared.specs.Accounts.{holding}
use Rattle.site_shared.proofs.desk.Desk.hold_all.Goals as goal

pub returns-in-Err-clause-err : goal.returns-in-Err-clause-err
returns-in-Err-clause-err c =
    let account = c.args.self.now in
    let before = c.loop-op.yielded in
    let rest = c.next.new.self.rest.items in
    let ops = c.args.ops.items in
    let held : c.loop-op.held ≡ length before = c.loop-op.invariant.2 in
    let whole : ops ≡ before ++ c.in-Some.op ∷ rest = c.loop-op.invariant.1 ∙ ap (λ (r : List Operation). before ++ r) c.in-Some.ensures.steps.0 in
    let first : before ≡ take c.loop-op.held ops = sym (ap (λ (n : ℕ). take n ops) held ∙ (ap (take (length before)) whole ∙ take-append_seam before (c.in-Some.op ∷ rest))) in
    record {
      some = omega (arith, held, ap length whole, length-append before (c.in-Some.op ∷ rest));
      held = c.in-Err.ensures.err ∙ (c.loop-op.invariant.0 ∙ ap (holding account) first);
    }

pub loop-op-preserved : goal.loop-op-preserved
loop-op-preserved c =
    let account = c.args.self.now in
    let before = c.loop-op.yielded in
    let op = c.in-Some.op in (
      c.in-Ok.ensures.ok ∙ (ap (λ a. holding a (op ∷ [])) c.loop-op.invariant.0 ∙ ap (λ (h : List Operation). record account { held = h }) (append_assoc account.held before (op ∷ []))),
      c.loop-op.invariant.1 ∙ (ap (λ (r : List Operation). before ++ r) c.in-Some.ensures.steps.0 ∙ sym (append_assoc before (op ∷ []) c.next.new.self.rest.items)),
      omega (arith, c.loop-op.invariant.2, length-append before (op ∷ [])),
    )
