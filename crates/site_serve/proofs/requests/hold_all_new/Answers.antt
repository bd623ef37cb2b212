use Rattle.std.proofs.Common.{◌∙◌, ◌∷◌, ◌++◌, [], sym, ap, append_assoc}
use Rattle.site_shared.specs.Accounts.{record_of}
use Rattle.site_serve.proofs.Held.{one_more_part}
use Rattle.site_serve.proofs.requests.hold_all_new.Goals as goal

pub loop-op-preserved : goal.loop-op-preserved
loop-op-preserved g c =
    let before = c.loop-op.yielded in
    let op = c.in-Some.op in
    let journal = record_of c.hold_new.new.self.account in (
      tt,
      tt,
      λ x h. c.in-Ok.ensures.grows x (c.loop-op.invariant.2 x h),
      one_more_part journal before op (λ x h. c.in-Ok.ensures.grows x (c.loop-op.invariant.3 x h)) c.in-Ok.ensures.has,
      c.loop-op.invariant.4 ∙ ap (λ rest. before ++ rest) c.in-Some.ensures.steps.0
          ∙ sym (append_assoc before (op ∷ []) c.next.new.self.rest.items),
    )
