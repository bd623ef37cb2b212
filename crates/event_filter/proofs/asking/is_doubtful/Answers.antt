use Rattle.std.proofs.Common.{◌≡◌, ◌∙◌, IfOk, IsTrue, ap, subst, sym}
use Rattle.std.specs.Prelude.{◌↔◌, string_bytes}
use Rattle.review_ops.specs.Deed.{Deed, withdraw}
use Rattle.review_ops.specs.Draft.{deed_of}
use Rattle.event_filter.specs.Asking.{IsDoubtful}
use Rattle.event_filter.specs.Recorded.{IsRecorded}
use Rattle.event_filter.proofs.asking.is_doubtful.Goals as goal

-- the body is the withdrawal
pub returns-in-Withdraw : goal.returns-in-Withdraw
returns-in-Withdraw c =
    let state = c.args.state.now in
    let body : deed_of c.draft.result.now ≡ c.args.body.now = c.draft.ensures.value in
    let is : withdraw c.in-Withdraw.change c.in-Withdraw.set (string_bytes c.in-Withdraw.label) (string_bytes c.in-Withdraw.voter) ≡ c.args.body.now =
    sym (ap deed_of c.in-Withdraw.is) ∙ body in
    subst (λ (deed : Deed). IfOk c.lacks.result (λ doubtful. IsTrue doubtful ↔ IsDoubtful state deed)) is
    (subst (λ (deed : Deed). IfOk c.lacks.result (λ doubtful. IsTrue doubtful ↔ (¬ IsRecorded state deed))) (sym is) c.lacks.ensures)
