use Rattle.std.proofs.Common.{◌∙◌, Contains, subst, sym}
use Rattle.std.proofs.lemmas.Bool.{false≢true}
use Rattle.page_text.proofs.ReachedSteps.{one_added}
use Rattle.page_text.proofs.reached.add_one.Goals as goal

pub returns : goal.returns
returns c =
    rw c.in_ok-push.ensures.items
    (one_added c.args.numbers.now.items c.args.number
    (λ there. false≢true (sym c.if-is_among.false
    ∙ c.is_among.ensures.1 (subst (λ l. Contains l c.args.number) (sym c.as_slice.ensures.value) there))))
