use Rattle.review_ops.specs.Good.{IsGood-kept_deed}
use Rattle.review_ops.specs.Draft.{deed_of}
use Rattle.review_ops.proofs.body.Body.checked.Goals as goal

-- what is kept of a draft without faults is good
pub invariant_of-result : goal.invariant_of-result
invariant_of-result g c =
    rw c.kept.ensures.deed (IsGood-kept_deed (deed_of c.args.draft) c.kept.ensures.fits c.in_default.ensures.none)

pub returns-clause-good : goal.returns-clause-good
returns-clause-good g c =
    rw c.kept.ensures.deed (IsGood-kept_deed (deed_of c.args.draft) c.kept.ensures.fits c.in_default.ensures.none)
