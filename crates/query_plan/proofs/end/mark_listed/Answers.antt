use Rattle.std.proofs.Common.{◌≡◌, ◌∷◌, rules}
use Rattle.query_plan.proofs.Marking.{one_is_listed}
use Rattle.query_plan.proofs.end.mark_listed.Goals as goal

pub loop-change-preserved : goal.loop-change-preserved
loop-change-preserved c = λ q.
    let is : c.loop-change.change-iterator ≡ c.in-Some.change.now ∷ c.next.new.self = search rules in
    one_is_listed c.args.is_all c.in-Some.change.now q c.next.new.self c.loop-change.change-iterator _ _ _ is
    (c.loop-change.invariant q) (c.in_ok-mark_one_listed.ensures q)
