use Rattle.std.proofs.Common.{◌≡◌, ◌++◌, ◌+◌, ◌<◌, length, flat_map, rules}
use Rattle.gate_rules.specs.Own.{side_rules}
use Rattle.gate_rules.specs.Tried.{approvals_from, tried_by}
use Rattle.gate_rules.specs.declared.condition.Clause.TheVariants.{Approval}
use Rattle.gate_rules.proofs.Trials.{approvals_step}
use Rattle.gate_rules.proofs.tried.add_approvals.Goals as goal

pub loop-place-preserved : goal.loop-place-preserved
loop-place-preserved c =
    let patterns = (side_rules c.args.gate.now c.args.side).approvals in
    let tried = tried_by c.args.gate.now c.args.standing.now c.args.side in
    let i = c.loop-place.place in
    let is : c.add_clause.new.tried.items ≡ c.loop-place.tried.items ++ tried (Approval (i + 1)) = search rules in
    let inside : i < length patterns = search rules in
    approvals_step tried patterns i inside c.loop-place.tried.items c.add_clause.new.tried.items
    (c.args.tried.now.items ++ flat_map tried (approvals_from 0 patterns)) is c.loop-place.invariant
