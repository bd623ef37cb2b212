use Rattle.lattice_core.specs.MemberLaws.{Contains-to_map}
use Rattle.ready_core.specs.declared.verdicts.Left.{Left}
use Rattle.why_text.proofs.why.left_text.Goals as goal

pub details_of-requires-clause-there : goal.details_of-requires-clause-there
details_of-requires-clause-there c =
    let cause = c.in_ok-chain.chain.cause in
    ((c.requires.judged.out cause.item).0 (Contains-to_map (λ (left : Left). left.item) c.args.verdicts.now.out cause c.in_ok-chain.ensures.chain.out)).0
