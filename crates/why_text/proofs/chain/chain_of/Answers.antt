use Rattle.why_text.proofs.chain.chain_of.Goals as goal

pub chain_from-requires-clause-leads : goal.chain_from-requires-clause-leads
chain_from-requires-clause-leads c =
    c.dependencies_lead_to_a_cause.ensures.leads c.args.gate.now c.args.state.now c.args.verdicts.now c.requires.judged
