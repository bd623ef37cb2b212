use Rattle.page_text.proofs.OutSteps.{waits_out}
use Rattle.page_text.proofs.chain.cause_of.Goals as goal

pub chain_of-requires-clause-there : goal.chain_of-requires-clause-there
chain_of-requires-clause-there c = waits_out c.args.verdicts.now c.args.first c.requires.there

pub returns : goal.returns
returns c = record { waiting = c.in_ok-chain.chain.waiting.items; chain = c.in_ok-chain.ensures }
