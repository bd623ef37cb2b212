use Rattle.gossip_line.specs.PassingOn.{all_passed_on}
use Rattle.gossip_line.proofs.PassingOn.{own_keeps}
use Rattle.gossip_line.proofs.laws.pulls_pass_on_all.Goals as goal
use Rattle.site_port.specs.OwnSite.{OwnSinks}

pub returns : goal.returns
returns c = λ limit most before after pulled pull done earlier last rounds peer later gives numbered no_twins.
    all_passed_on OwnSinks (λ own. own.journal) own_keeps limit most before after pulled pull done last
    (record { earlier = earlier; whole = rounds }) peer.journal
    (record { lacked = gives.0.0; missing = gives.0.1; ops = gives.0.2; more = gives.0.3 }) numbered no_twins
