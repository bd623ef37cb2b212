use Rattle.std.proofs.Common.{◌∙◌, ap, map}
use Rattle.ready_core.specs.Verdicts.{Judged}
use Rattle.watch_core.specs.Placed.{node_of}
use Rattle.watch_core.proofs.Renewing.{lists_whole}
use Rattle.watch_core.proofs.bring.taken_whole.Goals as goal

pub returns-clause-lists : goal.returns-clause-lists
returns-clause-lists c =
    lists_whole c.new.result.ready c.into_lists-new_ranks.result.0.items c.new.result.out c.args.found
    (ap (λ (j : Judged). j.ready) c.new.ensures ∙ c.in_ok-ready.ensures ∙ ap (map node_of) c.as_slice.ensures.value) c.into_lists-new_ranks.ensures.ranks
    (ap (λ (j : Judged). j.out) c.new.ensures ∙ c.into_lists-new_ranks.ensures.out) c.requires.once c.requires.rising c.requires.out_in_order
