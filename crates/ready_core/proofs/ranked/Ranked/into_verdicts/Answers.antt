use Rattle.std.proofs.Common.{◌≡◌, ◌∙◌, List, ap, map}
use Rattle.walk_core.specs.Ranks.{Rank}
use Rattle.state_core.specs.declared.item.Item.{Item}
use Rattle.ready_core.specs.ItemRanks.{to_rank}
use Rattle.ready_core.specs.RankedVerdicts.{judged}
use Rattle.ready_core.specs.declared.ranked.ItemRank.{ItemRank}
use Rattle.ready_core.proofs.GateVerdicts.{items_again}
use Rattle.ready_core.proofs.ranked.Ranked.into_verdicts.Goals as goal

pub returns : goal.returns
returns c =
    let ready : c.in_ok-ready.ready.items ≡ map (λ (rank : Rank Item). rank.node) (map to_rank c.self.inside.ranks.items) =
    c.in_ok-ready.ensures ∙ ap (map (λ (rank : ItemRank). rank.node)) c.as_slice.ensures.value
    ∙ items_again c.self.inside.ranks.items in
    c.new.ensures ∙ ap (λ (l : List Item). record { ready = l; out = c.self.inside.out.items }) ready
    ∙ ap judged c.self.view_is
