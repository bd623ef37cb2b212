-- The ranks of ready items, as they are kept.
use Rattle.walk_core.specs.Ranks.{Rank}
use Rattle.state_core.specs.declared.item.Item.{Item}
use Rattle.ready_core.specs.declared.ranked.ItemRank.{ItemRank}

abbrev pub to_rank : ItemRank → Rank Item
to_rank rank = record { count = rank.count; first = rank.first; node = rank.node }
