use Rattle.std.proofs.Common.{◌≡◌, ◌∷◌, [], List, Contains, ap, refl, subst, sym, ◌∙◌, map}
use Rattle.std.specs.List.{insert}
use Rattle.walk_core.specs.Ranks.{rank_cmp}
use Rattle.state_core.specs.declared.item.Item.{Item}
use Rattle.state_core.specs.Items.{item_cmp}
use Rattle.ready_core.specs.declared.ranked.ItemRank.{ItemRank}
use Rattle.ready_core.specs.ItemRanks.{to_rank}
use Rattle.watch_core.specs.Placed.{IsPlaceFor, node_of}
use Rattle.watch_core.proofs.Placing.{map-insert, sorted_put}
use Rattle.watch_core.proofs.Exchange.{exchanged_insert, one_each_alone, one_each_on}
use Rattle.watch_core.proofs.puts.insert_rank.Goals as goal

pub place_for_rank-place-requires-clause-none : goal.place_for_rank-place-requires-clause-none
place_for_rank-place-requires-clause-none c =
    λ other has. c.requires.none other (subst (λ l. Contains l other) c.as_slice.ensures.value has)

pub returns-clause-ready : goal.returns-clause-ready
returns-clause-ready c =
    let ranks = c.args.ranks.now.items in
    let rank = c.args.rank in
    let place = c.place_for_rank-place.result in
    let is = subst (λ (l : List ItemRank). IsPlaceFor to_rank (rank_cmp item_cmp) l (to_rank rank) place) c.as_slice.ensures.value c.place_for_rank-place.ensures in
    let put = exchanged_insert node_of ranks place rank rank.node refl c.requires.none in
    record {
      nodes = c.in_ok-insert-2.ensures.items ∙ ap (λ (l : List Item). insert l place rank.node) c.requires.ready.nodes
          ∙ sym (map-insert node_of ranks place rank) ∙ ap (map node_of) (sym c.in_ok-insert.ensures.items);
      rising = rw c.in_ok-insert.ensures.items
          (sorted_put to_rank (rank_cmp item_cmp) ranks rank place c.requires.ready.rising is);
      one_each = rw c.in_ok-insert.ensures.items (one_each_on node_of (λ other. other ≡ rank.node) (rank ∷ []) ranks (insert ranks place rank) put (one_each_alone node_of rank) c.requires.ready.one_each);
    }

pub returns-clause-ranks : goal.returns-clause-ranks
returns-clause-ranks c = rw c.in_ok-insert.ensures.items (exchanged_insert node_of c.args.ranks.now.items c.place_for_rank-place.result c.args.rank c.args.rank.node refl c.requires.none)
