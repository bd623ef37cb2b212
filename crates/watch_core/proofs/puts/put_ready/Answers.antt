use Rattle.std.proofs.Common.{◌≡◌, [], ◌∷◌, Contains, subst, sym}
use Rattle.std.proofs.lemmas.Result.{on_ok_weaker}
use Rattle.watch_core.specs.Placed.{AreLists, AreReady, HasNew, left_item, node_of}
use Rattle.watch_core.proofs.Exchange.{HasNew-again}
use Rattle.watch_core.proofs.Putting.{HasNew-absent, apart_second, both_ok, lists_ranked, none_left}
use Rattle.watch_core.proofs.puts.put_ready.Goals as goal

pub returns-then-has_rank-clause-out : goal.returns-then-has_rank-clause-out
returns-then-has_rank-clause-out c =
    HasNew-absent left_item c.args.rank.node c.args.out.now.items
    (λ left has same. c.requires.apart.none c.args.rank left (subst (λ l. Contains l c.args.rank) c.as_slice.ensures.value (c.has_rank.ensures c.if-has_rank.true)) has (sym same))

pub insert_rank-requires-clause-none : goal.insert_rank-requires-clause-none
insert_rank-requires-clause-none c =
    none_left node_of c.args.rank.node c.args.ranks.now.items c.take_item.new.ranks.items c.take_item.ensures.ranks

pub returns-clause-lists : goal.returns-clause-lists
returns-clause-lists c =
    let item = c.args.rank.node in
    let ranks = c.take_item.new.ranks.items in
    let out = c.take_item.new.out.items in
    let ready_new = c.insert_rank.new.ready.items in
    let ranks_new = c.insert_rank.new.ranks.items in
    both_ok c.insert_rank.result (AreReady ready_new ranks_new)
    (HasNew node_of (λ other. other ≡ item) (c.args.rank ∷ []) ranks ranks_new) (AreLists ready_new ranks_new out)
    (λ ranked put.
    lists_ranked c.take_item.new.ready.items ready_new ranks ranks_new out out item
    (c.args.rank ∷ []) [] c.take_item.ensures.lists ranked c.take_item.ensures.lists.out_in_order put
    (HasNew-absent left_item item out (none_left left_item item c.args.out.now.items out c.take_item.ensures.out))
    (apart_second node_of left_item (c.args.rank ∷ [])))
    c.insert_rank.ensures.ready c.insert_rank.ensures.ranks

pub returns-clause-ranks : goal.returns-clause-ranks
returns-clause-ranks c =
    on_ok_weaker c.insert_rank.result
    (λ put.
    HasNew-again node_of (λ other. other ≡ c.args.rank.node) [] (c.args.rank ∷ []) c.args.ranks.now.items c.take_item.new.ranks.items c.insert_rank.new.ranks.items c.take_item.ensures.ranks put)
    c.insert_rank.ensures.ranks
