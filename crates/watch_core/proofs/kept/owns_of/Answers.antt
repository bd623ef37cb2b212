use Rattle.std.proofs.Common.{arith, get_or, sym, ◌≤◌, ◌+◌, subst, length, filter, take, drop}
use Rattle.std.proofs.lemmas.List.Filters.{length-filter_more}
use Rattle.std.proofs.lemmas.List.Elements.{Contains-get_or}
use Rattle.lattice_core.specs.ZipLaws.{AllZip-more}
use Rattle.gate_rules.specs.Own.{IsOwn}
use Rattle.state_core.specs.State.{state_of}
use Rattle.state_core.specs.declared.item.Item.{Item}
use Rattle.watch_core.specs.Asked.{counted}
use Rattle.watch_core.specs.KeptOwns.{is_of_touched}
use Rattle.watch_core.proofs.KeptLemmas.{counted_below, counted_step, filter_taken}
use Rattle.watch_core.proofs.kept.owns_of.Goals as goal

pub own_of-requires-clause-item : goal.own_of-requires-clause-item
own_of-requires-clause-item g c =
    let no_item : Item = record { change = 0; set = 0 } in
    c.requires.items.each _ (Contains-get_or c.args.items.now c.loop-item.item-index no_item (omega arith))

pub returns-in_err-push-clause-at_most : goal.returns-in_err-push-clause-at_most
returns-in_err-push-clause-at_most g c =
    let items = c.args.items.now in
    let no_item : Item = record { change = 0; set = 0 } in
    let is = is_of_touched (drop c.args.seen c.args.replica.now) in
    let start = g.J.Judge.asked c.args.judge.now in
    let more = length-filter_more is items c.loop-item.item-index no_item (omega arith) in
    let asked = counted_step start (g.J.Judge.asked c.loop-item.judge) (g.J.Judge.asked c.own_of.new.judge)
    (length (filter is (take c.loop-item.item-index items)))
    (is (get_or items c.loop-item.item-index no_item)) (length (filter is (take (c.loop-item.item-index + 1) items))) c.loop-item.invariant.asked c.own_of.ensures.asked more in
    subst (λ n. n ≤ counted start (length (filter is items))) (sym asked)
    (counted_below start (length (filter is (take (c.loop-item.item-index + 1) items))) (length (filter is items)) (filter_taken is (c.loop-item.item-index + 1) items))

pub loop-item-preserved : goal.loop-item-preserved
loop-item-preserved g c =
    let items = c.args.items.now in
    let no_item : Item = record { change = 0; set = 0 } in
    let is = is_of_touched (drop c.args.seen c.args.replica.now) in
    let more = length-filter_more is items c.loop-item.item-index no_item (omega arith) in
    record {
      owns = rw c.in_ok-push.ensures.items
          (AllZip-more (IsOwn c.args.gate.now (state_of c.args.replica.now)) items c.loop-item.owns.items c.loop-item.item-index no_item c.own_of.result (omega arith)
          c.loop-item.invariant.owns c.own_of.ensures.own);
      asked = counted_step (g.J.Judge.asked c.args.judge.now) (g.J.Judge.asked c.loop-item.judge)
          (g.J.Judge.asked c.own_of.new.judge) (length (filter is (take c.loop-item.item-index items)))
          (is (get_or items c.loop-item.item-index no_item)) (length (filter is (take (c.loop-item.item-index + 1) items))) c.loop-item.invariant.asked c.own_of.ensures.asked more;
    }
