use Rattle.std.proofs.Common.{◌∙◌, ◌+◌, ◌<◌, [], arith, length, sym, take}
use Rattle.watch_core.specs.Namers.{is_again}
use Rattle.watch_core.specs.Placed.{IsFoundAgain, left_item, node_of}
use Rattle.watch_core.proofs.Exchange.{HasNew-same, found_more, none_more, passed}
use Rattle.watch_core.proofs.bring.put_all_ready.Goals as goal

pub loop-rank-preserved-then-not-has : goal.loop-rank-preserved-then-not-has
loop-rank-preserved-then-not-has c =
    let found = c.args.found.now in
    let k = c.loop-rank.rank-index in
    let again = is_again c.args.touched.now c.args.reach.now.all c.args.reach.now.items in
    let less : k < length found = omega arith in
    let same = passed node_of again found k _ less (sym c.has.ensures ∙ c.if-not-has.true) in
    record {
      lists = c.loop-rank.invariant.lists;
      ranks = HasNew-same node_of (IsFoundAgain node_of again (take k found)) (IsFoundAgain node_of again (take (k + 1) found)) found c.args.ranks.now.items c.loop-rank.ranks.items same c.loop-rank.invariant.ranks;
      out = HasNew-same left_item (IsFoundAgain node_of again (take k found)) (IsFoundAgain node_of again (take (k + 1) found)) [] c.args.out.now.items c.loop-rank.out.items same c.loop-rank.invariant.out;
    }

pub loop-rank-preserved : goal.loop-rank-preserved
loop-rank-preserved c =
    let found = c.args.found.now in
    let k = c.loop-rank.rank-index in
    let again = is_again c.args.touched.now c.args.reach.now.all c.args.reach.now.items in
    let less : k < length found = omega arith in
    record {
      lists = c.in_ok-put_ready.ensures.lists;
      ranks = found_more node_of again found k _ less c.args.ranks.now.items c.loop-rank.ranks.items c.put_ready.new.ranks.items c.requires.one_each (sym c.has.ensures ∙ c.if-not-has.false) c.loop-rank.invariant.ranks c.in_ok-put_ready.ensures.ranks;
      out = none_more node_of again found k _ less left_item c.args.out.now.items c.loop-rank.out.items c.put_ready.new.out.items (sym c.has.ensures ∙ c.if-not-has.false) c.loop-rank.invariant.out c.in_ok-put_ready.ensures.out;
    }
