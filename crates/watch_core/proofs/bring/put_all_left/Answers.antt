use Rattle.std.proofs.Common.{◌∙◌, ◌+◌, ◌<◌, [], arith, length, sym, take}
use Rattle.watch_core.specs.Namers.{is_again}
use Rattle.watch_core.specs.Placed.{IsFoundAgain, left_item, node_of}
use Rattle.watch_core.proofs.Exchange.{HasNew-same, found_more, none_more, passed}
use Rattle.watch_core.proofs.bring.put_all_left.Goals as goal

pub loop-left-preserved-then-not-has : goal.loop-left-preserved-then-not-has
loop-left-preserved-then-not-has c =
    let found = c.args.found.now in
    let k = c.loop-left.left-index in
    let again = is_again c.args.touched.now c.args.reach.now.all c.args.reach.now.items in
    let less : k < length found = omega arith in
    let same = passed left_item again found k _ less (sym c.has.ensures ∙ c.if-not-has.true) in
    record {
      lists = c.loop-left.invariant.lists;
      out = HasNew-same left_item (IsFoundAgain left_item again (take k found)) (IsFoundAgain left_item again (take (k + 1) found)) found c.args.out.now.items c.loop-left.out.items same c.loop-left.invariant.out;
      ranks = HasNew-same node_of (IsFoundAgain left_item again (take k found)) (IsFoundAgain left_item again (take (k + 1) found)) [] c.args.ranks.now.items c.loop-left.ranks.items same c.loop-left.invariant.ranks;
    }

pub loop-left-preserved : goal.loop-left-preserved
loop-left-preserved c =
    let found = c.args.found.now in
    let k = c.loop-left.left-index in
    let again = is_again c.args.touched.now c.args.reach.now.all c.args.reach.now.items in
    let less : k < length found = omega arith in
    record {
      lists = c.in_ok-put_left.ensures.lists;
      out = found_more left_item again found k _ less c.args.out.now.items c.loop-left.out.items c.put_left.new.out.items c.requires.one_each (sym c.has.ensures ∙ c.if-not-has.false) c.loop-left.invariant.out c.in_ok-put_left.ensures.out;
      ranks = none_more left_item again found k _ less node_of c.args.ranks.now.items c.loop-left.ranks.items c.put_left.new.ranks.items (sym c.has.ensures ∙ c.if-not-has.false) c.loop-left.invariant.ranks c.in_ok-put_left.ensures.ranks;
    }
