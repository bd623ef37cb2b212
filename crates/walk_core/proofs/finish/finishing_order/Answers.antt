use Rattle.std.proofs.Common.{◌<◌, length, arith, ◌∙◌, ◌^◌}
use Rattle.std.proofs.lemmas.List.{length-set}
use Rattle.std.proofs.lemmas.List.Elements.{All-append, All-push}
use Rattle.walk_core.specs.declared.finish.Task.TheVariants.{Leave}
use Rattle.walk_core.proofs.Tasks.{node_of, taken_task, entered_within, range_is_all, range_within, all_and_one}
use Rattle.walk_core.proofs.Tasks.{fewer_left}
use Rattle.walk_core.proofs.finish.finishing_order.Goals as goal

pub loop-task-init : goal.loop-task-init
loop-task-init g c =
    let size = length c.args.graph.now in
    let nodes = rw c.len.ensures at c.in_ok-order.ensures in
    record {
      all = rw nodes (range_is_all size);
      within = rw (c.in_ok-enter_all.ensures, c.new-tasks.ensures.items, c.as_slice.ensures.value, nodes)
          (entered_within size _ (range_within size));
      size = omega (arith, c.in_ok-entered.ensures.len, c.len-2.ensures, c.in_ok-entered.entered.ok);
    }

pub loop-task-preserved-in-Continue-branch-4 : goal.loop-task-preserved-in-Continue-branch-4
loop-task-preserved-in-Continue-branch-4 g c =
    let size = length c.args.graph.now in
    let taken = taken_task size c.loop-task.tasks.items c.pop.new.self.items c.in-Some.task c.in-Some.ensures.items c.loop-task.invariant.within in
    record {
      all = rw c.in_ok-push-in-Leave.ensures.items (all_and_one size c.loop-task.order.items c.in-Leave.node (rw c.in-Leave.is at taken.0) c.loop-task.invariant.all);
      within = taken.1;
      size = c.loop-task.invariant.size;
    }

pub loop-task-smaller-in-Continue-branch-6 : goal.loop-task-smaller-in-Continue-branch-6
loop-task-smaller-in-Continue-branch-6 g c =
    let entered = c.loop-task.entered.items in
    let node = c.in-Enter.node in
    let taken = taken_task (length c.args.graph.now) c.loop-task.tasks.items c.pop.new.self.items c.in-Some.task c.in-Some.ensures.items c.loop-task.invariant.within in
    let inside = rw c.in-Enter.is at taken.0 in
    let within : node < length entered = omega (arith, inside, c.loop-task.invariant.size) in
    let fewer = fewer_left entered node _ within c.index.ensures c.if-not-index.true in
    let short : length c.enter_all-then-not-index.new.tasks.items < 2 ^ 64 = omega (arith, c.enter_all-then-not-index.new.tasks.ok, c.enter_all-then-not-index.new.tasks.small) in
    omega (arith, fewer, short)

pub loop-task-preserved-in-Continue-branch-6 : goal.loop-task-preserved-in-Continue-branch-6
loop-task-preserved-in-Continue-branch-6 g c =
    let size = length c.args.graph.now in
    let taken = taken_task size c.loop-task.tasks.items c.pop.new.self.items c.in-Some.task c.in-Some.ensures.items c.loop-task.invariant.within in
    let pushed = All-push (λ t. node_of t < size) c.pop.new.self.items (Leave c.in-Enter.node) taken.1 (rw c.in-Enter.is at taken.0) in
    record {
      all = c.loop-task.invariant.all;
      within = rw (c.in_ok-enter_all-in-Enter.ensures, c.in_ok-push-in-Enter.ensures.items)
          (All-append (λ t. node_of t < size) _ _ pushed (entered_within size _ c.ends.ensures.within));
      size = length-set _ _ _ ∙ c.loop-task.invariant.size;
    }
