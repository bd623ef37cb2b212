use Rattle.std.proofs.Common.{◌≡◌, ◌∙◌, ◌≤◌, ◌++◌, List, length, ap, sym, subst, arith}
use Rattle.std.specs.List.{All}
use Rattle.std.proofs.lemmas.List.{append-nil}
use Rattle.std.proofs.lemmas.List.Elements.{All-head, All-tail, All-same}
use Rattle.review_ops.specs.Operation.{Operation}
use Rattle.replica_core.specs.Front.{reach_of}
use Rattle.replica_core.specs.Lines.{ops_of, IsLine}
use Rattle.replica_core.specs.Missing.{IsMissing}
use Rattle.replica_core.specs.Searches.{ops_past}
use Rattle.replica_core.proofs.Lacking.{lacked, IsMissing-lines, stopped, gone_on, nothing_left}
use Rattle.replica_core.proofs.replica.Replica.missing.Goals as goal

pub loop-line-init : goal.loop-line-init
loop-line-init g c =
    let journal = c.self.inside.arrivals.items in
    let lines = c.self.inside.lines in
    let are = c.into_iter-line-iterator.ensures.into_iter_gives ∙ c.iter-line-items.ensures in
    record {
      whole = ap (λ l. l ++ lacked journal c.args.front.now c.into_iter-line-iterator.result) c.new-ops.ensures.items
          ∙ ap (lacked journal c.args.front.now) are;
      each = All-same (IsLine journal) c.into_iter-line-iterator.result lines are c.self.invariant.is_kept.lines.each;
      room = omega (arith, ap length c.new-ops.ensures.items);
    }

pub copy_past-requires-clause-filed : goal.copy_past-requires-clause-filed
copy_past-requires-clause-filed g c =
    let journal = c.self.inside.arrivals.items in
    let line = c.in-Some.line.now in
    (All-head (IsLine journal) line c.next.new.self (subst (All (IsLine journal)) c.in-Some.ensures.steps c.loop-line.invariant.each)).filed

pub returns-then-branch : goal.returns-then-branch
returns-then-branch g c =
    let journal = c.self.inside.arrivals.items in
    let front = c.args.front.now in
    let lines = c.self.inside.lines in
    let line = c.in-Some.line.now in
    let rest = c.next.new.self in
    let ops = c.loop-line.ops.items in
    let added = ops_past c.reach-reach.result (ops_of journal line) in
    let reach = c.reach-reach.ensures ∙ ap (λ row. reach_of front row.site row.start) c.row.ensures in
    let is = ap (λ n. ops_past n (ops_of journal line)) reach in
    let parts = stopped ops added (lacked journal front rest)
    (lacked journal front lines) c.copy_past.new.copies.items c.args.limit c.in_ok-copy_past.field-0
    (ap (λ l. ops ++ (l ++ lacked journal front rest)) is ∙ ap (λ l. ops ++ lacked journal front l) (sym c.in-Some.ensures.steps) ∙ c.loop-line.invariant.whole)
    c.in_ok-copy_past.ensures.0 c.in_ok-copy_past.ensures.1 c.if-branch.true in (
      lacked journal front lines,
      subst (λ j. IsMissing j front (lacked journal front lines)) c.self.view_is
          (IsMissing-lines journal front lines c.self.invariant.is_kept.lines),
      parts.0,
      parts.1,
    )

pub loop-line-preserved : goal.loop-line-preserved
loop-line-preserved g c =
    let journal = c.self.inside.arrivals.items in
    let front = c.args.front.now in
    let lines = c.self.inside.lines in
    let line = c.in-Some.line.now in
    let rest = c.next.new.self in
    let ops = c.loop-line.ops.items in
    let added = ops_past c.reach-reach.result (ops_of journal line) in
    let reach = c.reach-reach.ensures ∙ ap (λ row. reach_of front row.site row.start) c.row.ensures in
    let is = ap (λ n. ops_past n (ops_of journal line)) reach in
    let parts = gone_on ops added (lacked journal front rest)
    (lacked journal front lines) c.copy_past.new.copies.items c.args.limit c.in_ok-copy_past.field-0
    (ap (λ l. ops ++ (l ++ lacked journal front rest)) is ∙ ap (λ l. ops ++ lacked journal front l) (sym c.in-Some.ensures.steps) ∙ c.loop-line.invariant.whole)
    c.in_ok-copy_past.ensures.0 c.in_ok-copy_past.ensures.1 c.if-branch.false in
    record {
      whole = parts.0;
      each = All-tail (IsLine journal) line rest
          (subst (All (IsLine journal)) c.in-Some.ensures.steps c.loop-line.invariant.each);
      room = parts.1;
    }

pub returns : goal.returns
returns g c =
    let journal = c.self.inside.arrivals.items in
    let front = c.args.front.now in
    let lines = c.self.inside.lines in
    let ops = c.loop-line.ops.items in
    let all : ops ≡ lacked journal front lines = sym (append-nil ops) ∙ ap (λ l. ops ++ lacked journal front l) (sym c.in-None.ensures.steps.0) ∙ c.loop-line.invariant.whole in
    let parts = nothing_left (lacked journal front lines) c.args.limit (subst (λ (l : List Operation). length l ≤ c.args.limit) all c.loop-line.invariant.room) in (
      lacked journal front lines,
      subst (λ j. IsMissing j front (lacked journal front lines)) c.self.view_is
          (IsMissing-lines journal front lines c.self.invariant.is_kept.lines),
      all ∙ parts.0,
      parts.1,
    )
