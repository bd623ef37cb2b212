use Rattle.std.proofs.Common.{◌≡◌, ◌≤◌, ◌∙◌, ◌++◌, [], Ok, Result, ap, arith, length, refl, subst}
use Rattle.std.proofs.KnownBytes.{Consumes-nil, Consumes-trans}
use Rattle.enqueue_lines.specs.Ending.{BreaksGroup, number_after}
use Rattle.enqueue_lines.specs.Running.{counted_on, most_lines}
use Rattle.enqueue_lines.specs.declared.fault.EnqueueFault.{EnqueueFault}
use Rattle.enqueue_lines.specs.declared.run.Step.{Step}
use Rattle.enqueue_lines.proofs.Stream.{group_begins, group_breaks, group_ends, group_goes, group_is_endless}
use Rattle.enqueue_lines.proofs.Stream.{group_stops}
use Rattle.enqueue_lines.proofs.run.read_group.Goals as goal

pub loop-line-init : goal.loop-line-init
loop-line-init g c =
    let begins = group_begins c.args.reader.now.held c.args.coming.now.lines.items c.args.coming.now.count c.requires.0 c.requires.1 in
    record {
      came = [];
      consumed = Consumes-nil _;
      comes = begins.0;
      many = begins.1;
      none_unread = refl;
      limit = refl;
    }

pub loop-line-preserved : goal.loop-line-preserved
loop-line-preserved g c =
    let so = c.loop-line.invariant in
    let moves = c.in-Ok-GoesOn.ensures.moves in
    let next = group_goes c.args.reader.now.held so.came moves.0 c.loop-line.reader.held c.read_on.new.reader.held
    c.loop-line.coming.lines.items c.read_on.new.coming.lines.items c.loop-line.coming.count c.read_on.new.coming.count so.comes
    c.in-Ok-GoesOn.field-0 c.in-Ok-GoesOn.field-0-is moves.2.0 c.in-Ok-GoesOn.ensures.counts in
    record {
      came = so.came ++ moves.0;
      consumed = Consumes-trans _ _ _ _ _ so.consumed moves.1;
      comes = next.0;
      many = omega (arith, next.1, so.many);
      none_unread = moves.2.1 ∙ so.none_unread;
      limit = c.in-Ok-GoesOn.ensures.limit ∙ so.limit;
    }

pub returns-in-Ok-EndsWith-clause-comes : goal.returns-in-Ok-EndsWith-clause-comes
returns-in-Ok-EndsWith-clause-comes g c =
    let so = c.loop-line.invariant in
    let moves = c.in-Ok-EndsWith.ensures.moves in
    let whole = group_ends c.args.reader.now.held so.came moves.0 c.loop-line.reader.held c.read_on.new.reader.held
    c.loop-line.coming.lines.items c.read_on.new.coming.lines.items c.loop-line.coming.count c.read_on.new.coming.count so.comes
    c.in-Ok-EndsWith.field-0 c.in-Ok-EndsWith.ready c.in-Ok-EndsWith.field-0-is moves.2.0 c.in-Ok-EndsWith.ensures.counts in
    (so.came ++ moves.0, Consumes-trans _ _ _ _ _ so.consumed moves.1, (whole, moves.2.1 ∙ so.none_unread))

pub returns-in-Ok-EndsWith-clause-limit : goal.returns-in-Ok-EndsWith-clause-limit
returns-in-Ok-EndsWith-clause-limit g c = c.in-Ok-EndsWith.ensures.limit ∙ c.loop-line.invariant.limit

pub returns-in-Ok-Stops-clause-comes : goal.returns-in-Ok-Stops-clause-comes
returns-in-Ok-Stops-clause-comes g c =
    let so = c.loop-line.invariant in
    let moves = c.in-Ok-Stops.ensures.moves in
    let some = group_stops c.args.reader.now.held so.came moves.0 c.loop-line.reader.held c.read_on.new.reader.held
    c.loop-line.coming.lines.items c.read_on.new.coming.lines.items c.loop-line.coming.count c.read_on.new.coming.count so.comes
    c.in-Ok-Stops.field-0 c.in-Ok-Stops.field-0-is moves.2.0 c.in-Ok-Stops.ensures.counts in
    (so.came ++ moves.0, Consumes-trans _ _ _ _ _ so.consumed moves.1, (some, moves.2.1 ∙ so.none_unread))

pub returns-in-Ok-Stops-clause-end : goal.returns-in-Ok-Stops-clause-end
returns-in-Ok-Stops-clause-end g c = λ is.
    let whole : Step → Result Step EnqueueFault = λ step. Ok step in
    c.in-Ok-Stops.ensures.end (ap whole c.in-Ok-Stops.field-0-is)

pub returns-in-Ok-Stops-clause-limit : goal.returns-in-Ok-Stops-clause-limit
returns-in-Ok-Stops-clause-limit g c = c.in-Ok-Stops.ensures.limit ∙ c.loop-line.invariant.limit

pub returns-in-Err-clause-comes : goal.returns-in-Err-clause-comes
returns-in-Err-clause-comes g c =
    let so = c.loop-line.invariant in
    let moves = c.in-Err.ensures.moves in
    let number : c.saturating_add-number.result ≡ number_after (counted_on c.args.before c.loop-line.coming.count) = omega arith in
    let bytes = c.args.reader.now.held ++ (so.came ++ moves.0) in
    let breaks = group_breaks c.args.reader.now.held so.came moves.0 c.loop-line.reader.held c.read_on.new.reader.held
    c.loop-line.coming.lines.items c.read_on.new.coming.lines.items c.loop-line.coming.count c.read_on.new.coming.count so.comes
    c.loop-line.reader.limit c.args.before c.saturating_add-number.result (g.S.Source.failed c.loop-line.source)
    (g.S.Source.failed c.read_on.new.source)
    c.in-Err.fault number moves.2 in
    let limited = subst (λ l. BreaksGroup l bytes c.args.before (g.S.Source.failed c.loop-line.source) (g.S.Source.failed c.read_on.new.source) c.in-Err.fault) so.limit breaks in
    let since = subst (λ n. BreaksGroup c.args.reader.now.limit bytes c.args.before n (g.S.Source.failed c.read_on.new.source) c.in-Err.fault) so.none_unread limited in
    (so.came ++ moves.0, Consumes-trans _ _ _ _ _ so.consumed moves.1, since)

pub returns-in-Err-clause-limit : goal.returns-in-Err-clause-limit
returns-in-Err-clause-limit g c = c.in-Err.ensures.limit ∙ c.loop-line.invariant.limit

pub returns-clause-comes : goal.returns-clause-comes
returns-clause-comes g c =
    let so = c.loop-line.invariant in
    let many : most_lines ≤ length so.comes.lines = omega (arith, so.many) in (
      so.came,
      so.consumed,
      group_is_endless c.args.reader.now.limit (c.args.reader.now.held ++ so.came) c.loop-line.reader.held
          c.loop-line.coming.lines.items c.loop-line.coming.count c.args.before (g.S.Source.failed c.args.source.now)
          (g.S.Source.failed c.loop-line.source) so.comes many so.none_unread,
    )

pub returns-clause-limit : goal.returns-clause-limit
returns-clause-limit g c = c.loop-line.invariant.limit
