use Rattle.std.proofs.Common.{◌≤◌, ◌∙◌, ◌++◌, [], ap, arith, sym, subst}
use Rattle.line_reader.specs.Lines.{Reading}
use Rattle.enqueue_lines.specs.Groups.{ReadySoFar}
use Rattle.enqueue_lines.specs.Printing.{pipe_shown}
use Rattle.enqueue_lines.specs.Running.{KnownEnds, most_lines}
use Rattle.enqueue_lines.proofs.Ends.{ends_of}
use Rattle.enqueue_lines.proofs.HandingOver.{SoFar, all_over, at_first, group_over, next_group, nothing_begun, one_more_group}
use Rattle.enqueue_lines.proofs.HandingOver.{stops_counting, stops_early}
use Rattle.enqueue_lines.proofs.run.hand_over.Goals as goal

pub returns-in_default : goal.returns-in_default
returns-in_default g c =
    let before : KnownEnds = ends_of g.S.Source g.O.Drain g.E.Drain c.args.source.now c.args.output.now c.args.errors.now in
    nothing_begun (pipe_shown c.args.pipeline.now) c.args.earlier before

pub loop-group-init : goal.loop-group-init
loop-group-init g c =
    let before : KnownEnds = ends_of g.S.Source g.O.Drain g.E.Drain c.args.source.now c.args.output.now c.args.errors.now in
    let pipe = pipe_shown c.args.pipeline.now in
    record {
      handed = subst (λ (reader : Reading). SoFar pipe c.args.earlier before before reader.held c.new-handing.result 0 0) (sym c.in-Ok.ensures)
          (subst (λ (held : ReadySoFar). SoFar pipe c.args.earlier before before [] held 0 0) (sym c.new-handing.ensures) (at_first pipe c.args.earlier before));
      limit = ap (λ (reader : Reading). reader.limit) c.in-Ok.ensures;
    }

pub loop-group-preserved : goal.loop-group-preserved
loop-group-preserved g c =
    let pipe = pipe_shown c.args.pipeline.now in
    let start : KnownEnds = ends_of g.S.Source g.O.Drain g.E.Drain c.args.source.now c.args.output.now c.args.errors.now in
    let now : KnownEnds = ends_of g.S.Source g.O.Drain g.E.Drain c.loop-group.source c.loop-group.output c.loop-group.errors in
    let next : KnownEnds = ends_of g.S.Source g.O.Drain g.E.Drain c.hand_group.new.source c.hand_group.new.output c.hand_group.new.errors in
    let so = c.loop-group.invariant in
    let hands = c.in-Ok-true.ensures.hands in
    let handed = next_group pipe c.loop-group.reader.limit (c.loop-group.reader.held ++ hands.0) c.hand_group.new.reader.held c.loop-group.number
    c.hand_group.new.number c.loop-group.handing c.hand_group.new.handing now next c.in-Ok-true.field-0 c.in-Ok-true.field-0-test hands.2 in
    record {
      handed = one_more_group pipe c.args.earlier start now c.loop-group.reader.held c.loop-group.handing c.loop-group.number c.loop-group._group so.handed
          next hands.0 c.hand_group.new.reader.held c.hand_group.new.handing c.hand_group.new.number hands.1 handed;
      limit = c.in-Ok-true.ensures.limit ∙ so.limit;
    }

pub returns-in-Ok-false : goal.returns-in-Ok-false
returns-in-Ok-false g c =
    let pipe = pipe_shown c.args.pipeline.now in
    let start : KnownEnds = ends_of g.S.Source g.O.Drain g.E.Drain c.args.source.now c.args.output.now c.args.errors.now in
    let now : KnownEnds = ends_of g.S.Source g.O.Drain g.E.Drain c.loop-group.source c.loop-group.output c.loop-group.errors in
    let next : KnownEnds = ends_of g.S.Source g.O.Drain g.E.Drain c.hand_group.new.source c.hand_group.new.output c.hand_group.new.errors in
    let so = c.loop-group.invariant in
    let hands = c.in-Ok-false.ensures.hands in
    let over = group_over pipe c.loop-group.reader.limit (c.loop-group.reader.held ++ hands.0) c.hand_group.new.reader.held c.loop-group.number
    c.hand_group.new.number c.loop-group.handing c.hand_group.new.handing now next c.in-Ok-false.field-0 c.in-Ok-false.field-0-test hands.2 in
    all_over pipe c.args.earlier start now c.loop-group.reader.held c.loop-group.handing c.loop-group.number c.loop-group._group so.handed next hands.0 hands.1 over

pub returns-in-Err : goal.returns-in-Err
returns-in-Err g c =
    let pipe = pipe_shown c.args.pipeline.now in
    let start : KnownEnds = ends_of g.S.Source g.O.Drain g.E.Drain c.args.source.now c.args.output.now c.args.errors.now in
    let now : KnownEnds = ends_of g.S.Source g.O.Drain g.E.Drain c.loop-group.source c.loop-group.output c.loop-group.errors in
    let next : KnownEnds = ends_of g.S.Source g.O.Drain g.E.Drain c.hand_group.new.source c.hand_group.new.output c.hand_group.new.errors in
    let so = c.loop-group.invariant in
    let hands = c.in-Err.ensures.hands in
    stops_early pipe c.args.earlier start now c.loop-group.reader.held c.loop-group.handing c.loop-group.number c.loop-group._group so.handed
    next hands.0 c.loop-group.reader.limit c.in-Err.fault so.limit hands.1 hands.2

pub returns : goal.returns
returns g c =
    let pipe = pipe_shown c.args.pipeline.now in
    let start : KnownEnds = ends_of g.S.Source g.O.Drain g.E.Drain c.args.source.now c.args.output.now c.args.errors.now in
    let now : KnownEnds = ends_of g.S.Source g.O.Drain g.E.Drain c.loop-group.source c.loop-group.output c.loop-group.errors in
    let so = c.loop-group.invariant in
    let many : most_lines ≤ c.loop-group._group = omega arith in
    stops_counting pipe c.args.earlier start now c.loop-group.reader.held c.loop-group.handing c.loop-group.number c.loop-group._group so.handed many
