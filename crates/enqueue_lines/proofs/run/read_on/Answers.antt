use Rattle.std.proofs.Common.{◌++◌, Ok, Option, Result, refl, ap, subst}
use Rattle.enqueue_lines.specs.Running.{SaysLines, line_says}
use Rattle.enqueue_lines.specs.declared.fault.EnqueueFault.{EnqueueFault}
use Rattle.enqueue_lines.specs.declared.site_line.SiteLine.{SiteLine}
use Rattle.enqueue_lines.proofs.Stream.{line_taken, no_stop, step_counted}
use Rattle.enqueue_lines.proofs.run.read_on.Goals as goal

pub returns-in-Ok-Some-clause-moves : goal.returns-in-Ok-Some-clause-moves
returns-in-Ok-Some-clause-moves g c =
    let moves = c.in-Ok-Some.ensures.moves in
    let bytes = c.args.reader.now.held ++ moves.0 in
    let says = subst (λ (read : Option SiteLine). SaysLines bytes c.next_site_line.new.reader.held (line_says read)) c.in-Ok-Some.field-0-is moves.2.0 in (
      moves.0,
      moves.1,
      line_taken c.args.reader.now.limit bytes c.next_site_line.new.reader.held c.args.coming.now.lines.items
          c.keep.new.coming.lines.items c.args.number (g.S.Source.failed c.args.source.now)
          (g.S.Source.failed c.next_site_line.new.source)
          c.in-Ok-Some.parsed c.keep.result says moves.2.1 c.keep.ensures.kept c.keep.ensures.fault,
    )

pub returns-in-Ok-Some-clause-counts : goal.returns-in-Ok-Some-clause-counts
returns-in-Ok-Some-clause-counts g c =
    step_counted c.args.coming.now.count c.keep.new.coming.count c.in-Ok-Some.parsed c.args.coming.now.lines.items
    c.keep.new.coming.lines.items c.keep.result c.keep.ensures.counted c.keep.ensures.kept

pub returns-in-Ok-Some-clause-end : goal.returns-in-Ok-Some-clause-end
returns-in-Ok-Some-clause-end g c = λ is.
    absurd (no_stop c.in-Ok-Some.parsed c.args.coming.now.lines.items c.keep.new.coming.lines.items c.keep.result c.keep.ensures.kept is)

pub returns-in-Ok-None-clause-moves : goal.returns-in-Ok-None-clause-moves
returns-in-Ok-None-clause-moves g c =
    let moves = c.in-Ok-None.ensures.moves in
    let bytes = c.args.reader.now.held ++ moves.0 in
    let says = subst (λ (read : Option SiteLine). SaysLines bytes c.next_site_line.new.reader.held (line_says read)) c.in-Ok-None.field-0-is moves.2.0 in
    (moves.0, moves.1, ((says, refl), moves.2.1))

pub returns-in-Ok-None-clause-end : goal.returns-in-Ok-None-clause-end
returns-in-Ok-None-clause-end g c = λ is.
    let whole : Option SiteLine → Result (Option SiteLine) EnqueueFault = λ read. Ok read in
    c.in-Ok-None.ensures.end (ap whole c.in-Ok-None.field-0-is)

pub returns-in-Err-clause-moves : goal.returns-in-Err-clause-moves
returns-in-Err-clause-moves g c = c.in-Err.ensures.moves
