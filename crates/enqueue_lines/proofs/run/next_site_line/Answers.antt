use Rattle.std.proofs.Common.{◌∙◌, ◌++◌}
use Rattle.enqueue_lines.proofs.Stream.{line_handed, line_next}
use Rattle.enqueue_lines.proofs.run.next_site_line.Goals as goal

pub returns-in-Ok-true-clause-moves : goal.returns-in-Ok-true-clause-moves
returns-in-Ok-true-clause-moves g c =
    let came = c.in-Ok-true.ensures.hands in
    let line = line_handed c.args.reader.now c.next_line.new.self came.0 c.in-Ok-true.field-0 c.in-Ok-true.field-0-test came.2 in (
      came.0,
      came.1,
      line_next (c.args.reader.now.held ++ came.0) c.next_line.new.self.held c.line.result.now c.args.reader.now.limit
          c.args.number (g.S.Source.failed c.args.source.now)
          (g.S.Source.failed c.next_line.new.source) c.site_line_in.result
          (line.0, line.1, c.line.ensures ∙ line.2) c.site_line_in.ensures.parsed c.site_line_in.ensures.refused c.in-Ok-true.ensures.counted,
    )
