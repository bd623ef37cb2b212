use Rattle.std.proofs.Common.{◌∙◌, sym}
use Rattle.snapshot_text.proofs.Cutting.{only_line, no_line}
use Rattle.snapshot_text.proofs.blocks.line_of.Goals as goal

pub returns-in-Some : goal.returns-in-Some
returns-in-Some c = λ plain.
    only_line c.args.piece.now c.in-Some.line.now c.next_line.new.self plain (sym c.new.ensures.lines ∙ c.in-Some.ensures)

pub returns-in-None : goal.returns-in-None
returns-in-None c = λ plain. no_line c.args.piece.now plain (sym c.new.ensures.lines ∙ c.in-None.ensures.0)
