-- The text of a group that has a line.
use Rattle.std.proofs.Common.{◌≡◌, ℕ, false, List, [], ◌∷◌, ◌++◌, length, flat_map, refl}
use Rattle.std.specs.Prelude.{◌==◌}
use Rattle.std.proofs.lemmas.Bool.{false≢true}
use Rattle.report_text.specs.Report.{end_line}
use Rattle.report_changes.specs.declared.lines.Line.{Line}
use Rattle.report_changes.specs.Lines.{group_text, line_text}

pub some_text : (lines : List Line) (ready out : ℕ) → false ≡ (length lines == 0)
    → flat_map line_text lines ++ end_line ready out ≡ group_text lines ready out
some_text [] ready out e = absurd (false≢true e)
some_text (line ∷ lines) ready out e = refl
