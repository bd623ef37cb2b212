use Rattle.std.proofs.Common.{◌∙◌, ◌++◌, ◌∷◌, [], sym, ap, subst, append-nil}
use Rattle.std.proofs.lemmas.Result.{err_from_is_err_and}
use Rattle.byte_ends.specs.Lines.{lines_of, without_cr}
use Rattle.line_reader.specs.Lines.{HasNoLf}
use Rattle.snapshot_text.specs.Progress.{HasTaken, IsFaultIn}
use Rattle.snapshot_text.proofs.Cutting.{cut_line, cut_fault}
use Rattle.snapshot_text.proofs.blocks.Cutter.take_held.Goals as goal

pub returns-clause-ok : goal.returns-clause-ok
returns-clause-ok c = λ base came has.
    let old = c.args.self.now in
    let held = old.held.items in
    let line = c.line_of.ensures (subst HasNoLf (sym c.as_slice.ensures.value) has.plain) ∙ ap without_cr c.as_slice.ensures.value in
    cut_line base came old (record { progress = c.take_line.new.self; held = c.clear.new.self }) has [] held (sym (append-nil held)) has.plain c.clear.ensures.items
    (subst (λ l. HasTaken base (has.lines ++ l ∷ []) c.take_line.new.self) line (c.in_ok-take_line.ensures.ok base has.lines has.taken))

pub returns-in_err-take_line-clause-err : goal.returns-in_err-take_line-clause-err
returns-in_err-take_line-clause-err c =
    let p = err_from_is_err_and c.from_residual.result c.from_residual.ensures.1 in
    rw (p.1, p.2) (λ base came has later.
    let old = c.args.self.now in
    let held = old.held.items in
    let line = c.line_of.ensures (subst HasNoLf (sym c.as_slice.ensures.value) has.plain) ∙ ap without_cr c.as_slice.ensures.value in
    cut_fault base came old old has [] held (sym (append-nil held)) has.plain c.in_err-take_line.field-0.0 later
    (subst (λ l. IsFaultIn (has.lines ++ l ∷ lines_of later) c.in_err-take_line.field-0.0) line (c.in_err-take_line.ensures.err base has.lines has.taken (lines_of later))))
