use Rattle.std.proofs.Common.{◌++◌, subst}
use Rattle.std.proofs.lemmas.Result.{err_from_is_err_and, on_ok_weaker, IfErr-weaker}
use Rattle.byte_ends.specs.Lines.{lines_of}
use Rattle.snapshot_text.specs.Going.{first_and_rest, second_and_rest, three_are_all}
use Rattle.snapshot_text.specs.Progress.{HasCut, IsFaultIn}
use Rattle.snapshot_text.proofs.blocks.Cutter.take_block.Goals as goal

pub returns-in_err-take_lines-clause-err : goal.returns-in_err-take_lines-clause-err
returns-in_err-take_lines-clause-err g c =
    let p = err_from_is_err_and c.from_residual.result c.from_residual.ensures.1 in
    let first = c.split_at.result.0.now in
    let rest = c.split_at.result.1.now in
    rw (p.1, p.2) (λ base came has later.
    subst (λ l. IsFaultIn (lines_of l) c.in_err-take_lines.field-0.0)
    (first_and_rest came first rest c.args.block.now c.split_at.ensures.by_index.0 later)
    (c.in_err-take_lines.ensures.err base came has (rest ++ later)))

pub returns-in_err-take_whole-clause-err : goal.returns-in_err-take_whole-clause-err
returns-in_err-take_whole-clause-err g c =
    let p = err_from_is_err_and c.from_residual-in_err-take_whole.result c.from_residual-in_err-take_whole.ensures.1 in
    let first = c.split_at.result.0.now in
    let rest = c.split_at.result.1.now in
    let whole = c.split_at-2.result.0.now in
    let last = c.split_at-2.result.1.now in
    rw (p.1, p.2) (λ base came has later.
    subst (λ l. IsFaultIn (lines_of l) c.in_err-take_whole.field-0.0)
    (second_and_rest came first whole last rest c.args.block.now c.split_at.ensures.by_index.0 c.split_at-2.ensures.by_index.0 later)
    (c.in_err-take_whole.ensures.err base (came ++ first) (c.in_ok-take_lines.ensures.ok base came has) (last ++ later)))

pub returns-clause-ok : goal.returns-clause-ok
returns-clause-ok g c =
    let first = c.split_at.result.0.now in
    let whole = c.split_at-2.result.0.now in
    let last = c.split_at-2.result.1.now in
    on_ok_weaker c.take_lines-2.result
    (λ step base came has.
    subst (λ l. HasCut base l c.take_lines-2.new.self)
    (three_are_all came first whole last c.split_at.result.1.now c.args.block.now c.split_at.ensures.by_index.0 c.split_at-2.ensures.by_index.0)
    (step base ((came ++ first) ++ whole)
    (c.in_ok-take_whole.ensures.ok base (came ++ first) (c.in_ok-take_lines.ensures.ok base came has))))
    c.take_lines-2.ensures.ok

pub returns-clause-err : goal.returns-clause-err
returns-clause-err g c =
    let first = c.split_at.result.0.now in
    let whole = c.split_at-2.result.0.now in
    let last = c.split_at-2.result.1.now in
    IfErr-weaker c.take_lines-2.result _ _ (λ fault fails base came has later.
    subst (λ l. IsFaultIn (lines_of (l ++ later)) fault)
    (three_are_all came first whole last c.split_at.result.1.now c.args.block.now c.split_at.ensures.by_index.0 c.split_at-2.ensures.by_index.0)
    (fails base ((came ++ first) ++ whole)
    (c.in_ok-take_whole.ensures.ok base (came ++ first) (c.in_ok-take_lines.ensures.ok base came has)) later))
    c.take_lines-2.ensures.err
