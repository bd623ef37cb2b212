use Rattle.std.proofs.Common.{◌++◌, subst}
use Rattle.std.proofs.lemmas.Result.{err_from_is_err_and, on_ok_weaker, IfErr-weaker}
use Rattle.site_journal.specs.Fault.{IsJournalRefusal}
use Rattle.site_journal.specs.Reading.{HasRead}
use Rattle.snapshot_text.specs.Going.{first_and_rest, second_and_rest, three_are_all}
use Rattle.site_journal.proofs.reading.Reading.take_block.Goals as goal

pub returns-in_err-take_lines-clause-err : goal.returns-in_err-take_lines-clause-err
returns-in_err-take_lines-clause-err g c =
    let p = err_from_is_err_and c.from_residual.result c.from_residual.ensures.1 in
    let first = c.split_at.result.0.now in
    let rest = c.split_at.result.1.now in
    rw (p.1, p.2) (λ came has later.
    subst (λ l. IsJournalRefusal l c.in_err-take_lines.field-0.0)
    (first_and_rest came first rest c.args.block.now c.split_at.ensures.by_index.0 later)
    (c.in_err-take_lines.ensures.err came has (rest ++ later)))

pub returns-in_err-take_whole-clause-err : goal.returns-in_err-take_whole-clause-err
returns-in_err-take_whole-clause-err g c =
    let p = err_from_is_err_and c.from_residual-in_err-take_whole.result c.from_residual-in_err-take_whole.ensures.1 in
    let first = c.split_at.result.0.now in
    let whole = c.split_at-2.result.0.now in
    let last = c.split_at-2.result.1.now in
    rw (p.1, p.2) (λ came has later.
    subst (λ l. IsJournalRefusal l c.in_err-take_whole.field-0.0)
    (second_and_rest came first whole last c.split_at.result.1.now c.args.block.now c.split_at.ensures.by_index.0 c.split_at-2.ensures.by_index.0 later)
    (c.in_err-take_whole.ensures.err (came ++ first) (c.in_ok-take_lines.ensures.ok came has) (last ++ later)))

pub returns-clause-ok : goal.returns-clause-ok
returns-clause-ok g c =
    let first = c.split_at.result.0.now in
    let whole = c.split_at-2.result.0.now in
    let last = c.split_at-2.result.1.now in
    let new = c.take_lines-2.new.self in
    on_ok_weaker c.take_lines-2.result
    (λ step came has.
    subst (λ l. HasRead l new.gathering new.held.items new.next)
    (three_are_all came first whole last c.split_at.result.1.now c.args.block.now c.split_at.ensures.by_index.0 c.split_at-2.ensures.by_index.0)
    (step ((came ++ first) ++ whole)
    (c.in_ok-take_whole.ensures.ok (came ++ first) (c.in_ok-take_lines.ensures.ok came has))))
    c.take_lines-2.ensures.ok

pub returns-clause-err : goal.returns-clause-err
returns-clause-err g c =
    let first = c.split_at.result.0.now in
    let whole = c.split_at-2.result.0.now in
    let last = c.split_at-2.result.1.now in
    IfErr-weaker c.take_lines-2.result _ _ (λ fault fails came has later.
    subst (λ l. IsJournalRefusal (l ++ later) fault)
    (three_are_all came first whole last c.split_at.result.1.now c.args.block.now c.split_at.ensures.by_index.0 c.split_at-2.ensures.by_index.0)
    (fails ((came ++ first) ++ whole)
    (c.in_ok-take_whole.ensures.ok (came ++ first) (c.in_ok-take_lines.ensures.ok came has)) later))
    c.take_lines-2.ensures.err
