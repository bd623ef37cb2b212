use Rattle.std.proofs.Common.{◌++◌, ◌∷◌, [], List, ℕ, subst}
use Rattle.std.proofs.lemmas.Result.{err_from_is_err_and, on_ok_weaker, IfErr-weaker}
use Rattle.byte_ends.specs.Lines.{as_line}
use Rattle.site_journal.specs.Fault.{IsJournalRefusal}
use Rattle.site_journal.specs.Reading.{HasRead}
use Rattle.site_journal.proofs.Steps.{line_joined, line_joined_later}
use Rattle.site_journal.proofs.reading.Reading.take_piece.Goals as goal

pub returns-in_err-hold-clause-err : goal.returns-in_err-hold-clause-err
returns-in_err-hold-clause-err c =
    let p = err_from_is_err_and c.from_residual.result c.from_residual.ensures.1 in
    rw (p.1, p.2) (λ came read later. subst (λ l. IsJournalRefusal l c.in_err-hold.field-0.0) (line_joined_later came c.args.piece.now later) (c.in_err-hold.ensures.err came read (10 ∷ later)))

pub returns-clause-ok : goal.returns-clause-ok
returns-clause-ok c =
    on_ok_weaker c.take_line.result
    (λ step came read. subst (λ l. HasRead l c.take_line.new.self.gathering c.take_line.new.self.held.items c.take_line.new.self.next) (line_joined came c.args.piece.now)
    (step (came ++ c.args.piece.now) (c.in_ok-hold.ensures.ok came read)))
    c.take_line.ensures.ok

pub returns-clause-err : goal.returns-clause-err
returns-clause-err c =
    IfErr-weaker c.take_line.result
    (λ fault. (came : List ℕ) → HasRead came c.hold.new.self.gathering c.hold.new.self.held.items c.hold.new.self.next → (later : List ℕ) → IsJournalRefusal ((came ++ 10 ∷ []) ++ later) fault)
    (λ fault. (came : List ℕ) → HasRead came c.args.self.now.gathering c.args.self.now.held.items c.args.self.now.next → (later : List ℕ) → IsJournalRefusal ((came ++ as_line c.args.piece.now) ++ later) fault)
    (λ fault fails came read later. subst (λ l. IsJournalRefusal (l ++ later) fault) (line_joined came c.args.piece.now) (fails (came ++ c.args.piece.now) (c.in_ok-hold.ensures.ok came read) later))
    c.take_line.ensures.err
