use Rattle.std.proofs.Common.{◌+◌, ◌∷◌, ◌++◌, [], subst, sym}
use Rattle.std.proofs.lemmas.Result.{on_ok_weaker, IfErr-weaker}
use Rattle.replica_core.specs.Journal.{arrived}
use Rattle.snapshot_text.specs.Progress.{Stands, HasTaken, IsFaultIn}
use Rattle.snapshot_text.proofs.Standing.{ok_of, err_of, header_taken, bad_header, operation_taken, bad_line, end_taken}
use Rattle.snapshot_text.proofs.Standing.{bad_count, after_end}
use Rattle.snapshot_text.proofs.progress.Progress.take_line.Goals as goal

pub returns-in-Header-clause-ok : goal.returns-in-Header-clause-ok
returns-in-Header-clause-ok c = ok_of _ _ c.take_header.result c.take_header.ensures.header (λ done h base lines taken.
    let old = c.args.self.now in
    subst (HasTaken base (lines ++ c.args.line.now ∷ [])) (sym h.1)
    (header_taken base lines old.gathering old.count c.args.line.now (subst (λ s. Stands base lines s old.gathering old.count) c.in-Header.is taken) h.0))

pub returns-in-Header-clause-err : goal.returns-in-Header-clause-err
returns-in-Header-clause-err c = err_of _ _ _ c.take_header.result c.take_header.ensures.header (λ fault h base lines taken later.
    let old = c.args.self.now in
    subst (IsFaultIn (lines ++ c.args.line.now ∷ later)) (sym h.1)
    (bad_header base lines old.gathering old.count c.args.line.now later (subst (λ s. Stands base lines s old.gathering old.count) c.in-Header.is taken) h.0))

pub returns-in-Some-clause-ok : goal.returns-in-Some-clause-ok
returns-in-Some-clause-ok c = ok_of _ _ c.take_end.result c.take_end.ensures.end (λ done h base lines taken.
    let old = c.args.self.now in
    subst (HasTaken base (lines ++ c.args.line.now ∷ [])) (sym h.1)
    (end_taken base lines old.gathering old.count c.args.line.now c.in-Some.said (subst (λ s. Stands base lines s old.gathering old.count) c.in-Operations.is taken) c.in-Some.ensures h.0))

pub returns-in-Some-clause-err : goal.returns-in-Some-clause-err
returns-in-Some-clause-err c = err_of _ _ _ c.take_end.result c.take_end.ensures.end (λ fault h base lines taken later.
    let old = c.args.self.now in
    subst (IsFaultIn (lines ++ c.args.line.now ∷ later)) (sym h.1)
    (bad_count base lines old.gathering old.count c.args.line.now later c.in-Some.said (subst (λ s. Stands base lines s old.gathering old.count) c.in-Operations.is taken) c.in-Some.ensures h.0))

pub returns-in-None-clause-ok : goal.returns-in-None-clause-ok
returns-in-None-clause-ok c = on_ok_weaker c.take_operation.result (λ h base lines taken.
    let old = c.args.self.now in
    subst (HasTaken base (lines ++ c.args.line.now ∷ [])) (sym h.2)
    (subst (λ s. Stands base (lines ++ c.args.line.now ∷ []) s (arrived old.gathering h.0) (old.count + 1)) (sym c.in-Operations.is)
    (operation_taken base lines old.gathering old.count c.args.line.now h.0 (subst (λ s. Stands base lines s old.gathering old.count) c.in-Operations.is taken) c.in-None.ensures h.1))) c.take_operation.ensures.ok

pub returns-in-None-clause-err : goal.returns-in-None-clause-err
returns-in-None-clause-err c = IfErr-weaker c.take_operation.result _ _ (λ fault h base lines taken later.
    let old = c.args.self.now in
    bad_line base lines old.gathering old.count c.args.line.now later fault (subst (λ s. Stands base lines s old.gathering old.count) c.in-Operations.is taken) c.in-None.ensures h) c.take_operation.ensures.err

pub returns-in-Ended-clause-err : goal.returns-in-Ended-clause-err
returns-in-Ended-clause-err c = λ base lines taken later.
    let old = c.args.self.now in
    after_end base lines old.gathering old.count c.args.line.now later (subst (λ s. Stands base lines s old.gathering old.count) c.in-Ended.is taken)
