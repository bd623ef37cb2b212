use Rattle.std.proofs.Common.{◌+◌, ◌∙◌, ap, subst, sym, take, arith}
use Rattle.std.proofs.lemmas.List.{take_all}
use Rattle.std.proofs.lemmas.Option.{get_or_from_slice_get}
use Rattle.replica_core.specs.Journal.{arrived, has}
use Rattle.replica_core.specs.Sets.{IsSameSet}
use Rattle.site_journal.specs.Leaving.{kept_of}
use Rattle.site_journal.proofs.Kept.{one_passed, one_taken}
use Rattle.site_journal.proofs.leaving.kept.Goals.{then-not-has+in_ok-copy+in_ok-_new, else-not-has}
use Rattle.site_journal.proofs.leaving.kept.Goals as goal

pub loop-place-preserved : goal.loop-place-preserved
loop-place-preserved c =
    let left_out = c.args.left_out.now in
    let ops = c.args.replica.now in
    let op = c.arrival-op.result.now in
    let further = kept_of left_out (take (c.loop-place.place + 1) ops) in
    elim c.if-not-has.branch [
      | then-not-has+in_ok-copy+in_ok-_new w ↦
          subst (λ g. IsSameSet g further)
          (sym (w.gathering-is ∙ w.in_ok-_new.ensures.ok.0 ∙ ap (arrived c.loop-place.gathering) w.in_ok-copy.ensures))
          (one_taken left_out c.loop-place.gathering ops c.loop-place.place op (omega (arith, c.loop-place-test.true, c.len-place-end.ensures)) (sym (get_or_from_slice_get ops c.loop-place.place op op c.arrival-op.ensures.operation))
          c.loop-place.invariant (sym c.has.ensures ∙ w.if-not-has.true))
      | else-not-has w ↦
          subst (λ g. IsSameSet g further) (sym w.gathering-is)
          (one_passed left_out c.loop-place.gathering ops c.loop-place.place op (omega (arith, c.loop-place-test.true, c.len-place-end.ensures)) (sym (get_or_from_slice_get ops c.loop-place.place op op c.arrival-op.ensures.operation))
          c.loop-place.invariant (sym c.has.ensures ∙ w.if-not-has.false))
    ]

pub returns-clause-ok : goal.returns-clause-ok
returns-clause-ok c = λ op.
    ap (λ l. has l op) c.in_ok-joined.ensures ∙ c.loop-place.invariant op
    ∙ ap (λ l. has (kept_of c.args.left_out.now l) op)
    (take_all c.loop-place.place c.args.replica.now (omega (arith, c.loop-place-test.false, c.len-place-end.ensures)))
