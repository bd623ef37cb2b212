use Rattle.std.proofs.Common.{[], ◌∷◌, ◌++◌, ◌+◌, ◌∙◌, ap, subst, sym, take, arith}
use Rattle.std.proofs.lemmas.List.{take_all}
use Rattle.std.proofs.lemmas.Option.{get_or_from_slice_get}
use Rattle.replica_core.specs.Journal.{has}
use Rattle.serve_command.specs.Beginning.{IsAdded, lacking_of}
use Rattle.serve_command.proofs.Adding.{added_rest, lacking_added, passed_over}
use Rattle.serve_command.proofs.Ending.{on_ok}
use Rattle.serve_command.proofs.journal.add_lacking.Goals.{then-not-has+in_ok-gather, else-not-has}
use Rattle.serve_command.proofs.journal.add_lacking.Goals as goal

pub loop-place-preserved : goal.loop-place-preserved
loop-place-preserved g c =
    let own = c.args.replica.now in
    let ops = c.args.loaded.now in
    let op = c.arrival-op.result.now in
    let is = sym (get_or_from_slice_get ops c.loop-place.place op op c.arrival-op.ensures.operation) in
    let further = lacking_of own (take (c.loop-place.place + 1) ops) in
    elim c.if-not-has.branch [
      | then-not-has+in_ok-gather w ↦
          subst (λ j. IsAdded c.args.journal.now further j c.if-not-has.lacking.items) (sym w.journal-is)
          (subst (λ v. IsAdded c.args.journal.now further w.gather.new.journal v.items) (sym w.lacking-is)
          (lacking_added c.args.journal.now c.loop-place.journal w.gather.new.journal own ops c.loop-place.place
          c.arrival-op.result.now c.loop-place.lacking.items w.gather.new.gathered.items (omega (arith, c.loop-place-test.true, c.len-place-end.ensures))
          (ap (has own) (sym is) ∙ sym c.has.ensures ∙ w.if-not-has.true) c.loop-place.invariant
          (subst (λ op. IsAdded c.loop-place.journal (c.loop-place.lacking.items ++ op ∷ []) w.gather.new.journal w.gather.new.gathered.items)
          is w.in_ok-gather.ensures)))
      | else-not-has w ↦
          subst (λ j. IsAdded c.args.journal.now further j c.if-not-has.lacking.items) (sym w.journal-is)
          (subst (λ v. IsAdded c.args.journal.now further c.loop-place.journal v.items) (sym w.lacking-is)
          (passed_over c.args.journal.now c.loop-place.journal own ops c.loop-place.place c.arrival-op.result.now
          c.loop-place.lacking.items (omega (arith, c.loop-place-test.true, c.len-place-end.ensures))
          (ap (has own) (sym is) ∙ sym c.has.ensures ∙ w.if-not-has.false) c.loop-place.invariant))
    ]

pub returns : goal.returns
returns g c =
    let own = c.args.replica.now in
    let ops = c.args.loaded.now in
    on_ok c.add_all.result (IsAdded c.loop-place.journal c.loop-place.lacking.items c.add_all.new.journal [])
    (IsAdded c.args.journal.now (lacking_of own c.args.loaded.now) c.add_all.new.journal [])
    (λ added. subst (λ all. IsAdded c.args.journal.now (lacking_of own all) c.add_all.new.journal [])
    (take_all c.loop-place.place ops (omega (arith, c.loop-place-test.false, c.len-place-end.ensures)))
    (added_rest c.args.journal.now c.loop-place.journal c.add_all.new.journal (lacking_of own (take c.loop-place.place ops))
    c.loop-place.lacking.items [] c.loop-place.invariant added)) c.add_all.ensures.added
