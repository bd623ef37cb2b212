use Rattle.std.proofs.Common.{◌≡◌, ◌≢◌, ◌∙◌, ◌++◌, ◌∷◌, [], sym, ap, subst, arith, length, eq-eqb}
use Rattle.std.proofs.lemmas.Bool.{eqb-true, false≢true}
use Rattle.std.proofs.lemmas.List.{nil_from_length}
use Rattle.std.proofs.lemmas.Result.{on_ok_weaker, IfErr-weaker}
use Rattle.byte_ends.specs.Lines.{without_cr}
use Rattle.line_reader.specs.Lines.{HasNoLf}
use Rattle.snapshot_text.specs.Progress.{HasTaken, IsFaultIn}
use Rattle.snapshot_text.proofs.Cutting.{cut_none, cut_last}
use Rattle.snapshot_text.proofs.blocks.Cutter.take_last.Goals as goal

pub returns-then-is_empty-clause-ok : goal.returns-then-is_empty-clause-ok
returns-then-is_empty-clause-ok c = λ base came has.
    let old = c.args.self.now in
    let zero = eqb-true _ _ (sym c.is_empty.ensures ∙ c.if-is_empty.true) in
    let none : old.held.items ≡ [] = nil_from_length old.held.items (omega (arith, old.held.ok.0, zero)) in
    subst (λ l. HasTaken base l old.progress) (sym (cut_none base came old old has none)) has.taken

pub returns-clause-ok : goal.returns-clause-ok
returns-clause-ok c = on_ok_weaker c.take_line.result (λ step base came has.
    let old = c.args.self.now in
    let some : old.held.items ≢ [] = λ e. false≢true (sym c.if-is_empty.false ∙ c.is_empty.ensures ∙ eq-eqb _ _ (omega (arith, old.held.ok.0, ap length e))) in
    let line = c.line_of.ensures (subst HasNoLf (sym c.as_slice.ensures.value) has.plain) ∙ ap without_cr c.as_slice.ensures.value in
    subst (λ l. HasTaken base l c.take_line.new.self) (sym (cut_last base came old old has some))
    (subst (λ l. HasTaken base (has.lines ++ l ∷ []) c.take_line.new.self) line (step base has.lines has.taken))) c.take_line.ensures.ok

pub returns-clause-err : goal.returns-clause-err
returns-clause-err c = IfErr-weaker c.take_line.result _ _ (λ fault fails base came has.
    let old = c.args.self.now in
    let some : old.held.items ≢ [] = λ e. false≢true (sym c.if-is_empty.false ∙ c.is_empty.ensures ∙ eq-eqb _ _ (omega (arith, old.held.ok.0, ap length e))) in
    let line = c.line_of.ensures (subst HasNoLf (sym c.as_slice.ensures.value) has.plain) ∙ ap without_cr c.as_slice.ensures.value in
    subst (λ l. IsFaultIn l fault) (sym (cut_last base came old old has some))
    (subst (λ l. IsFaultIn (has.lines ++ l ∷ []) fault) line (fails base has.lines has.taken []))) c.take_line.ensures.err
