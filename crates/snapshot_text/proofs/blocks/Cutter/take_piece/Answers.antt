use Rattle.std.proofs.Common.{◌≡◌, ◌∙◌, ◌++◌, ◌∷◌, [], sym, ap, subst, append_assoc, arith}
use Rattle.std.proofs.lemmas.Bool.{eqb-true}
use Rattle.std.proofs.lemmas.List.{nil_from_length}
use Rattle.std.proofs.lemmas.Result.{on_ok_weaker, IfErr-weaker}
use Rattle.byte_ends.specs.Lines.{lines_of}
use Rattle.snapshot_text.specs.Progress.{HasTaken, HasCut, IsFaultIn}
use Rattle.snapshot_text.proofs.Cutting.{cut_line, cut_fault}
use Rattle.snapshot_text.proofs.blocks.Cutter.take_piece.Goals as goal

pub returns-then-is_empty-clause-ok : goal.returns-then-is_empty-clause-ok
returns-then-is_empty-clause-ok c = on_ok_weaker c.take_line.result (λ step base came has.
    let old = c.args.self.now in
    let piece = c.args.piece.now in
    let zero = eqb-true _ _ (sym c.is_empty.ensures ∙ c.if-is_empty.true) in
    let none : old.held.items ≡ [] = nil_from_length old.held.items (omega (arith, old.held.ok.0, zero)) in
    cut_line base came old (record { progress = c.take_line.new.self; held = old.held }) has piece piece (ap (λ l. l ++ piece) (sym none)) c.requires.plain none
    (subst (λ l. HasTaken base (has.lines ++ l ∷ []) c.take_line.new.self) (c.line_of.ensures c.requires.plain) (step base has.lines has.taken))) c.take_line.ensures.ok

pub returns-then-is_empty-clause-err : goal.returns-then-is_empty-clause-err
returns-then-is_empty-clause-err c = IfErr-weaker c.take_line.result _ _ (λ fault fails base came has later.
    let old = c.args.self.now in
    let piece = c.args.piece.now in
    let zero = eqb-true _ _ (sym c.is_empty.ensures ∙ c.if-is_empty.true) in
    let none : old.held.items ≡ [] = nil_from_length old.held.items (omega (arith, old.held.ok.0, zero)) in
    cut_fault base came old old has piece piece (ap (λ l. l ++ piece) (sym none)) c.requires.plain fault later
    (subst (λ l. IsFaultIn (has.lines ++ l ∷ lines_of later) fault) (c.line_of.ensures c.requires.plain) (fails base has.lines has.taken (lines_of later)))) c.take_line.ensures.err

pub returns-clause-ok : goal.returns-clause-ok
returns-clause-ok c = on_ok_weaker c.take_held.result (λ step base came has.
    subst (λ l. HasCut base l c.take_held.new.self) (append_assoc came c.args.piece.now (10 ∷ []))
    (step base (came ++ c.args.piece.now) (c.in_ok-hold.ensures.ok base came has))) c.take_held.ensures.ok

pub returns-clause-err : goal.returns-clause-err
returns-clause-err c = IfErr-weaker c.take_held.result _ _ (λ fault fails base came has later.
    subst (λ l. IsFaultIn (lines_of (l ++ later)) fault) (append_assoc came c.args.piece.now (10 ∷ []))
    (fails base (came ++ c.args.piece.now) (c.in_ok-hold.ensures.ok base came has) later)) c.take_held.ensures.err
