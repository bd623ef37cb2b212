use Rattle.std.proofs.Common.{◌≡◌, ◌∙◌, ◌++◌, false, true, ap, arith, length, length-append}
use Rattle.std.proofs.lemmas.Result.{err_from_is_err_and}
use Rattle.site_journal.specs.Tape.{IsSettled}
use Rattle.site_journal.proofs.Keeping.{not_true, same_survives, undone_survives, kept_survives, doubtful_survives}
use Rattle.site_journal.proofs.Keeping.{some_after}
use Rattle.site_journal.proofs.journal.Journal.append.Goals as goal

pub returns-in_err-lines-clause-any_crash : goal.returns-in_err-lines-clause-any_crash
returns-in_err-lines-clause-any_crash g c = λ before holding.
    let p = err_from_is_err_and c.from_residual.result c.from_residual.ensures.1 in
    rw p.1 (same_survives before c.args.ops.now (false ≡ true) not_true c.args.self.now.image holding.holds)

pub returns-in_default-clause-any_crash : goal.returns-in_default-clause-any_crash
returns-in_default-clause-any_crash g c =
    λ before holding. same_survives before c.args.ops.now (false ≡ true) not_true c.args.self.now.image holding.holds

pub invariant_of-self : goal.invariant_of-self
invariant_of-self g c = λ sound.
    some_after (g.T.Feed.image c.self.inside.tape) (g.T.Feed.image c.write_lines.new.tape)
    (λ i. IsSettled i × (length i.contents ≡ c.self.inside.len))
    (λ i j. IsSettled j × (j.contents ≡ i.contents ++ c.as_slice.result.now))
    (λ j. IsSettled j × (length j.contents ≡ c.in-Some.len))
    (c.self.invariant sound) c.in-Kept.ensures.written
    (λ i j h w. (w.0, omega (arith, h.1, ap length w.1, length-append i.contents c.as_slice.result.now, c.in-Some.ensures.1, c.len.ensures, c.as_slice.ensures.len)))

pub returns-in-Kept-clause-any_crash : goal.returns-in-Kept-clause-any_crash
returns-in-Kept-clause-any_crash g c = λ before holding.
    kept_survives before c.args.ops.now
    (λ text says. c.journals_say_their_operations.ensures.more text before c.args.ops.now says c.in_ok-lines.ensures.sound c.in_ok-lines.ensures.short)
    (true ≡ true) c.as_slice.result.now (c.as_slice.ensures.value ∙ c.in_ok-lines.ensures.lines)
    c.args.self.now.image (g.T.Feed.image c.self.inside.tape) (g.T.Feed.image c.write_lines.new.tape)
    (ap (λ b. b.image) c.self.view_is) holding.holds c.in-Kept.ensures.written

pub returns-in-Undone-clause-any_crash : goal.returns-in-Undone-clause-any_crash
returns-in-Undone-clause-any_crash g c = λ before holding.
    undone_survives before c.args.ops.now (false ≡ true) not_true
    c.args.self.now.image (g.T.Feed.image c.self.inside.tape) (g.T.Feed.image c.write_lines.new.tape)
    (ap (λ b. b.image) c.self.view_is) holding.holds c.in-Undone.ensures.written

pub returns-clause-any_crash : goal.returns-clause-any_crash
returns-clause-any_crash g c = λ before holding.
    doubtful_survives before c.args.ops.now
    (λ text left says least most. c.crashes_lose_nothing_acknowledged.ensures.lines text left before c.args.ops.now says c.in_ok-lines.ensures.sound c.in_ok-lines.ensures.short least most)
    (false ≡ true) not_true c.as_slice.result.now (c.as_slice.ensures.value ∙ c.in_ok-lines.ensures.lines)
    c.args.self.now.image (g.T.Feed.image c.self.inside.tape) (g.T.Feed.image c.write_lines.new.tape)
    (ap (λ b. b.image) c.self.view_is) holding.holds c.in-Doubtful.ensures.written
