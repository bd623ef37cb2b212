use Rattle.std.proofs.Common.{refl, subst}
use Rattle.std.specs.Prelude.{IfSome}
use Rattle.site_journal.specs.Reading.{IsFoundText}
use Rattle.site_journal.proofs.Starting.{fresh_opens, lines_open, lines_fail}
use Rattle.site_journal.proofs.opening.open_tape_by.Goals as goal

pub returns-in_err-settle-in-Lines-clause-failed : goal.returns-in_err-settle-in-Lines-clause-failed
returns-in_err-settle-in-Lines-clause-failed g c = λ failed.
    lines_fail (g.T.Feed.image c.args.tape.now) (g.T.Feed.image c.read_text.new.feed) (g.T.Feed.image c.settle.new.tape)
    (g.T.Feed.left c.args.tape.now) c.requires c.read_text.ensures.same
    c.in-Lines.replica c.in-Lines.len c.in-Lines.torn
    (subst (λ f. IfSome (g.T.Feed.left c.args.tape.now) (λ text. IsFoundText text f)) c.in-Lines.is c.in_ok-bytes.ensures.found)
    c.in_err-settle-in-Lines.ensures.err

pub returns-in_ok-begin-in-Fresh-clause-ok : goal.returns-in_ok-begin-in-Fresh-clause-ok
returns-in_ok-begin-in-Fresh-clause-ok g c =
    fresh_opens (g.T.Feed.image c.args.tape.now) (g.T.Feed.image c.read_text.new.feed) (g.T.Feed.image c.begin.new.tape)
    (g.T.Feed.left c.args.tape.now) c.requires c.read_text.ensures.same
    c.new.result c.in-Fresh.bytes 13
    (subst (λ f. IfSome (g.T.Feed.left c.args.tape.now) (λ text. IsFoundText text f)) c.in-Fresh.is c.in_ok-bytes.ensures.found)
    c.new.ensures refl c.in_ok-begin-in-Fresh.ensures.ok

pub returns-in_ok-settle-in-Lines-clause-ok : goal.returns-in_ok-settle-in-Lines-clause-ok
returns-in_ok-settle-in-Lines-clause-ok g c =
    lines_open (g.T.Feed.image c.args.tape.now) (g.T.Feed.image c.read_text.new.feed) (g.T.Feed.image c.settle.new.tape)
    (g.T.Feed.left c.args.tape.now) c.requires c.read_text.ensures.same
    c.in-Lines.replica c.in-Lines.len c.in-Lines.torn
    (subst (λ f. IfSome (g.T.Feed.left c.args.tape.now) (λ text. IsFoundText text f)) c.in-Lines.is c.in_ok-bytes.ensures.found)
    c.in_ok-settle-in-Lines.ensures.ok
