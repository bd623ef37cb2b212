use Rattle.std.proofs.Common.{subst}
use Rattle.std.specs.Prelude.{OnErr, OnOk}
use Rattle.std.specs.Io.KnownBytes.{Appends}
use Rattle.report_text.specs.Pages.{IsCut}
use Rattle.report_changes.proofs.Texts.{some_text}
use Rattle.report_changes.proofs.text.write_group.Goals as goal

pub returns-clause-ok : goal.returns-clause-ok
returns-clause-ok g c = subst
    (λ text. OnOk c.write_some.result (Appends (g.D.Drain.taken c.args.drain.now) (g.D.Drain.taken c.write_some.new.drain) text))
    (some_text c.args.lines.now c.args.ready c.args.out c.if-is_empty.ensures) c.write_some.ensures.ok

pub returns-clause-cut : goal.returns-clause-cut
returns-clause-cut g c = subst
    (λ text. OnErr c.write_some.result (IsCut (g.D.Drain.taken c.args.drain.now) (g.D.Drain.taken c.write_some.new.drain) text))
    (some_text c.args.lines.now c.args.ready c.args.out c.if-is_empty.ensures) c.write_some.ensures.cut
