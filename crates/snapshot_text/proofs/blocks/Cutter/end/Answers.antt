use Rattle.std.proofs.lemmas.Result.{IfOk-weaker, IfErr-weaker}
use Rattle.byte_ends.specs.Lines.{lines_of}
use Rattle.snapshot_text.proofs.blocks.Cutter.end.Goals as goal

pub returns-clause-ok : goal.returns-clause-ok
returns-clause-ok c = IfOk-weaker c.end.result _ _
    (λ replica ends base came has. ends base (lines_of came) (c.in_ok-take_last.ensures.ok base came has)) c.end.ensures.ok

pub returns-clause-err : goal.returns-clause-err
returns-clause-err c = IfErr-weaker c.end.result _ _
    (λ fault fails base came has. fails base (lines_of came) (c.in_ok-take_last.ensures.ok base came has)) c.end.ensures.err
