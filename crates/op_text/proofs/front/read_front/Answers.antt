use Rattle.std.proofs.Common.{Ok}
use Rattle.std.proofs.lemmas.Result.{IfOk-weaker}
use Rattle.op_text.proofs.Fronts.{entries_are_read}
use Rattle.op_text.proofs.FrontTexts.{front_is_read, no_memory_refuses}
use Rattle.op_text.proofs.front.read_front.Goals as goal

pub returns-clause-spelled : goal.returns-clause-spelled
returns-clause-spelled c = IfOk-weaker c.front_of.result _ _
    (λ front says. (c.in_ok-entries.entries.items, c.in_ok-entries.ensures.spelled, says)) c.front_of.ensures.says

pub returns-clause-refused : goal.returns-clause-refused
returns-clause-refused c = no_memory_refuses c.args.bytes.now c.front_of.result c.front_of.ensures.err

pub returns-clause-only : goal.returns-clause-only
returns-clause-only c = front_is_read c.args.bytes.now c.in_ok-entries.entries.items c.front_of.result c.in_ok-entries.ensures.spelled c.front_of.ensures.says
    (entries_are_read c.args.bytes.now (Ok c.in_ok-entries.entries.items) c.in_ok-entries.ensures.spelled tt) c.front_of.ensures.err
