use Rattle.std.proofs.Common.{◌∙◌, string_bytes}
use Rattle.gate_check.proofs.Texts.{joined_some}
use Rattle.gate_check.proofs.words.joined.Goals as goal

pub returns : goal.returns
returns c =
    c.in_ok-join.ensures.ok
    ∙ joined_some string_bytes c.args.none.now c.args.separator.now c.args.texts.now c.is_empty.result c.is_empty.ensures
    c.if-is_empty.false
