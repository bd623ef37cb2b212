use Rattle.std.proofs.Common.{◌++◌, ap, ◌∙◌}
use Rattle.std.specs.Prelude.{codes}
use Rattle.op_text.specs.Canonical.{change_front}
use Rattle.op_text.proofs.KindTexts.{merged_text, abandon_text, restore_text}
use Rattle.op_text.proofs.canonical.step.Goals as goal

pub returns-in-Some : goal.returns-in-Some
returns-in-Some c =
    ap (λ bytes. change_front c.args.change (codes ",\"op\":\"" ++ bytes))
    (c.in-Some.ensures ∙ ap (λ rest. codes "merged\"" ++ rest) c.in_ok-last.ensures) ∙ merged_text c.in_ok-last.field-0 c.args.change

pub returns-in-Some-after : goal.returns-in-Some-after
returns-in-Some-after c =
    ap (λ bytes. change_front c.args.change (codes ",\"op\":\"" ++ bytes))
    (c.in-Some-after.ensures ∙ ap (λ rest. codes "abandon\"" ++ rest) c.in_ok-last-2.ensures) ∙ abandon_text c.in_ok-last-2.field-0 c.args.change

pub returns : goal.returns
returns c =
    ap (λ bytes. change_front c.args.change (codes ",\"op\":\"" ++ bytes))
    (c.in_ok-rest.ensures ∙ ap (λ rest. codes "restore\"" ++ rest) c.in_ok-last-3.ensures) ∙ restore_text c.in_ok-last-3.field-0 c.args.change
