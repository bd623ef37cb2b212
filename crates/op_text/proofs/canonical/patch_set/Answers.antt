use Rattle.std.proofs.Common.{◌++◌, string_bytes, ap, ◌∙◌, refl}
use Rattle.std.specs.Prelude.{codes}
use Rattle.json.specs.Print.{quoted}
use Rattle.op_text.specs.Canonical.{change_front, optional_text, set_text}
use Rattle.op_text.proofs.KindTexts.{patch_set_text}
use Rattle.op_text.proofs.canonical.patch_set.Goals as goal

pub returns : goal.returns
returns c =
    let message = string_bytes c.in_ok-message.message in
    let parent = c.in_ok-parent.parent in
    let end = c.if-not-ends.ensures.0 refl in
    let after_parent = c.in-Some.ensures ∙ ap (set_text c.in-Some.stamp c.in-Some.set) end in
    let after_op = c.in_ok-parent.ensures ∙ ap (optional_text (codes ",\"parent\":") parent) after_parent in
    let after_message = c.in_ok-rest.ensures ∙ ap (λ rest. codes ",\"op\":\"patchset\"" ++ rest) after_op in
    let whole = c.in_ok-message.ensures ∙ ap (λ rest. quoted message ++ rest) after_message in
    ap (λ bytes. change_front c.args.change (codes ",\"message\":" ++ bytes)) whole
    ∙ patch_set_text c.in-Some.stamp c.args.change c.in-Some.set message parent
