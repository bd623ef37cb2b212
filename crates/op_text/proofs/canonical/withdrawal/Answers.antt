use Rattle.std.proofs.Common.{◌++◌, string_bytes, ap, ◌∙◌, refl}
use Rattle.std.specs.Prelude.{codes}
use Rattle.json.specs.Print.{quoted}
use Rattle.op_text.specs.Canonical.{labelled_front, set_text}
use Rattle.op_text.proofs.KindTexts.{withdraw_text}
use Rattle.op_text.proofs.canonical.withdrawal.Goals as goal

pub returns : goal.returns
returns c =
    let label = string_bytes c.args.label in
    let voter = string_bytes c.in_ok-voter.voter in
    let end = c.if-not-ends.ensures.0 refl in
    let from_voter = c.in_ok-voter.ensures ∙ ap (λ rest. codes ",\"voter\":" ++ (quoted voter ++ rest)) end in
    let whole = c.in-Some.ensures ∙ ap (set_text c.in-Some.stamp c.in-Some.set) from_voter in
    ap (λ bytes. labelled_front c.args.change label (codes "withdraw\"" ++ bytes)) whole
    ∙ withdraw_text c.in-Some.stamp c.args.change c.in-Some.set label voter
