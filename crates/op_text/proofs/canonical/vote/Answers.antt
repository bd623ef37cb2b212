use Rattle.std.proofs.Common.{◌++◌, string_bytes, ap, ◌∙◌, refl, sym, rules}
use Rattle.std.specs.Fmt.{signed_decimal}
use Rattle.std.proofs.Math.Facts.{to_z-of_z}
use Rattle.std.specs.Int.{w8}
use Rattle.std.specs.Prelude.{codes, FitsSigned}
use Rattle.json.specs.Print.{quoted}
use Rattle.op_text.specs.Canonical.{labelled_front, set_text, written_text}
use Rattle.review_ops.specs.Deed.{vote}
use Rattle.op_text.proofs.KindTexts.{vote_text}
use Rattle.op_text.proofs.canonical.vote.Goals as goal

pub returns : goal.returns
returns c =
    let fits : FitsSigned w8 c.in_ok-value.value = search rules in
    let label = string_bytes c.args.label in
    let voter = string_bytes c.in_ok-voter.voter in
    let value = c.in_ok-value.value in
    let end = c.if-not-ends.ensures.0 refl in
    let from_voter = c.in_ok-voter.ensures ∙ ap (λ rest. codes ",\"voter\":" ++ (quoted voter ++ rest)) end in
    let from_value = c.in_ok-value.ensures ∙ ap (λ rest. codes ",\"value\":" ++ (signed_decimal value ++ rest)) from_voter in
    let whole = c.in-Some.ensures ∙ ap (set_text c.in-Some.stamp c.in-Some.set) from_value in
    ap (λ bytes. labelled_front c.args.change label (codes "vote\"" ++ bytes)) whole
    ∙ vote_text c.in-Some.stamp c.args.change c.in-Some.set label voter value
    ∙ ap (λ z. written_text c.in-Some.stamp (vote c.args.change c.in-Some.set label voter z)) (sym (to_z-of_z fits))
