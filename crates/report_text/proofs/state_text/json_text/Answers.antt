use Rattle.std.proofs.Common.{◌≡◌, ◌∙◌, ◌∷◌, [], string_bytes, rules}
use Rattle.json.specs.Token.{string}
use Rattle.json.specs.Print.{print}
use Rattle.report_text.proofs.StateLines.{quoted_alone}
use Rattle.report_text.proofs.state_text.json_text.Goals as goal

pub returns : goal.returns
returns g c =
    let printed : string_bytes c.unwrap.result ≡ print (string c.args.plain.now ∷ []) = search rules in
    printed ∙ quoted_alone c.args.plain.now
