use Rattle.std.proofs.Common.{◌≡◌, ◌∙◌, ◌∷◌, [], string_bytes, rules}
use Rattle.json.specs.Token.{string}
use Rattle.json.specs.Print.{print}
use Rattle.gate_check.proofs.Texts.{quoted_alone}
use Rattle.gate_check.proofs.words.json_text.Goals as goal

pub returns : goal.returns
returns c =
    let printed : string_bytes c.unwrap.result ≡ print (string c.args.plain.now ∷ []) = search rules in
    printed ∙ quoted_alone c.args.plain.now
