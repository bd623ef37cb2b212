use Rattle.std.proofs.Common.{rules, ◌≢◌, get_or}
use Rattle.footer_text.proofs.Numerals.{numeral_from_parse}
use Rattle.footer_text.proofs.reading.numeral.Goals as goal

pub returns : goal.returns
returns c =
    let text = c.args.digits.now in
    let plain : get_or text 0 0 ≢ 43 = search rules in
    rw c.ok.ensures.value (numeral_from_parse text _ c.parse.ensures.value.0 plain c.if-digits-gt-MOST_DIGITS.false)
