use Rattle.std.proofs.Common.{◌≡◌, ◌<◌, ◌^◌, ◌∙◌, ap, arith, sym}
use Rattle.std.specs.Fmt.{decimal}
use Rattle.std.proofs.lemmas.Fmt.{IsAscii-decimal, parse-decimal}
use Rattle.std.proofs.lemmas.Str.{IsUtf8-from_ascii}
use Rattle.sealed_line.proofs.greeting.number_of.Goals as goal

pub returns-in_default : goal.returns-in_default
returns-in_default c = λ site lt e.
    let wide : site < 2 ^ 64 = omega (arith, lt) in
    c.in_default.ensures.cases.0 (IsUtf8-from_ascii c.args.digits.now (rw e (IsAscii-decimal site wide)))

pub returns-in_default-parse : goal.returns-in_default-parse
returns-in_default-parse c = λ site lt e.
    let wide : site < 2 ^ 64 = omega (arith, lt) in
    let text = c.in-Ok.ensures.cases.0 in
    c.in_default-parse.not-Ok site (parse-decimal 16 site c.in-Ok.text.now c.parse.result lt wide (text ∙ e) c.parse.ensures.value.0)

pub returns : goal.returns
returns c = λ site lt e.
    let wide : site < 2 ^ 64 = omega (arith, lt) in
    let text = c.in-Ok.ensures.cases.0 in
    let read = parse-decimal 16 site c.in-Ok.text.now c.parse.result lt wide (text ∙ e) c.parse.ensures.value.0 in
    let is = c.in-Ok-parse.is in
    let same : site ≡ c.in-Ok-parse.site = cc in
    let no = c.if-is_same.false in
    let yes = c.is_same.ensures.1 (c.as_bytes.ensures.value ∙ c.format.ensures.text ∙ ap decimal (sym same) ∙ sym e) in cc
