use Rattle.std.proofs.Common.{◌≡◌, ◌∙◌, ap}
use Rattle.std.specs.Fmt.{decimal}
use Rattle.page_routes.proofs.Reading.{is_read}
use Rattle.page_routes.proofs.number.number_of.Goals as goal

pub returns-in_default : goal.returns-in_default
returns-in_default c other is =
    let read = is_read c.args.text.now c.parse.result other c.parse.ensures.value.0 is in
    let same : other ≡ c.in-Ok.number = cc in
    let written = c.if-is_written.ensures.1 (is.1 ∙ ap decimal same) in cc

pub returns-in_default-2 : goal.returns-in_default-2
returns-in_default-2 c other is =
    let read = is_read c.args.text.now c.parse.result other c.parse.ensures.value.0 is in cc
