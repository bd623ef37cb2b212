use Rattle.std.proofs.Common.{option_and_then, sym, ap, ◌∙◌}
use Rattle.gerrit_events.specs.Trees.{data_in}
use Rattle.gerrit_events.specs.Values.{within}
use Rattle.gerrit_events.proofs.Numbers.{parsed_within, text_is}
use Rattle.gerrit_events.proofs.value.whole_in.Goals as goal

pub returns-in-Some : goal.returns-in-Some
returns-in-Some c = λ low high fits_low fits_high.
    ap (option_and_then (within low high)) c.ok.ensures.value
    ∙ parsed_within low high fits_low fits_high c.in-Some.text.now c.parse.result c.parse.ensures.value.0
    ∙ ap (option_and_then (within low high)) (text_is (data_in c.args.value.now) c.in-Some.text.now
    (sym c.in-Some.ensures))
