use Rattle.std.proofs.Common.{◌∙◌, ◌+◌, ap, drop, map, sym}
use Rattle.std.specs.Prelude.{◌||◌}
use Rattle.std.proofs.lemmas.List.{take_rest}
use Rattle.command_line.specs.Asking.{has_repeat}
use Rattle.command_line.proofs.Reading.{repeat_first}
use Rattle.command_line.proofs.addresses.has_repeat.Goals as goal

pub loop-number-preserved : goal.loop-number-preserved
loop-number-preserved c =
    let words = c.args.words.now in
    let later = has_repeat (map (λ word. word.now) (drop (c.loop-number.number + 1) words)) in
    let none = rw (take_rest words (c.loop-number.number + 1)) at c.if-is_among.ensures in
    sym (repeat_first words c.loop-number.number _ c.loop-number-test.true ∙ ap (λ b. b || later) (sym none))
    ∙ c.loop-number.invariant

pub returns-then-is_among : goal.returns-then-is_among
returns-then-is_among c =
    let words = c.args.words.now in
    let later = has_repeat (map (λ word. word.now) (drop (c.loop-number.number + 1) words)) in
    let again = rw (take_rest words (c.loop-number.number + 1)) at c.if-is_among.ensures in
    sym (sym c.loop-number.invariant ∙ repeat_first words c.loop-number.number _ c.loop-number-test.true ∙ ap (λ b. b || later) (sym again))
