use Rattle.std.proofs.Common.{◌≡◌, ◌∙◌, Some, decimal}
use Rattle.query_plan.specs.Line.{word_text}
use Rattle.query_plan.proofs.Texts.{lacks_digits, line_made, line_pieces, no_value}
use Rattle.query_plan.proofs.line.likely_text.Goals as goal

pub returns-in_err-time : goal.returns-in_err-time
returns-in_err-time c = λ line fits is.
    absurd (c.in_err-time.ensures (decimal line.time) (word_text line.word) (lacks_digits line.time fits.time)
    (is ∙ line_pieces line))

pub returns-in_err-time-2 : goal.returns-in_err-time-2
returns-in_err-time-2 c = λ line fits is.
    let parts = c.in_ok-time.ensures (decimal line.time) (word_text line.word) (lacks_digits line.time fits.time)
    (is ∙ line_pieces line) in
    absurd (no_value line.time (c.in_err-time-2.ensures line.time fits.time parts.0))

pub returns-in_err-word : goal.returns-in_err-word
returns-in_err-word c = λ line fits is.
    let parts = c.in_ok-time.ensures (decimal line.time) (word_text line.word) (lacks_digits line.time fits.time)
    (is ∙ line_pieces line) in
    absurd (no_value line.word (c.in_err-word.ensures line.word fits.word parts.1))

pub returns : goal.returns
returns c = λ line fits is.
    let parts = c.in_ok-time.ensures (decimal line.time) (word_text line.word) (lacks_digits line.time fits.time)
    (is ∙ line_pieces line) in
    let one : Some c.in_ok-time-2.time ≡ Some line.time = c.in_ok-time-2.ensures line.time fits.time parts.0 in
    let two : Some c.in_ok-word.word ≡ Some line.word = c.in_ok-word.ensures line.word fits.word parts.1 in
    line_made c.in_ok-time-2.time c.in_ok-word.word line (cc (one)) (cc (two))
