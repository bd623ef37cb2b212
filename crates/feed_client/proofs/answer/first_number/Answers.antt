use Rattle.feed_client.proofs.Stamps.{no_split, not_none, one_value, read_back, split_parts_of}
use Rattle.feed_client.proofs.answer.first_number.Goals as goal

pub returns-in_err-digits : goal.returns-in_err-digits
returns-in_err-digits c = λ number rest fits is.
    absurd (no_split number rest c.args.text.now c.split_once.result c.split_once.ensures.cases c.in_err-digits.was fits is)

pub returns-in_err-ok : goal.returns-in_err-ok
returns-in_err-ok c = λ number rest fits is.
    let parts = split_parts_of number rest c.args.text.now c.split_once.result c.in_ok-digits.digits c.in_ok-digits.rest c.split_once.ensures.cases c.in_ok-digits.was fits is in
    let back = read_back _ number c.in_ok-digits.digits.now c.parse.result c.ok.result fits parts.0 c.parse.ensures.value.0 c.ok.ensures.value in
    absurd (not_none c.ok.result number back c.in_err-ok.was)

pub returns : goal.returns
returns c = λ number rest fits is.
    let parts = split_parts_of number rest c.args.text.now c.split_once.result c.in_ok-digits.digits c.in_ok-digits.rest c.split_once.ensures.cases c.in_ok-digits.was fits is in
    let back = read_back _ number c.in_ok-digits.digits.now c.parse.result c.ok.result fits parts.0 c.parse.ensures.value.0 c.ok.ensures.value in
    (one_value c.ok.result c.in_ok-ok.field-0 number c.in_ok-ok.was back, parts.1)
