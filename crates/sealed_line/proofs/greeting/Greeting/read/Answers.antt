-- From the last word on, each word of a greeting is the one that was read.
use Rattle.hex.specs.Hex.{encode_lower}
use Rattle.sealed_line.specs.Greetings.{greeting_front, then_hex}
use Rattle.sealed_line.specs.Words.{last_alike, length-hex}
use Rattle.sealed_line.proofs.greeting.Greeting.read.Goals as goal

pub returns-in_default : goal.returns-in_default
returns-in_default c = λ g is e.
    c.in_default.ensures (then_hex (greeting_front g.site) g.id) (encode_lower g.nonce) (length-hex g.nonce 16 is.nonce_long) e

pub returns-in_default-last_word : goal.returns-in_default-last_word
returns-in_default-last_word c = λ g is e.
    let one = last_alike c.args.line.now c.in-Some.before.now c.in-Some.nonce.now (then_hex (greeting_front g.site) g.id) g.nonce 16
    c.in-Some.ensures.0 c.in-Some.ensures.1 is.nonce_long e in
    c.in_default-last_word.ensures (greeting_front g.site) (encode_lower g.id) (length-hex g.id 8 is.id_long) one.0

pub returns-in_default-site_of : goal.returns-in_default-site_of
returns-in_default-site_of c = λ g is e.
    let one = last_alike c.args.line.now c.in-Some.before.now c.in-Some.nonce.now (then_hex (greeting_front g.site) g.id) g.nonce 16
    c.in-Some.ensures.0 c.in-Some.ensures.1 is.nonce_long e in
    let two = last_alike c.in-Some.before.now c.in-Some-last_word.front.now c.in-Some-last_word.id.now (greeting_front g.site) g.id 8
    c.in-Some-last_word.ensures.0 c.in-Some-last_word.ensures.1 is.id_long one.0 in
    c.in_default-site_of.ensures g.site is.site two.0

pub returns-in_default-lower_hex : goal.returns-in_default-lower_hex
returns-in_default-lower_hex c = λ g is e.
    let one = last_alike c.args.line.now c.in-Some.before.now c.in-Some.nonce.now (then_hex (greeting_front g.site) g.id) g.nonce 16
    c.in-Some.ensures.0 c.in-Some.ensures.1 is.nonce_long e in
    let two = last_alike c.in-Some.before.now c.in-Some-last_word.front.now c.in-Some-last_word.id.now (greeting_front g.site) g.id 8
    c.in-Some-last_word.ensures.0 c.in-Some-last_word.ensures.1 is.id_long one.0 in
    c.in_default-lower_hex.ensures g.id is.id_long is.id two.1

pub returns-in_default-lower_hex-2 : goal.returns-in_default-lower_hex-2
returns-in_default-lower_hex-2 c = λ g is e.
    let one = last_alike c.args.line.now c.in-Some.before.now c.in-Some.nonce.now (then_hex (greeting_front g.site) g.id) g.nonce 16
    c.in-Some.ensures.0 c.in-Some.ensures.1 is.nonce_long e in
    c.in_default-lower_hex-2.ensures g.nonce is.nonce_long is.nonce one.1
