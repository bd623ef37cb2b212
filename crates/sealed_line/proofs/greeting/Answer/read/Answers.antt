-- From the last word on, each word of an answer is the one that was read.
use Rattle.std.proofs.Common.{◌≢◌, codes}
use Rattle.hex.specs.Hex.{encode_lower}
use Rattle.sealed_line.specs.Greetings.{greeting_front, key_reply_text}
use Rattle.sealed_line.specs.Words.{last_alike, length-hex}
use Rattle.sealed_line.proofs.Firsts.{no_answer}
use Rattle.sealed_line.proofs.greeting.Answer.read.Goals as goal

pub returns-in_default : goal.returns-in_default
returns-in_default c =
    let no = c.if-is_same.false in
    let other : c.args.line.now ≢ codes "no 12 NoKey" = λ same. let yes = c.is_same.ensures.1 same in cc in
    no_answer c.args.line.now other (λ r proof is of_proof e.
    c.in_default.ensures (key_reply_text r) (encode_lower proof) (length-hex proof 32 of_proof.long) e)

pub returns-in_default-last_word : goal.returns-in_default-last_word
returns-in_default-last_word c =
    let no = c.if-is_same.false in
    let other : c.args.line.now ≢ codes "no 12 NoKey" = λ same. let yes = c.is_same.ensures.1 same in cc in
    no_answer c.args.line.now other (λ r proof is of_proof e.
    let one = last_alike c.args.line.now c.in-Some.before.now c.in-Some.proof.now (key_reply_text r) proof 32
    c.in-Some.ensures.0 c.in-Some.ensures.1 of_proof.long e in
    c.in_default-last_word.ensures (greeting_front r.site) (encode_lower r.nonce) (length-hex r.nonce 16 is.nonce_long) one.0)

pub returns-in_default-site_of : goal.returns-in_default-site_of
returns-in_default-site_of c =
    let no = c.if-is_same.false in
    let other : c.args.line.now ≢ codes "no 12 NoKey" = λ same. let yes = c.is_same.ensures.1 same in cc in
    no_answer c.args.line.now other (λ r proof is of_proof e.
    let one = last_alike c.args.line.now c.in-Some.before.now c.in-Some.proof.now (key_reply_text r) proof 32
    c.in-Some.ensures.0 c.in-Some.ensures.1 of_proof.long e in
    let two = last_alike c.in-Some.before.now c.in-Some-last_word.front.now c.in-Some-last_word.nonce.now (greeting_front r.site) r.nonce 16
    c.in-Some-last_word.ensures.0 c.in-Some-last_word.ensures.1 is.nonce_long one.0 in
    c.in_default-site_of.ensures r.site is.site two.0)

pub returns-in_default-lower_hex : goal.returns-in_default-lower_hex
returns-in_default-lower_hex c =
    let no = c.if-is_same.false in
    let other : c.args.line.now ≢ codes "no 12 NoKey" = λ same. let yes = c.is_same.ensures.1 same in cc in
    no_answer c.args.line.now other (λ r proof is of_proof e.
    let one = last_alike c.args.line.now c.in-Some.before.now c.in-Some.proof.now (key_reply_text r) proof 32
    c.in-Some.ensures.0 c.in-Some.ensures.1 of_proof.long e in
    let two = last_alike c.in-Some.before.now c.in-Some-last_word.front.now c.in-Some-last_word.nonce.now (greeting_front r.site) r.nonce 16
    c.in-Some-last_word.ensures.0 c.in-Some-last_word.ensures.1 is.nonce_long one.0 in
    c.in_default-lower_hex.ensures r.nonce is.nonce_long is.nonce two.1)

pub returns-in_default-lower_hex-2 : goal.returns-in_default-lower_hex-2
returns-in_default-lower_hex-2 c =
    let no = c.if-is_same.false in
    let other : c.args.line.now ≢ codes "no 12 NoKey" = λ same. let yes = c.is_same.ensures.1 same in cc in
    no_answer c.args.line.now other (λ r proof is of_proof e.
    let one = last_alike c.args.line.now c.in-Some.before.now c.in-Some.proof.now (key_reply_text r) proof 32
    c.in-Some.ensures.0 c.in-Some.ensures.1 of_proof.long e in
    c.in_default-lower_hex-2.ensures proof of_proof.long of_proof.bytes one.1)
