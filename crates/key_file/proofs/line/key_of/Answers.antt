-- From the last word on, each word of a key's line is the one that was read.
use Rattle.std.proofs.Common.{◌≡◌, ◌++◌, ◌∷◌, ◌∙◌, ap, drop, length, suc, subst, sym}
use Rattle.hex.specs.Hex.{encode_lower}
use Rattle.sealed_line.specs.Words.{last_alike, length-hex, split_alike}
use Rattle.key_file.specs.Files.{role_text}
use Rattle.site_address.specs.Peer.{IsName}
use Rattle.key_file.proofs.Lists.{role_long}
use Rattle.key_file.proofs.line.key_of.Goals as goal

pub returns-in_default : goal.returns-in_default
returns-in_default c = λ key says.
    c.in_default.ensures (key.name ++ 32 ∷ role_text key.role) (encode_lower key.secret) (length-hex key.secret 32 says.good.long) says.text

pub returns-in_default-last_word : goal.returns-in_default-last_word
returns-in_default-last_word c = λ key says.
    let one = last_alike c.args.line.now c.in-Some.front.now c.in-Some.secret.now (key.name ++ 32 ∷ role_text key.role) key.secret 32
    c.in-Some.ensures.0 c.in-Some.ensures.1 says.good.long says.text in
    c.in_default-last_word.ensures key.name (role_text key.role) (role_long key.role) one.0

pub returns-in_default-role_of : goal.returns-in_default-role_of
returns-in_default-role_of c = λ key says.
    let one = last_alike c.args.line.now c.in-Some.front.now c.in-Some.secret.now (key.name ++ 32 ∷ role_text key.role) key.secret 32
    c.in-Some.ensures.0 c.in-Some.ensures.1 says.good.long says.text in
    let long : length (32 ∷ c.in-Some-last_word.role.now) ≡ length (32 ∷ role_text key.role) =
    ap suc (c.in-Some-last_word.ensures.1 ∙ sym (role_long key.role)) in
    let two = split_alike c.in-Some-last_word.name.now (32 ∷ c.in-Some-last_word.role.now) key.name (32 ∷ role_text key.role) long
    (sym c.in-Some-last_word.ensures.0 ∙ one.0) in
    c.in_default-role_of.ensures key.role (ap (drop 1) two.1)

pub returns-in_default-lower_hex : goal.returns-in_default-lower_hex
returns-in_default-lower_hex c = λ key says.
    let one = last_alike c.args.line.now c.in-Some.front.now c.in-Some.secret.now (key.name ++ 32 ∷ role_text key.role) key.secret 32
    c.in-Some.ensures.0 c.in-Some.ensures.1 says.good.long says.text in
    c.in_default-lower_hex.ensures key.secret says.good.long says.good.bytes one.1

pub returns-then-not-is_name : goal.returns-then-not-is_name
returns-then-not-is_name c = λ key says.
    let one = last_alike c.args.line.now c.in-Some.front.now c.in-Some.secret.now (key.name ++ 32 ∷ role_text key.role) key.secret 32
    c.in-Some.ensures.0 c.in-Some.ensures.1 says.good.long says.text in
    let long : length (32 ∷ c.in-Some-last_word.role.now) ≡ length (32 ∷ role_text key.role) =
    ap suc (c.in-Some-last_word.ensures.1 ∙ sym (role_long key.role)) in
    let two = split_alike c.in-Some-last_word.name.now (32 ∷ c.in-Some-last_word.role.now) key.name (32 ∷ role_text key.role) long
    (sym c.in-Some-last_word.ensures.0 ∙ one.0) in
    let no = c.if-not-is_name.true in
    let yes = c.is_name.ensures.1 (subst IsName (sym two.0) says.good.name) in cc
