use Rattle.std.proofs.Common.{◌≡◌, ◌∙◌, ap, length, sym}
use Rattle.std.proofs.lemmas.List.{length-replicate}
use Rattle.hex.specs.Hex.{encode_lower}
use Rattle.sealed_line.proofs.Firsts.{decodes}
use Rattle.sealed_line.proofs.digits.lower_hex.Goals as goal

pub returns-in_default : goal.returns-in_default
returns-in_default g c = λ bytes long is e.
    let room : length c.as_mut_slice.result.now ≡ g.row.N = rw c.as_mut_slice.ensures.value (length-replicate g.row.N 0) in
    let back = decodes c.args.text.now bytes c.decode_to_slice.new.out (length c.as_mut_slice.result.now) g.row.N c.decode_to_slice.result
    c.decode_to_slice.ensures.value room long is e in
    c.in_default.not-Ok tt back.0

pub returns : goal.returns
returns g c = λ bytes long is e.
    let room : length c.as_mut_slice.result.now ≡ g.row.N = rw c.as_mut_slice.ensures.value (length-replicate g.row.N 0) in
    let back = decodes c.args.text.now bytes c.decode_to_slice.new.out (length c.as_mut_slice.result.now) g.row.N c.decode_to_slice.result
    c.decode_to_slice.ensures.value room long is e in
    let written = rw c.in-Ok-encode_to_slice.is at c.encode_to_slice.ensures.written in
    let no = c.if-is_same.false in
    let out = c.as_slice.ensures in
    let yes = c.is_same.ensures.1 (e ∙ ap encode_lower (sym back.1) ∙ ap encode_lower (sym out) ∙ sym written) in cc
