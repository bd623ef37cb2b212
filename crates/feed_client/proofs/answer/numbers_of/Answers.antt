use Rattle.std.proofs.Common.{rules, ◌≡◌, ◌∙◌, IsUtf8, sym, subst, arith}
use Rattle.std.proofs.lemmas.Str.{IsUtf8-from_ascii}
use Rattle.review_ops.specs.Timestamp.{timestamp_text}
use Rattle.feed_client.proofs.Stamps.{ascii_stamp, not_none, one_value, read_back, stamp_made, stamp_pieces}
use Rattle.feed_client.proofs.answer.numbers_of.Goals as goal

pub returns-in_default : goal.returns-in_default
returns-in_default c = λ stamp numbered is.
    absurd (c.in_default.ensures.cases.0 (subst IsUtf8 (sym is) (IsUtf8-from_ascii (timestamp_text stamp) (ascii_stamp stamp numbered))))

pub returns-in_err-seq : goal.returns-in_err-seq
returns-in_err-seq c = λ stamp numbered is.
    let whole = c.in-Ok.ensures.cases.0 ∙ is ∙ stamp_pieces stamp in
    let one = c.in_ok-time.ensures stamp.time _ numbered.time whole in
    let two = c.in_ok-site.ensures stamp.site _ (omega (arith, numbered.site)) one.1 in
    let three = c.in_ok-start.ensures stamp.start _ (omega (arith, numbered.start)) two.1 in
    let back = read_back _ stamp.seq c.in_ok-start.text.now c.parse.result c.ok.result numbered.seq three.1 c.parse.ensures.value.0 c.ok.ensures.value in
    absurd (not_none c.ok.result stamp.seq back c.in_err-seq.was)

pub returns : goal.returns
returns c = λ stamp numbered is.
    let whole = c.in-Ok.ensures.cases.0 ∙ is ∙ stamp_pieces stamp in
    let one = c.in_ok-time.ensures stamp.time _ numbered.time whole in
    let two = c.in_ok-site.ensures stamp.site _ (omega (arith, numbered.site)) one.1 in
    let three = c.in_ok-start.ensures stamp.start _ (omega (arith, numbered.start)) two.1 in
    let back = read_back _ stamp.seq c.in_ok-start.text.now c.parse.result c.ok.result numbered.seq three.1 c.parse.ensures.value.0 c.ok.ensures.value in
    let site : c.in_ok-ok.field-0 ≡ c.in_ok-site.site = search rules in
    let start : c.in_ok-ok-2.field-0 ≡ c.in_ok-start.start = search rules in
    stamp_made c.new.result c.in_ok-time.time c.in_ok-ok.field-0 c.in_ok-ok-2.field-0 c.in_ok-seq.seq c.new.ensures.none c.new.ensures.some stamp numbered one.0 (site ∙ two.0) (start ∙ three.0) (one_value c.ok.result c.in_ok-seq.seq stamp.seq c.in_ok-seq.was back)
