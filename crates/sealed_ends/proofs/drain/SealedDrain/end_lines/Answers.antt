use Rattle.std.proofs.Common.{◌≡◌, ◌<◌, ◌+◌, ◌∙◌, ◌++◌, List, ℕ, Some, ap, length, take}
use Rattle.byte_ends.specs.Lines.{as_line}
use Rattle.sealed_line.specs.Sealing.{crossed, sealed, tag_of}
use Rattle.sealed_ends.specs.Opened.{opened_line}
use Rattle.sealed_ends.specs.OpenedFacts.{line_is}
use Rattle.sealed_ends.specs.PlainFacts.{plain-encoded}
use Rattle.sealed_ends.proofs.Writing.{at_count, line_sent, part_sent, plain_part}
use Rattle.sealed_ends.proofs.drain.SealedDrain.end_lines.Goals as goal

pub returns-in-Ok-send-clause-ok : goal.returns-in-Ok-send-clause-ok
returns-in-Ok-send-clause-ok g c =
    let self = c.args.self.now in
    let s = self.seal in
    let text = c.as_slice-2.result.now in
    let line = sealed s (crossed s text) in
    let ok = c.in-Ok-seal.ensures.ok in
    let items : c.as_slice-3.result.now ≡ as_line line =
    c.as_slice-3.ensures.value ∙ ok.0 ∙ ap (λ (l : List ℕ). l ++ as_line line) c.new-line.ensures.items in
    let whole : text ≡ self.held.items ++ c.args.piece.now =
    c.as_slice-2.ensures.value ∙ c.in-Ok.ensures ∙ ap (λ (l : List ℕ). l ++ c.args.piece.now) c.as_slice.ensures.value in
    let opens : opened_line s line ≡ Some (self.held.items ++ c.args.piece.now) = line_is s line text c.in-Ok-seal.ensures.opens ∙ ap Some whole in
    rw (c.requires, ok.1, c.clear.ensures.items)
    (line_sent (at_count s self.first) s.count self.held.items c.args.piece.now self.sent c.send.new.sent (g.D.Drain.taken self.drain)
    (g.D.Drain.taken c.send.new.drain) line (plain-encoded (crossed s text ++ tag_of s (crossed s text))) opens
    (rw items at c.in-Ok-send.ensures.ok))

pub returns-clause-err : goal.returns-clause-err
returns-clause-err g c =
    let self = c.args.self.now in
    let s = self.seal in
    let text = c.as_slice-2.result.now in
    let line = sealed s (crossed s text) in
    let ok = c.in-Ok-seal.ensures.ok in
    let items : c.as_slice-3.result.now ≡ as_line line =
    c.as_slice-3.ensures.value ∙ ok.0 ∙ ap (λ (l : List ℕ). l ++ as_line line) c.new-line.ensures.items in
    let sent = c.in-Err.ensures.err in
    let short : sent.0 < length (as_line line) = rw items at sent.1 in
    rw (c.requires, ok.1)
    (part_sent (at_count s self.first) s.count (s.count + 1) self.held.items self.sent c.send.new.sent (g.D.Drain.taken self.drain)
    (g.D.Drain.taken c.send.new.drain) (take sent.0 (as_line line))
    (plain_part line sent.0 (plain-encoded (crossed s text ++ tag_of s (crossed s text))) short) (rw items at sent.2))
