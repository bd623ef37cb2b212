use Rattle.std.proofs.Common.{◌≡◌, ◌<◌, ◌+◌, ◌∷◌, length, take, drop, arith, sym, subst, ap, ◌∙◌}
use Rattle.std.specs.List.{slice_range}
use Rattle.std.proofs.lemmas.Grind.{common_steps}
use Rattle.std.proofs.lemmas.Str.{lead_after_ascii}
use Rattle.memchr.specs.Find.{NoneBefore, Nowhere, Passes, is_byte}
use Rattle.footer_text.specs.Lines.{lines_of}
use Rattle.footer_text.proofs.LineCuts.{one_line, found_cut, end_is_ascii}
use Rattle.footer_text.proofs.depend.first_line.Goals as goal

pub range_from-requires : goal.range_from-requires
range_from-requires c =
    let text = c.args.text.now in
    let end = c.in-Some.end in
    let found = subst (λ t. NoneBefore (Passes (is_byte 10) t) 0 (length t) end × Passes (is_byte 10) t end) c.as_bytes.ensures.value c.in-Some.ensures in
    let bound : end < length text = found.0.high in
    λ _. (omega arith, lead_after_ascii text end c.utf8.text (end_is_ascii text end found.1))

pub returns-in-Some : goal.returns-in-Some
returns-in-Some c =
    let text = c.args.text.now in
    let end = c.in-Some.end in
    let found = subst (λ t. NoneBefore (Passes (is_byte 10) t) 0 (length t) end × Passes (is_byte 10) t end) c.as_bytes.ensures.value c.in-Some.ensures in
    let bound : end < length text = found.0.high in
    let front : take end text ≡ slice_range text 0 end = grind (arith, common_steps) in (
      found_cut text end found.0 found.1
          ∙ ap (λ l. l ∷ lines_of (drop (end + 1) text)) (front ∙ sym c.range.ensures.value)
          ∙ ap (λ r. c.range.result.now ∷ lines_of r) (sym c.range_from.ensures.value),
      omega (arith, c.range_from.ensures.len),
    )

pub returns-in-None : goal.returns-in-None
returns-in-None c =
    one_line c.args.text.now (subst (λ t. Nowhere (Passes (is_byte 10) t) 0 (length t)) c.as_bytes.ensures.value c.in-None.ensures)
