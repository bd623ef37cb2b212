use Rattle.std.proofs.Common.{None, Some, ◌≡◌, map, codes, lit<, rules}
use Rattle.std.specs.Char.{to_ascii_lowercase}
use Rattle.std.proofs.lemmas.Str.Pattern.{split_parts}
use Rattle.footer_text.specs.Cuts.{Lacks, Lacks-by_index, Lacks-middle}
use Rattle.footer_text.specs.LineLaws.{word_first}
use Rattle.footer_text.proofs.footer.footer_value.Goals as goal

pub returns-in_err-word : goal.returns-in_err-word
returns-in_err-word c =
    let none : Lacks 58 c.args.line.now = Lacks-by_index 58 c.args.line.now (split_parts 58 c.args.line.now None c.in_err-word.ensures.cases (lit< tt)) in
    rw c.from_residual.ensures (λ value footer. Lacks-middle 58 footer.word footer.rest (rw footer.whole at none))

pub returns-then-not-eq_ignore_ascii_case : goal.returns-then-not-eq_ignore_ascii_case
returns-then-not-eq_ignore_ascii_case c value footer =
    let parts = split_parts 58 c.args.line.now (Some (c.in_ok-word.word, c.in_ok-word.rest)) c.in_ok-word.ensures.cases (lit< tt) in
    let is_word : map to_ascii_lowercase c.in_ok-word.word.now ≡ codes "depends-on" = word_first _ _ _ value parts.0 (Lacks-by_index 58 _ parts.1) footer in
    search rules

pub returns-then-not-begins_with_d : goal.returns-then-not-begins_with_d
returns-then-not-begins_with_d c = c.begins_with_d.ensures (search rules)
