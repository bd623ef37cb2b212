use Rattle.std.proofs.Common.{Some, None, lit<, rules}
use Rattle.std.proofs.lemmas.Str.Pattern.{split_parts}
use Rattle.footer_text.specs.Readings.{SpellsChange, IsNumberAndTail, IsPatch}
use Rattle.footer_text.specs.Cuts.{Lacks-by_index}
use Rattle.footer_text.proofs.Numbers.{answers_same, alone_number, number_and_patch}
use Rattle.footer_text.specs.ReadingLaws.{number_alone, number_before_patch}
use Rattle.footer_text.proofs.reading.read_number.Goals as goal

pub returns-in-None : goal.returns-in-None
returns-in-None c =
    let text = c.args.text.now in
    let lacks = Lacks-by_index 47 text (split_parts 47 text None c.in-None.ensures.cases (lit< tt)) in
    answers_same (SpellsChange text) (IsNumberAndTail text) _ (alone_number text)
    (λ n. number_alone text n lacks) c.change_number.ensures

pub returns-then-not-is_patch : goal.returns-then-not-is_patch
returns-then-not-is_patch c change n =
    let text = c.args.text.now in
    let parts = split_parts 47 text (Some (c.in-Some.digits, c.in-Some.patch)) c.in-Some.ensures.cases (lit< tt) in
    let found = number_before_patch text _ _ parts.0 change (Lacks-by_index 47 _ parts.1) n in
    let patch = found.1 in
    search rules

pub returns-else-not-is_patch : goal.returns-else-not-is_patch
returns-else-not-is_patch c =
    let text = c.args.text.now in
    let parts = split_parts 47 text (Some (c.in-Some.digits, c.in-Some.patch)) c.in-Some.ensures.cases (lit< tt) in
    let lacks = Lacks-by_index 47 _ parts.1 in
    let patch : IsPatch c.in-Some.patch.now = search rules in
    answers_same (SpellsChange c.in-Some.digits.now) (IsNumberAndTail text) _
    (λ n s. number_and_patch text _ _ parts.0 n s patch)
    (λ n q. (number_before_patch text _ _ parts.0 n lacks q).0) c.change_number-in-Some.ensures
