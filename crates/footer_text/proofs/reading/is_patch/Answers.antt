use Rattle.std.proofs.Common.{Some, lit<}
use Rattle.std.proofs.lemmas.Str.Pattern.{strip_suffix_char}
use Rattle.footer_text.proofs.Patches.{patch_before_slash}
use Rattle.footer_text.proofs.reading.is_patch.Goals as goal

pub returns-in-Some : goal.returns-in-Some
returns-in-Some c =
    let slash = strip_suffix_char 47 c.args.patch.now (Some c.in-Some.digits) c.in-Some.ensures.cases (lit< tt) in
    rw c.is_some.ensures (patch_before_slash _ _ slash _ c.numeral.ensures)
