use Rattle.std.proofs.Common.{◌≡◌, ◌++◌, string_bytes, sym, ap, ◌∙◌, subst, rules}
use Rattle.std.specs.Prelude.{IsUtf8}
use Rattle.op_text.specs.Spelling.{SpellsBody}
use Rattle.op_text.specs.Text.{body_text}
use Rattle.op_text.proofs.write.write_body.Goals as goal

pub unwrap-requires : goal.unwrap-requires
unwrap-requires c =
    let is = c.in_ok-append_body.ensures.ok ∙ ap (λ l. l ++ body_text c.args.body.now) c.in_ok-page.ensures.items in
    c.from_utf8.ensures.succeeds (subst IsUtf8 (sym is) c.append_body.ensures.spells.1.object.utf8)

pub returns-clause-spells : goal.returns-clause-spells
returns-clause-spells c =
    let is : string_bytes c.unwrap.result ≡ body_text c.args.body.now = search rules in
    subst (λ text. SpellsBody text c.args.body.now) (sym is) c.append_body.ensures.spells
