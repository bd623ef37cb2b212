use Rattle.std.proofs.Common.{◌≡◌, ◌++◌, string_bytes, sym, ap, ◌∙◌, subst, rules}
use Rattle.std.specs.Prelude.{IsUtf8}
use Rattle.op_text.specs.Spelling.{SpellsOperation}
use Rattle.op_text.specs.Text.{operation_text}
use Rattle.op_text.proofs.write.write_op.Goals as goal

pub unwrap-requires : goal.unwrap-requires
unwrap-requires c =
    let is = c.in_ok-append_op.ensures.ok ∙ ap (λ l. l ++ operation_text c.args.op.now) c.in_ok-page.ensures.items in
    c.from_utf8.ensures.succeeds (subst IsUtf8 (sym is) c.append_op.ensures.spells.spells.object.utf8)

pub returns-clause-spells : goal.returns-clause-spells
returns-clause-spells c =
    let is : string_bytes c.unwrap.result ≡ operation_text c.args.op.now = search rules in
    subst (λ text. SpellsOperation text c.args.op.now) (sym is) c.append_op.ensures.spells
