use Rattle.std.proofs.Common.{◌∙◌, Some, None, lit<, sym, append_assoc, codes}
use Rattle.std.proofs.lemmas.Str.Pattern.{split_parts}
use Rattle.enqueue_lines.proofs.template.closed.Goals as goal

pub returns-in_default-clause-refused : goal.returns-in_default-clause-refused
returns-in_default-clause-refused c = λ state. split_parts 125 c.args.after.now None c.in_default.ensures.cases (lit< tt)

pub returns-in-None-clause-refused : goal.returns-in-None-clause-refused
returns-in-None-clause-refused c =
    let parts = split_parts 125 c.args.after.now (Some (c.in-Some.name, c.in-Some.next)) c.in-Some.ensures.cases (lit< tt) in
    λ state. (c.in-Some.next.now, parts.0 ∙ sym (append_assoc c.in-Some.name.now (codes "}") c.in-Some.next.now), parts.1, c.in-None.ensures)
