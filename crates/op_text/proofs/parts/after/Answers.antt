use Rattle.std.proofs.Common.{◌≡◌, ◌-◌, ◌++◌, length, take, drop, take_all, length-drop, sym, ap, ◌∙◌, arith}
use Rattle.std.proofs.lemmas.List.Prefix.{front_from_reads}
use Rattle.op_text.proofs.parts.after.Goals as goal

pub returns : goal.returns
returns c =
    let text = c.args.text.now in
    let literal = c.args.literal.now in
    let n = length literal in
    let reads = front_from_reads 0 text literal (omega arith) (λ k h. c.loop-i.invariant k (omega arith)) in
    let rest : take (length text - n) (drop n text) ≡ drop n text =
    take_all (length text - n) (drop n text) (omega (arith, length-drop n text)) in
    reads ∙ ap (λ l. literal ++ l) (sym rest)
