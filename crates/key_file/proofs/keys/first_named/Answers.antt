use Rattle.std.proofs.Common.{◌≡◌, ◌≢◌, ◌∙◌, arith, sym}
use Rattle.key_file.proofs.Lists.{first_at, one_more}
use Rattle.key_file.proofs.keys.first_named.Goals as goal

pub returns-then-is_same : goal.returns-then-is_same
returns-then-is_same c =
    let name = c.args.name.now in
    let same = c.is_same.ensures.0 c.if-is_same.true in
    first_at (λ key. key.name ≡ name) c.args.keys.now c.loop-key.key-index c.key-item.result (omega arith) c.loop-key.invariant c.key-item.is
    (sym c.name.ensures ∙ same)

pub loop-key-preserved : goal.loop-key-preserved
loop-key-preserved c =
    let name = c.args.name.now in
    let no = c.if-is_same.false in
    let other : c.key-item.result.name ≢ name = λ same. let yes = c.is_same.ensures.1 (c.name.ensures ∙ same) in cc in
    one_more (λ key. key.name ≢ name) c.args.keys.now c.loop-key.key-index c.key-item.result (omega arith) c.loop-key.invariant c.key-item.is
    other
