use Rattle.std.proofs.Common.{◌≡◌, ◌≢◌, ◌∙◌, ap, arith, sym}
use Rattle.sealed_line.specs.Keys.{id_under}
use Rattle.key_file.proofs.Lists.{first_at, one_more}
use Rattle.key_file.proofs.keys.first_with.Goals as goal

pub returns-then-is_same : goal.returns-then-is_same
returns-then-is_same c =
    let id = c.args.id.now in
    let is : c.as_slice.result.now ≡ id_under c.key-item.result.secret = c.as_slice.ensures ∙ c.key_id.ensures ∙ ap id_under c.secret.ensures in
    let same = c.is_same.ensures.0 c.if-is_same.true in
    first_at (λ key. id_under key.secret ≡ id) c.args.keys.now c.loop-key.key-index c.key-item.result (omega arith) c.loop-key.invariant c.key-item.is
    (sym is ∙ same ∙ c.as_slice-in-loop-key.ensures)

pub loop-key-preserved : goal.loop-key-preserved
loop-key-preserved c =
    let id = c.args.id.now in
    let is : c.as_slice.result.now ≡ id_under c.key-item.result.secret = c.as_slice.ensures ∙ c.key_id.ensures ∙ ap id_under c.secret.ensures in
    let no = c.if-is_same.false in
    let other : id_under c.key-item.result.secret ≢ id =
    λ same. let yes = c.is_same.ensures.1 (is ∙ same ∙ sym c.as_slice-in-loop-key.ensures) in cc in
    one_more (λ key. id_under key.secret ≢ id) c.args.keys.now c.loop-key.key-index c.key-item.result (omega arith) c.loop-key.invariant c.key-item.is
    other
