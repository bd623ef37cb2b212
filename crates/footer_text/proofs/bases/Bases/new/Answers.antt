use Rattle.std.proofs.Common.{◌≡◌, true, string_bytes, is_ok, rules}
use Rattle.footer_text.proofs.Bads.{kept_more}
use Rattle.footer_text.proofs.bases.Bases.new.Goals as goal

pub loop-text-preserved : goal.loop-text-preserved
loop-text-preserved g c =
    let ok : is_ok c.push.result ≡ true = search rules in
    kept_more string_bytes _ _ c.in-Ok.text c.args.texts.now c.loop-text.text-index _ c.loop-text-test.true c.loop-text.invariant c.in-Ok.ensures.ok (rw ok at c.push.ensures.items)
