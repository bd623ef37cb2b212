use Rattle.std.proofs.Common.{◌∙◌, ap, option_map, sym}
use Rattle.std.specs.Prelude.{MatchBool}
use Rattle.gate_check.specs.Unused.{IsUnusedBase, messages_in}
use Rattle.gate_check.proofs.Sought.{zip_more}
use Rattle.gate_check.proofs.unused.unused_bases.Goals as goal

pub loop-place-preserved : goal.loop-place-preserved
loop-place-preserved c =
    let bases = c.args.bases.now in
    let messages = messages_in c.args.state.now in
    zip_more (λ base is_so. MatchBool is_so (IsUnusedBase bases messages base) (¬ IsUnusedBase bases messages base))
    bases c.loop-place.unused.items c.push.new.self.items c.loop-place.place c.unwrap-base.result.now c.is_unused.result
    (sym c.get.ensures ∙ ap (option_map (λ text. text.now)) c.unwrap-base.ensures)
    c.in_ok-push.ensures.items c.loop-place.invariant c.is_unused.ensures
