use Rattle.std.proofs.Common.{◌++◌, ◌∙◌, [], ap, map, refl, rules, sym}
use Rattle.std.specs.Option.{option_map}
use Rattle.std.proofs.lemmas.List.{append-nil}
use Rattle.footer_text.specs.Footers.{AreCollected}
use Rattle.footer_text.proofs.Collected.{collected_footers}
use Rattle.footer_text.proofs.LineCuts.{lines_left}
use Rattle.footer_text.proofs.depend.depends.Goals as goal

pub loop-rest-init : goal.loop-rest-init
loop-rest-init g c =
    let first : AreCollected c.args.bases.now c.args.change [] c.new.result.items (map (λ value. value.now) c.new-2.result.items) = search rules in
    ([], first, refl)

pub returns : goal.returns
returns g c =
    let seen = c.loop-rest.invariant in
    let over = ap (λ rest. seen.0 ++ lines_left (option_map (λ text. text.now) rest)) c.in_default.is in
    collected_footers _ _ _ seen.0 _ _ _ _ seen.1 (sym (over ∙ append-nil seen.0) ∙ seen.2) c.sort_unstable.ensures.permutation c.sort_unstable.ensures.sorted c.dedup.ensures.filtered
