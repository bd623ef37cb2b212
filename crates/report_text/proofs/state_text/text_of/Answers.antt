use Rattle.std.proofs.Common.{◌≡◌, ◌++◌, ◌∙◌, map, flat_map, ap, string_bytes, rules}
use Rattle.std.specs.Map.Iter.{deref_pair}
use Rattle.std.specs.FinMap.{entries}
use Rattle.std.proofs.lemmas.Map.Iter.{rest_more, rest_all}
use Rattle.state_core.specs.State.{state_shown}
use Rattle.report_text.specs.StateText.{change_text}
use Rattle.report_text.proofs.StateLines.{lines_more, lines_done}
use Rattle.report_text.proofs.state_text.text_of.Goals as goal

pub loop-number-init : goal.loop-number-init
loop-number-init g c =
    ap (λ t. t ++ flat_map change_text (map (λ pair. (pair.0, pair.1)) c.into_iter-number-iterator.result)) c.new-text.ensures.bytes ∙ ap (flat_map change_text) c.into_iter-number-iterator.ensures.into_iter_gives.1

pub loop-number-preserved : goal.loop-number-preserved
loop-number-preserved g c =
    lines_more change_text (flat_map change_text (entries (state_shown c.args.changes.now)))
    (string_bytes c.loop-number.text) (string_bytes c.write_change.new.text)
    (c.in-Some.number.now, c.in-Some.change.now) _ _
    (ap (map (λ pair. (pair.0, pair.1))) (rest_more deref_pair _ _ _ _ c.in-Some.is c.next.ensures.steps)) (c.in_ok-write_change.ensures ∙ ap (λ change. string_bytes c.loop-number.text ++ change_text (c.in-Some.number.now, change)) c.get.ensures) c.loop-number.invariant

pub returns : goal.returns
returns g c =
    let all : string_bytes c.loop-number.text ≡ flat_map change_text (entries (state_shown c.args.changes.now)) =
    lines_done change_text (flat_map change_text (entries (state_shown c.args.changes.now))) (string_bytes c.loop-number.text) _ (ap (map (λ pair. (pair.0, pair.1))) (rest_all deref_pair _ _ _ c.in-None.is c.next.ensures.steps)) c.loop-number.invariant in
    search (rules, all)
