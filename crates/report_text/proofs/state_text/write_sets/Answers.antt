use Rattle.std.proofs.Common.{◌++◌, map, flat_map, ap, string_bytes}
use Rattle.std.specs.Map.Iter.{deref_pair}
use Rattle.std.specs.FinMap.{entries}
use Rattle.std.proofs.lemmas.Map.Iter.{rest_more, rest_all}
use Rattle.change_core.specs.Parts.{patch_of, sets_shown}
use Rattle.report_text.specs.StateText.{set_line}
use Rattle.report_text.proofs.StateLines.{lines_more, lines_done}
use Rattle.report_text.proofs.state_text.write_sets.Goals as goal

pub loop-set-init : goal.loop-set-init
loop-set-init g c = ap (λ l. string_bytes c.args.text.now ++ flat_map (set_line c.args.number) l) c.into_iter-set-iterator.ensures.into_iter_gives.1

pub loop-set-preserved : goal.loop-set-preserved
loop-set-preserved g c =
    lines_more (set_line c.args.number)
    (string_bytes c.args.text.now ++ flat_map (set_line c.args.number) (entries (sets_shown c.args.sets.now)))
    (string_bytes c.loop-set.text) (string_bytes c.write_set.new.text)
    (c.in-Some.set.now, (c.in-Some.register.now.0, patch_of c.in-Some.register.now.1)) _ _
    (ap (map (λ pair. (pair.0, (pair.1.0, patch_of pair.1.1)))) (rest_more deref_pair _ _ _ _ c.in-Some.is c.next.ensures.steps)) c.in_ok-write_set.ensures c.loop-set.invariant

pub returns : goal.returns
returns g c =
    lines_done (set_line c.args.number)
    (string_bytes c.args.text.now ++ flat_map (set_line c.args.number) (entries (sets_shown c.args.sets.now)))
    (string_bytes c.loop-set.text) _
    (ap (map (λ pair. (pair.0, (pair.1.0, patch_of pair.1.1)))) (rest_all deref_pair _ _ _ c.in-None.is c.next.ensures.steps)) c.loop-set.invariant
