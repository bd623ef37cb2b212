use Rattle.change_core.specs.Change.{Change}
use Rattle.std.proofs.Common.{◌∙◌, ap, flat_map, map, subst, sym}
use Rattle.std.specs.FinMap.{entries}
use Rattle.std.specs.Map.Iter.{deref_pair}
use Rattle.std.specs.Prelude.{MatchBool}
use Rattle.std.proofs.lemmas.Map.Iter.{rest_more, rest_all}
use Rattle.gate_check.specs.Unused.{HasFooter, IsSought, SomeIs, messages_of, messages_on}
use Rattle.gate_check.proofs.Sought.{is_in_later, is_in_part, none_left, not_if, not_in_part, so_if}
use Rattle.gate_check.proofs.unused.Sought.is_in_record.Goals as goal

pub loop-number-init : goal.loop-number-init
loop-number-init c =
    let same = ap (flat_map messages_on) c.into_iter-number-iterator.ensures.into_iter_gives.1 in
    record {
      there = subst (SomeIs (HasFooter (IsSought c.args.self))) (sym same);
      back = subst (SomeIs (HasFooter (IsSought c.args.self))) same;
    }

pub loop-number-preserved : goal.loop-number-preserved
loop-number-preserved c =
    let P = HasFooter (IsSought c.args.self) in
    let first = ap (map (λ pair. (pair.0, pair.1))) (rest_more deref_pair _ _ _ _ c.in-Some.is c.next.ensures.steps) in
    let told = subst (λ sets. MatchBool c.is_in_change.result (SomeIs P (messages_of (entries sets))) (¬ SomeIs P (messages_of (entries sets)))) (c.sets.ensures ∙ ap (λ (change : Change). change.sets) c.get.ensures) c.is_in_change.ensures in
    let none = not_if (SomeIs P (messages_on (c.in-Some.number.now, c.in-Some.change.now))) c.is_in_change.result c.if-is_in_change.false told in
    record {
      there = λ some. not_in_part P messages_on (c.in-Some.number.now, c.in-Some.change.now) _ _ first none (c.loop-number.invariant.there some);
      back = λ some. c.loop-number.invariant.back (is_in_later P messages_on (c.in-Some.number.now, c.in-Some.change.now) _ _ first some);
    }

pub returns-then-is_in_change : goal.returns-then-is_in_change
returns-then-is_in_change c =
    let P = HasFooter (IsSought c.args.self) in
    let first = ap (map (λ pair. (pair.0, pair.1))) (rest_more deref_pair _ _ _ _ c.in-Some.is c.next.ensures.steps) in
    let told = subst (λ sets. MatchBool c.is_in_change.result (SomeIs P (messages_of (entries sets))) (¬ SomeIs P (messages_of (entries sets)))) (c.sets.ensures ∙ ap (λ (change : Change). change.sets) c.get.ensures) c.is_in_change.ensures in
    c.loop-number.invariant.back
    (is_in_part P messages_on (c.in-Some.number.now, c.in-Some.change.now) _ _ first (so_if (SomeIs P (messages_on (c.in-Some.number.now, c.in-Some.change.now))) c.is_in_change.result c.if-is_in_change.true told))

pub returns : goal.returns
returns c = λ some.
    none_left (HasFooter (IsSought c.args.self)) _
    (ap (λ l. flat_map messages_on (map (λ pair. (pair.0, pair.1)) l)) (rest_all deref_pair _ _ _ c.in-None.is c.next.ensures.steps))
    (c.loop-number.invariant.there some)
