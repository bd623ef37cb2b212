use Rattle.std.proofs.Common.{ap, map, subst, sym}
use Rattle.std.specs.Map.Iter.{deref_pair}
use Rattle.std.proofs.lemmas.Map.Iter.{rest_more, rest_all}
use Rattle.change_core.specs.Parts.{patch_of}
use Rattle.gate_check.specs.Unused.{HasFooter, IsSought, SomeIs, messages_of}
use Rattle.gate_check.proofs.Sought.{is_here, is_later, none_left, not_here, not_if, so_if}
use Rattle.gate_check.proofs.unused.Sought.is_in_change.Goals as goal

pub loop-set-init : goal.loop-set-init
loop-set-init c =
    let same = ap messages_of c.into_iter-set-iterator.ensures.into_iter_gives.1 in
    record {
      there = subst (SomeIs (HasFooter (IsSought c.args.self))) (sym same);
      back = subst (SomeIs (HasFooter (IsSought c.args.self))) same;
    }

pub loop-set-preserved : goal.loop-set-preserved
loop-set-preserved c =
    let P = HasFooter (IsSought c.args.self) in
    let first = ap (λ l. messages_of (map (λ pair. (pair.0, (pair.1.0, patch_of pair.1.1))) l)) (rest_more deref_pair _ _ _ _ c.in-Some.is c.next.ensures.steps) in
    let none = not_if (P (patch_of c.in-Some.register.now.1).message) c.is_in_register.result c.if-is_in_register.false c.is_in_register.ensures in
    record {
      there = λ some. not_here P _ _ _ first none (c.loop-set.invariant.there some);
      back = λ some. c.loop-set.invariant.back (is_later P _ _ _ first some);
    }

pub returns-then-is_in_register : goal.returns-then-is_in_register
returns-then-is_in_register c =
    let P = HasFooter (IsSought c.args.self) in
    let first = ap (λ l. messages_of (map (λ pair. (pair.0, (pair.1.0, patch_of pair.1.1))) l)) (rest_more deref_pair _ _ _ _ c.in-Some.is c.next.ensures.steps) in
    c.loop-set.invariant.back
    (is_here P _ _ _ first (so_if (P (patch_of c.in-Some.register.now.1).message) c.is_in_register.result c.if-is_in_register.true c.is_in_register.ensures))

pub returns : goal.returns
returns c = λ some.
    none_left (HasFooter (IsSought c.args.self)) _
    (ap (λ l. messages_of (map (λ pair. (pair.0, (pair.1.0, patch_of pair.1.1))) l)) (rest_all deref_pair _ _ _ c.in-None.is c.next.ensures.steps))
    (c.loop-set.invariant.there some)
