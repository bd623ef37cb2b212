use Rattle.std.proofs.Common.{◌≡◌, ◌≢◌, ◌++◌, ℕ, List, map, Option, Some, None, true, not, is_some, MatchOption, subst}
use Rattle.std.proofs.Common.{sym, ◌∙◌, ap, append_assoc, append-nil}
use Rattle.std.proofs.lemmas.List.{map-append}
use Rattle.std.proofs.lemmas.Bool.{false≢true}
use Rattle.std.proofs.lemmas.Map.Iter.{rest_more, rest_all}
use Rattle.std.specs.BTreeMap.{keys}
use Rattle.std.specs.Map.Iter.{deref}
use Rattle.op_text.specs.declared.field.Field.{Field}
use Rattle.op_text.specs.Field.{key_of}
use Rattle.op_text.specs.Shape.{IsFieldKey}
use Rattle.op_text.proofs.Entries.{AreFieldKeys-push, key_found, named_before, named_all}
use Rattle.op_text.proofs.shape.first_stranger.Goals as goal

IsFieldKey-from_named : (found : Option Field) (text : List ℕ)
    → MatchOption found ((field : Field) → key_of field ≢ text) (λ field. key_of field ≡ text) → is_some found ≡ true
    → IsFieldKey text
IsFieldKey-from_named None text h some = absurd (false≢true some)
IsFieldKey-from_named (Some field) text h some = (field, h)

pub returns-then-is_none-clause-present : goal.returns-then-is_none-clause-present
returns-then-is_none-clause-present c =
    let turn = rest_more deref c.loop-key.key-iterator c.next.new.self c.next.result c.in-Some.key c.in-Some.is c.next.ensures.steps in
    let split = subst (λ rest. map deref c.loop-key.yielded ++ rest ≡ keys c.args.members.now) turn c.loop-key.invariant.so_far in
    rw c.as_str-then-is_none.ensures.value
    (key_found c.args.members.now.entries (map deref c.loop-key.yielded) c.next.new.self c.in-Some.key.now split)

pub returns-then-is_none-clause-first : goal.returns-then-is_none-clause-first
returns-then-is_none-clause-first c =
    let turn = rest_more deref c.loop-key.key-iterator c.next.new.self c.next.result c.in-Some.key c.in-Some.is c.next.ensures.steps in
    let split = subst (λ rest. map deref c.loop-key.yielded ++ rest ≡ keys c.args.members.now) turn c.loop-key.invariant.so_far in
    rw c.as_str-then-is_none.ensures.value
    (named_before c.args.members.now.entries (map deref c.loop-key.yielded) c.next.new.self c.in-Some.key.now c.keys-key-items.ensures.ordered split c.loop-key.invariant.named)

pub loop-key-preserved : goal.loop-key-preserved
loop-key-preserved c =
    let turn = rest_more deref c.loop-key.key-iterator c.next.new.self c.next.result c.in-Some.key c.in-Some.is c.next.ensures.steps in
    let split = subst (λ rest. map deref c.loop-key.yielded ++ rest ≡ keys c.args.members.now) turn c.loop-key.invariant.so_far in
    let here = IsFieldKey-from_named c.named.result c.as_str.result.now c.named.ensures (c.is_none.ensures ∙ ap not c.if-is_none.false) in
    record {
      can_next = tt;
      is_finite = tt;
      so_far = rw (map-append, append_assoc) split;
      named = rw map-append (AreFieldKeys-push (map deref c.loop-key.yielded) c.in-Some.key.now c.loop-key.invariant.named (subst IsFieldKey c.as_str.ensures.value here));
    }

pub returns-clause-none : goal.returns-clause-none
returns-clause-none c =
    let over = rest_all deref c.loop-key.key-iterator c.next.new.self c.next.result c.in-None.is c.next.ensures.steps in
    let all = subst (λ rest. map deref c.loop-key.yielded ++ rest ≡ keys c.args.members.now) over c.loop-key.invariant.so_far in
    named_all c.args.members.now.entries (map deref c.loop-key.yielded)
    (sym (append-nil (map deref c.loop-key.yielded)) ∙ all) c.loop-key.invariant.named
