use Rattle.std.proofs.Common.{◌≡◌, ◌∙◌, ◌≤◌, ◌<◌, ◌++◌, ◌∷◌, [], List, length, ap, sym, subst, arith, append_assoc}
use Rattle.std.specs.List.{All}
use Rattle.std.proofs.lemmas.List.{append-nil, length_push}
use Rattle.std.proofs.lemmas.Option.{get_or_from_slice_get}
use Rattle.std.proofs.lemmas.List.Elements.{All-head, All-tail, All-same}
use Rattle.review_ops.specs.Operation.{Operation}
use Rattle.replica_core.specs.Lines.{ops_at, ops_of, op_at}
use Rattle.replica_core.specs.Searches.{ops_past}
use Rattle.replica_core.proofs.Lacking.{one_left, nothing_left}
use Rattle.replica_core.proofs.missing.copy_past.Goals as goal

pub loop-place-init : goal.loop-place-init
loop-place-init g c =
    let journal = c.args.arrivals.now.items in
    record {
      whole = ap (λ l. c.args.copies.now.items ++ l)
          (ap (ops_at journal) c.into_iter-place-iterator.ensures.into_iter_gives ∙ c.past-place-items.ensures.ops);
      inside = All-same (λ place. place < length journal) c.into_iter-place-iterator.result c.past-place-items.result c.into_iter-place-iterator.ensures.into_iter_gives c.past-place-items.ensures.inside;
      room = c.requires.room;
    }

pub returns-then-len-limit : goal.returns-then-len-limit
returns-then-len-limit g c =
    let journal = c.args.arrivals.now.items in
    let copies = c.loop-place.copies.items in
    let place = c.in-Some.place.now in
    let rest = c.next.new.self in
    one_left copies (c.args.copies.now.items ++ ops_past c.args.reach (ops_of journal c.args.line.now))
    (ops_at journal rest) (op_at journal place) c.args.limit
    (omega (arith, c.if-len-limit.true, c.len.ensures, c.loop-place.copies.ok.0))
    (ap (λ l. copies ++ ops_at journal l) (sym c.in-Some.ensures.steps) ∙ c.loop-place.invariant.whole)

pub at-requires : goal.at-requires
at-requires g c =
    let journal = c.args.arrivals.now.items in
    All-head (λ place. place < length journal) c.in-Some.place.now c.next.new.self
    (subst (All (λ place. place < length journal)) c.in-Some.ensures.steps c.loop-place.invariant.inside)

pub loop-place-preserved : goal.loop-place-preserved
loop-place-preserved g c =
    let journal = c.args.arrivals.now.items in
    let copies = c.loop-place.copies.items in
    let place = c.in-Some.place.now in
    let rest = c.next.new.self in
    let inside = subst (All (λ p. p < length journal)) c.in-Some.ensures.steps c.loop-place.invariant.inside in
    let op : c.in_ok-copy.field-0 ≡ op_at journal place = c.in_ok-copy.ensures ∙ sym (get_or_from_slice_get journal place _ _ c.at.ensures) in
    let grown : c.push.new.self.items ≡ copies ++ op_at journal place ∷ [] = c.in_ok-push.ensures.items ∙ ap (λ o. copies ++ o ∷ []) op in
    record {
      whole = ap (λ l. l ++ ops_at journal rest) grown
          ∙ append_assoc copies (op_at journal place ∷ []) (ops_at journal rest)
          ∙ ap (λ l. copies ++ ops_at journal l) (sym c.in-Some.ensures.steps) ∙ c.loop-place.invariant.whole;
      inside = All-tail (λ p. p < length journal) place rest inside;
      room = omega (arith, ap length grown, length_push copies (op_at journal place), c.loop-place.invariant.room, c.if-len-limit.false, c.len.ensures, c.loop-place.copies.ok.0);
    }

pub returns : goal.returns
returns g c =
    let journal = c.args.arrivals.now.items in
    let copies = c.loop-place.copies.items in
    let whole = c.args.copies.now.items ++ ops_past c.args.reach (ops_of journal c.args.line.now) in
    let all : copies ≡ whole = sym (append-nil copies) ∙ ap (λ l. copies ++ ops_at journal l) (sym c.in-None.ensures.steps.0) ∙ c.loop-place.invariant.whole in
    let parts = nothing_left whole c.args.limit (subst (λ (l : List Operation). length l ≤ c.args.limit) all c.loop-place.invariant.room) in
    (all ∙ parts.0, parts.1)
