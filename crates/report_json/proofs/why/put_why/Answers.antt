use Rattle.std.proofs.Common.{List, Contains, inl, inr, refl, sym, subst}
use Rattle.std.proofs.lemmas.Result.{on_ok_weaker}
use Rattle.state_core.specs.declared.item.Item.{Item}
use Rattle.why_text.specs.Among.{among, not_among}
use Rattle.report_json.specs.Why.{ready_members}
use Rattle.report_json.proofs.why.put_why.Goals as goal

pub put_left-requires-clause-there : goal.put_left-requires-clause-there
put_left-requires-clause-there c =
    let item = c.args.item in
    (c.requires.judged.out item).1 (
      c.requires.there,
      λ ready. not_among c.ready.result.now item c.if-contains.ensures.cases
          (subst (λ (l : List Item). Contains l item) (sym c.ready.ensures) ((c.requires.judged.ready item).1 ready)),
    )

pub returns-then-contains : goal.returns-then-contains
returns-then-contains c =
    let item = c.args.item in
    let ready = subst (λ (l : List Item). Contains l item) c.ready.ensures (among c.ready.result.now item (sym c.if-contains.ensures.value)) in
    on_ok_weaker c.put_ready.result (λ adds. (ready_members item, adds, inl (ready, refl))) c.put_ready.ensures

pub returns : goal.returns
returns c = on_ok_weaker c.put_left.result (λ left. (left.0, left.1, inr left.2)) c.put_left.ensures
