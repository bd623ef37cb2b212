use Rattle.std.proofs.Common.{inl, inr, sym, subst, List}
use Rattle.std.proofs.lemmas.Result.{IfOk-weaker}
use Rattle.std.specs.Prelude.{Contains}
use Rattle.ready_core.specs.Verdicts.{items_out}
use Rattle.ready_core.specs.declared.verdicts.Left.{Left}
use Rattle.state_core.specs.declared.item.Item.{Item}
use Rattle.commands.specs.Answers.{IsLeftSo}
use Rattle.why_text.specs.Among.{among, not_among}
use Rattle.commands.proofs.item.standing_in.Goals as goal

pub left_in-requires-clause-there : goal.left_in-requires-clause-there
left_in-requires-clause-there c =
    let waits = subst (λ (items : List Item). ¬ Contains items c.args.item) c.ready.ensures (not_among c.ready.result.now c.args.item c.if-contains.ensures.cases) in
    subst (λ (out : List Left). Contains (items_out out) c.args.item) (sym c.out.ensures) (c.requires.there waits)

pub returns-then-contains : goal.returns-then-contains
returns-then-contains c =
    let ready = subst (λ (items : List Item). Contains items c.args.item) c.ready.ensures (among c.ready.result.now c.args.item (sym c.if-contains.ensures.value)) in
    IfOk-weaker c.ready_so.result _ _ (λ standing is. inl (is.0, ready, is.1)) c.ready_so.ensures

pub returns : goal.returns
returns c =
    IfOk-weaker c.left_in.result _ _
    (λ standing is. inr (subst (λ (out : List Left). IsLeftSo c.args.format out c.args.item standing.is_ready standing.line.items) c.out.ensures is)) c.left_in.ensures
