use Rattle.std.proofs.Common.{Contains, take, get_or, not, ap, subst, sym, arith, inl, inr, ◌∙◌}
use Rattle.std.proofs.lemmas.List.{take_all, take_more}
use Rattle.std.proofs.lemmas.List.Elements.{Contains-push_cases}
use Rattle.state_core.specs.declared.item.Item.{Item}
use Rattle.state_core.specs.ItemLaws.{items_apart}
use Rattle.watch_core.proofs.places.place_in.Goals as goal

pub loop-place-preserved : goal.loop-place-preserved
loop-place-preserved c = λ other has same.
    let items = c.args.items.now in
    let no_item : Item = record { change = 0; set = 0 } in
    elim (Contains-push_cases (take c.loop-place.place items) (get_or items c.loop-place.place no_item) other (subst (λ l. Contains l other) (take_more items c.loop-place.place no_item (omega arith)) has)) [
      | inl earlier ↦ c.loop-place.invariant other earlier same
      | inr is ↦ items_apart (get_or items c.loop-place.place no_item) c.args.item (not c.eq.result) (ap not c.eq.ensures)
          (ap not c.if-eq.false) (is ∙ same)
    ]

pub returns : goal.returns
returns c = λ has. c.loop-place.invariant c.args.item
    (subst (λ l. Contains l c.args.item) (sym (take_all c.loop-place.place c.args.items.now (omega arith))) has)
    (λ i. c.args.item)
