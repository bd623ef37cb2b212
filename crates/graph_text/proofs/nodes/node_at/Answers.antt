use Rattle.std.proofs.Common.{◌≡◌, ◌<◌, Contains, Some, get_or, length, map, ap, ◌∙◌, subst, arith}
use Rattle.std.specs.Prelude.{slice_get}
use Rattle.std.proofs.lemmas.List.Elements.{Contains-get_or}
use Rattle.std.proofs.lemmas.Option.{slice_get_within, slice_get-get_or}
use Rattle.walk_core.specs.Digraphs.{ends_of}
use Rattle.state_core.specs.declared.item.Item.{Item}
use Rattle.ready_core.specs.Causes.{item_at}
use Rattle.graph_text.specs.Places.{AreKept, IsShown}
use Rattle.graph_text.proofs.nodes.node_at.Goals as goal

pub items_at-requires : goal.items_at-requires
items_at-requires c = λ k d less.
    let place = get_or c.as_slice.result.now k d in
    let has = subst (λ l. Contains l place) c.as_slice.ensures.value (Contains-get_or c.as_slice.result.now k d less) in
    let shown = ((c.in_ok-ends.ensures.each place).0 has).1 in
    omega (arith, slice_get_within c.args.graph.now.items place shown.item shown.here, ap length c.items-2.ensures)

pub returns : goal.returns
returns c =
    let graph = c.args.graph.now in
    let place = c.args.place in
    let none : Item = record { change = 0; set = 0 } in
    let less : place < length c.items.result.now = omega (arith, c.requires.place, ap length c.items.ensures) in
    record {
      item = subst (λ l. slice_get l place ≡ Some (get_or c.items.result.now place none)) c.items.ensures
          (slice_get-get_or c.items.result.now place none less);
      refusal = c.refusal_of.ensures;
      cycle = c.cycle_at.ensures;
      needs = record {
        places = c.in_ok-ends.ends.items;
        kept = subst (λ l. AreKept (Contains l) (IsShown c.args.state.now graph.items c.args.near.now.ahead.items c.args.near.now.behind.items) c.in_ok-ends.ends.items)
            (c.ends.ensures.row ∙ ap (λ g. ends_of g place) c.digraph.ensures.ends) c.in_ok-ends.ensures;
        needs_are = c.in_ok-needs.ensures ∙ ap (λ l. map (item_at l) c.as_slice.result.now) c.items-2.ensures
            ∙ ap (map (item_at graph.items)) c.as_slice.ensures.value;
      };
      unknown = c.in_ok-unknown.ensures;
    }
