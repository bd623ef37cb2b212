use Rattle.std.proofs.Common.{◌≡◌, ◌∙◌, Contains, get_or, length, sym, ap, subst, arith, inl, inr}
use Rattle.std.specs.Prelude.{slice_get}
use Rattle.std.proofs.lemmas.Option.{slice_get_within, get_or_from_slice_get}
use Rattle.walk_core.specs.Digraphs.{row as row_in}
use Rattle.state_core.specs.declared.item.Item.{Item}
use Rattle.graph_core.specs.ItemGraph.{IsAt}
use Rattle.watch_core.specs.Namers.{IsNamer}
use Rattle.watch_core.proofs.Spread.{below_or_at}
use Rattle.watch_core.proofs.namers.add_graph.Goals as goal

pub loop-place-preserved : goal.loop-place-preserved
loop-place-preserved c =
    let k = c.loop-place.place in
    let no_item : Item = record { change = 0; set = 0 } in
    record {
      keeps =
          λ number item has. c.in_ok-add_item.ensures.keeps number item (c.loop-place.invariant.keeps number item has);
      names = λ place item row number less at beside has. elim (below_or_at place k less) [
        | inl earlier ↦ c.in_ok-add_item.ensures.keeps number item
            (c.loop-place.invariant.names place item row number earlier at beside has)
        | inr same ↦
            let here = subst (λ p. IsAt c.args.graph.now.items p item) same at in
            let is : get_or c.items.result.now k no_item ≡ item = ap (λ l. get_or l k no_item) c.items.ensures ∙ get_or_from_slice_get c.args.graph.now.items k item no_item here in
            let row_is : c.targets_at.result.now ≡ row = c.targets_at.ensures ∙ ap (λ p. row_in (slice_get c.args.graph.now.targets p)) (sym same) ∙ ap row_in beside in
            subst (IsNamer c.add_item.new.namers number) is
            (c.in_ok-add_item.ensures.names number (subst (λ l. Contains l number) (sym row_is) has))
      ];
    }

pub returns-clause-names : goal.returns-clause-names
returns-clause-names c = λ item row number stands has.
    let within = slice_get_within c.args.graph.now.items stands.place item stands.here in
    c.loop-place.invariant.names stands.place item row number
    (omega (arith, within, ap length c.items-place-end.ensures)) stands.here stands.there has
