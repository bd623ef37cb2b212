use Rattle.std.proofs.Common.{◌∙◌, [], ap, flat_map, map, string_bytes}
use Rattle.std.specs.FinMap.{entries}
use Rattle.std.specs.Map.Iter.{deref_pair}
use Rattle.std.proofs.lemmas.Map.Iter.{rest_more, rest_all}
use Rattle.change_core.specs.Change.{Change}
use Rattle.change_core.specs.Slots.{Slot}
use Rattle.gate_check.specs.Names.{known_labels, slots_on, voters_of, with_each}
use Rattle.gate_check.specs.Shown.{names_shown}
use Rattle.gate_check.proofs.Gathered.{each_list_done, each_list_more, slots_of}
use Rattle.gate_check.proofs.names.Names.of_changes.Goals as goal

pub loop-number-init : goal.loop-number-init
loop-number-init c = record {
  labels = ap (λ keys. with_each (map string_bytes keys) (known_labels (flat_map slots_on (map (λ pair. (pair.0, pair.1)) c.into_iter-number-iterator.result)))) c.new.ensures.empty
      ∙ ap (λ l. with_each [] (known_labels (flat_map slots_on l))) c.into_iter-number-iterator.ensures.into_iter_gives.1;
  voters = ap (λ keys. with_each (map string_bytes keys) (voters_of (flat_map slots_on (map (λ pair. (pair.0, pair.1)) c.into_iter-number-iterator.result)))) c.new-2.ensures.empty
      ∙ ap (λ l. with_each [] (voters_of (flat_map slots_on l))) c.into_iter-number-iterator.ensures.into_iter_gives.1;
}

pub loop-number-preserved : goal.loop-number-preserved
loop-number-preserved c =
    let first = ap (map (λ pair. (pair.0, pair.1))) (rest_more deref_pair _ _ _ _ c.in-Some.is c.next.ensures.steps) in
    record {
      labels = each_list_more (λ (slot : Slot). slot.label) slots_on _ _ _ (c.in-Some.number.now, c.in-Some.change.now) _ _ first
          (c.in_ok-add_votes.ensures.labels ∙ ap (λ votes. with_each (names_shown c.loop-number.names).labels (known_labels (slots_of (entries votes)))) (c.all_votes.ensures ∙ ap (λ (change : Change). change.votes) c.get.ensures)) c.loop-number.invariant.labels;
      voters = each_list_more (λ (slot : Slot). slot.voter) slots_on _ _ _ (c.in-Some.number.now, c.in-Some.change.now) _ _ first
          (c.in_ok-add_votes.ensures.voters ∙ ap (λ votes. with_each (names_shown c.loop-number.names).voters (voters_of (slots_of (entries votes)))) (c.all_votes.ensures ∙ ap (λ (change : Change). change.votes) c.get.ensures)) c.loop-number.invariant.voters;
    }

pub returns : goal.returns
returns c =
    let none = ap (map (λ pair. (pair.0, pair.1))) (rest_all deref_pair _ _ _ c.in-None.is c.next.ensures.steps) in
    let labels = each_list_done (λ (slot : Slot). slot.label) slots_on _ _ _ none c.loop-number.invariant.labels in
    let voters = each_list_done (λ (slot : Slot). slot.voter) slots_on _ _ _ none c.loop-number.invariant.voters in
    λ i. record { labels = labels i; voters = voters i }
