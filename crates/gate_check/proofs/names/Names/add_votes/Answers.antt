use Rattle.std.proofs.Common.{◌∙◌, ap, map, string_bytes}
use Rattle.std.specs.BTreeSet.{insert_key}
use Rattle.std.specs.Cmp.Lexicographic.{slice_cmp}
use Rattle.std.specs.Ordering.{nat_cmp}
use Rattle.std.specs.Map.Iter.{deref_pair}
use Rattle.std.proofs.lemmas.Map.Iter.{rest_more, rest_all}
use Rattle.change_core.specs.Parts.{slot_of}
use Rattle.change_core.specs.Slots.{Slot}
use Rattle.gate_check.specs.Names.{known_labels, voters_of, with_each}
use Rattle.gate_check.specs.Shown.{names_shown}
use Rattle.gate_check.proofs.Gathered.{each_done, each_more, slots_of}
use Rattle.gate_check.proofs.names.Names.add_votes.Goals as goal

pub loop-slot-init : goal.loop-slot-init
loop-slot-init c = record {
  labels = ap (λ l. with_each (names_shown c.args.self.now).labels (known_labels (slots_of l))) c.into_iter-slot-iterator.ensures.into_iter_gives.1;
  voters = ap (λ l. with_each (names_shown c.args.self.now).voters (voters_of (slots_of l))) c.into_iter-slot-iterator.ensures.into_iter_gives.1;
}

pub loop-slot-preserved : goal.loop-slot-preserved
loop-slot-preserved c =
    let first = ap (λ l. slots_of (map (λ pair. (slot_of pair.0, (pair.1.0, pair.1.1))) l)) (rest_more deref_pair _ _ _ _ c.in-Some.is c.next.ensures.steps) in
    record {
      labels = each_more (λ (slot : Slot). slot.label) _ _ _ (slot_of c.in-Some.slot.now) _ _ first
          (c.in_ok-add.ensures ∙ ap (insert_key (slice_cmp nat_cmp) (map string_bytes c.loop-slot.self.labels.keys)) c.as_str.ensures.value) c.loop-slot.invariant.labels;
      voters = each_more (λ (slot : Slot). slot.voter) _ _ _ (slot_of c.in-Some.slot.now) _ _ first
          (c.in_ok-add-2.ensures ∙ ap (insert_key (slice_cmp nat_cmp) (map string_bytes c.loop-slot.self.voters.keys)) c.as_str-in-loop-slot.ensures.value) c.loop-slot.invariant.voters;
    }

pub returns-clause-labels : goal.returns-clause-labels
returns-clause-labels c =
    let none = ap (λ l. slots_of (map (λ pair. (slot_of pair.0, (pair.1.0, pair.1.1))) l)) (rest_all deref_pair _ _ _ c.in-None.is c.next.ensures.steps) in
    each_done (λ (slot : Slot). slot.label) _ _ _ none c.loop-slot.invariant.labels

pub returns-clause-voters : goal.returns-clause-voters
returns-clause-voters c =
    let none = ap (λ l. slots_of (map (λ pair. (slot_of pair.0, (pair.1.0, pair.1.1))) l)) (rest_all deref_pair _ _ _ c.in-None.is c.next.ensures.steps) in
    each_done (λ (slot : Slot). slot.voter) _ _ _ none c.loop-slot.invariant.voters
