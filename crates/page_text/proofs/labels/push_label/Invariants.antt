use Rattle.std.proofs.Common.{◌≡◌, ◌++◌, string_bytes}
use Rattle.std.specs.Prelude.{IsUtf8}
use Rattle.page_text.specs.Labels.{label_value}
use Rattle.page_text.proofs.labels.push_label.Given as goal

-- what is written so far, and what is made of the characters that are left
abbrev pub invariant-loop-letter : goal.invariant-loop-letter
invariant-loop-letter l = record {
  can_next : (goal.iterator-loop-letter).can_next l.letter-iterator;
  is_finite : (goal.iterator-loop-letter).is_finite l.letter-iterator;
  text : IsUtf8 l.letter-iterator.rest.now;
  so_far : string_bytes l.text ++ label_value l.letter-iterator.rest.now ≡ string_bytes l.initial.text ++ label_value l.value;
}
