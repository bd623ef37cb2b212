use Rattle.std.proofs.Common.{◌≡◌, ◌++◌, string_bytes}
use Rattle.std.specs.Prelude.{IsUtf8}
use Rattle.markup_text.specs.Html.{html_of}
use Rattle.markup_text.proofs.writing.push_text.Given as goal

-- the HTML so far, and what is made of the characters that are left
abbrev pub invariant-loop-letter : goal.invariant-loop-letter
invariant-loop-letter l = record {
  can_next : (goal.iterator-loop-letter).can_next l.letter-iterator;
  is_finite : (goal.iterator-loop-letter).is_finite l.letter-iterator;
  text : IsUtf8 l.letter-iterator.rest.now;
  so_far : string_bytes l.html ++ html_of l.letter-iterator.rest.now ≡ string_bytes l.initial.html ++ html_of l.text;
}
