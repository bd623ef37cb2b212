use Rattle.std.proofs.Common.{◌≡◌, ◌++◌, flat_map, string_bytes, take}
use Rattle.page_text.specs.Parts.{part_text}
use Rattle.page_text.proofs.lines.push_parts.Given as goal

-- the parts so far are added
abbrev pub invariant-loop-part : goal.invariant-loop-part
invariant-loop-part l =
    string_bytes l.text ≡ string_bytes l.initial.text ++ flat_map part_text (take l.part-index l.parts)
