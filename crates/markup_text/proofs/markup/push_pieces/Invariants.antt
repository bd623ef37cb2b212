use Rattle.std.proofs.Common.{◌≡◌, ◌++◌, flat_map, string_bytes, take}
use Rattle.markup_text.specs.Pieces.{piece_html}
use Rattle.markup_text.proofs.markup.push_pieces.Given as goal

-- the pieces so far are added
abbrev pub invariant-loop-piece : goal.invariant-loop-piece
invariant-loop-piece l =
    string_bytes l.html ≡ string_bytes l.initial.html ++ flat_map piece_html (take l.piece-index l.pieces)
