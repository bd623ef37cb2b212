-- What is kept of a commit message. Gerrit has no limit for its length; a body does. Of a longer message the footers are
-- kept, by which changes depend on each other (Zuul, "Cross-Project Dependencies"): its other lines say nothing that is
-- judged. Of footers that are too long together the first ones are kept. That is this project's own rule.
use Rattle.std.specs.Prelude.{ℕ, suc, ◌-◌, ◌&&◌, Bool, List, [], ◌∷◌, ◌++◌, bytes_eq, codes, filter, flat_map, length}
use Rattle.std.specs.Prelude.{map, nat_lt, take, if◌then◌else◌}
use Rattle.std.specs.Char.{to_ascii_lowercase}
use Rattle.footer_text.specs.Lines.{lines_of}

-- the line begins with the word of a footer and its colon, in whatever case
abbrev pub is_footer_line : List ℕ → Bool
is_footer_line line = bytes_eq (take 11 (map to_ascii_lowercase line)) (codes "depends-on:")

-- the lines that are footers
abbrev pub footers_of : List ℕ → List (List ℕ)
footers_of text = filter is_footer_line (lines_of text)

-- lines as a text, each with its line end
abbrev pub ended : List (List ℕ) → List ℕ
ended lines = flat_map (λ line. line ++ 10 ∷ []) lines

-- the first of these lines, as many as fit into so many bytes, each with its line end: the first one that doesn't fit
-- is left out, and all after it
abbrev pub fitting : ℕ → List (List ℕ) → List (List ℕ)
fitting room [] = []
fitting room (line ∷ lines) = if nat_lt (length line) room then line ∷ fitting (room - suc (length line)) lines else []

-- a message is kept as it is, or, where it has more bytes than a body may, in the first of its footers
abbrev pub kept_message : List ℕ → List ℕ
kept_message text = if nat_lt 65536 (length text) then ended (fitting 65536 (footers_of text)) else text

-- footers are lost: the message has more bytes than a body may, and its footers alone have, too
abbrev pub has_lost_footers : List ℕ → Bool
has_lost_footers text = nat_lt 65536 (length text) && nat_lt 65536 (length (ended (footers_of text)))
