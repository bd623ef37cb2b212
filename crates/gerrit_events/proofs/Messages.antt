-- What is kept of the lines of a message that are left.
use Rattle.std.proofs.Common.{[], ℕ, suc, List, length, Option, None, Some}
use Rattle.gerrit_events.specs.Messages.{footers_of}

-- the footers of the text that is left, where some is
abbrev pub footers_left : Option (List ℕ) → List (List ℕ)
footers_left None = []
footers_left (Some text) = footers_of text

abbrev pub left_length : Option (List ℕ) → ℕ
left_length None = 0
left_length (Some text) = suc (length text)
