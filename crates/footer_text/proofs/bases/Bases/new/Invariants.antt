use Rattle.std.proofs.Common.{◌≡◌, map, take, string_bytes}
use Rattle.footer_text.proofs.bases.Bases.new.Given as goal

-- the texts so far are kept
abbrev pub invariant-loop-text : goal.invariant-loop-text
invariant-loop-text g l = map string_bytes l.kept.items ≡ take l.text-index (map (λ text. text.now) l.texts)
