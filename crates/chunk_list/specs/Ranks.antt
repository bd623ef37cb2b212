-- Where a search in a list that is in order ends: past all that pass a test.
use Rattle.std.specs.Prelude.{ℕ, suc, Bool, cond, List, [], ◌∷◌}

-- how many pass the test, from the front on
abbrev pub rank : {T : Type 0} → (T → Bool) → List T → ℕ
rank test [] = 0
rank test (x ∷ xs) = cond (test x) (suc (rank test xs)) 0
