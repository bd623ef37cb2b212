-- Fields that are added one after the other.
use Rattle.std.proofs.Common.{◌≡◌, List, [], ◌∷◌, ◌++◌, append_assoc}

pub four : {A : Type 0} (a b c d : A) (old one two three new : List A) → one ≡ old ++ a ∷ [] → two ≡ one ++ b ∷ []
    → three ≡ two ++ c ∷ [] → new ≡ three ++ d ∷ [] → new ≡ old ++ (a ∷ b ∷ c ∷ d ∷ [])
four a b c d old one two three new is_one is_two is_three is_new =
    rw (is_new, is_three, is_two, is_one) (simp append_assoc)
