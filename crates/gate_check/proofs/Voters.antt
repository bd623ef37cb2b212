-- Which names somebody can have.
use Rattle.std.proofs.Common.{◌≡◌, ℕ, List, Bool, true, false, ◌&&◌, length, refl, sym}
use Rattle.std.specs.Prelude.{nat_le}
use Rattle.std.specs.Char.{is_ascii_graphic}
use Rattle.std.specs.List.{list_all}
use Rattle.std.proofs.lemmas.Bool.{and_from, and_parts, le-leb, leb-true}
use Rattle.std.proofs.lemmas.List.Sums.{AllPass-from_list_all, list_all-from_AllPass}
use Rattle.review_ops.specs.Good.{IsVoter}
use Rattle.gate_check.specs.Warnings.{can_vote}

-- such a name is a voter's
pub is_voter_name : (name : List ℕ) → can_vote name ≡ true → IsVoter name
is_voter_name name is =
    let outer = and_parts (nat_le 1 (length name) && nat_le (length name) 64) (list_all is_ascii_graphic name) is in
    let inner = and_parts (nat_le 1 (length name)) (nat_le (length name) 64) outer.0 in
    record {
      some = leb-true 1 (length name) inner.0;
      short = leb-true (length name) 64 inner.1;
      visible = AllPass-from_list_all is_ascii_graphic name outer.1;
    }

-- and a voter's name is such a one
pub can_vote_by : (name : List ℕ) → IsVoter name → can_vote name ≡ true
can_vote_by name is =
    and_from (nat_le 1 (length name) && nat_le (length name) 64) (list_all is_ascii_graphic name)
    (and_from (nat_le 1 (length name)) (nat_le (length name) 64) (le-leb 1 (length name) is.some) (le-leb (length name) 64 is.short))
    (list_all-from_AllPass is_ascii_graphic name is.visible)

-- what tells voters' names from others is the test
pub voter_test : (name : List ℕ) (found : Bool) → (found ≡ true → IsVoter name) → (IsVoter name → found ≡ true)
    → found ≡ can_vote name
voter_test name true is only = sym (can_vote_by name (is refl))
voter_test name false is only =
    elim (can_vote name) as (λ b. can_vote name ≡ b → false ≡ b) [
      | true ↦ λ can. only (is_voter_name name can)
      | false ↦ λ can. refl
    ] refl
