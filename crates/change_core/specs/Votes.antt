-- The votes on a patch set (Gerrit, "Review Labels"): one score for each label and voter, and a withdrawn one is a
-- score of 0. Its approvals are the scores that aren't 0.
use Rattle.std.specs.Prelude.{◌≡◌, ◌==◌, ◌↔◌, ℕ, ℤ, pos, not, List, [], ◌∷◌, map, Option, None, Some, IsSome, Contains}
use Rattle.std.specs.Prelude.{if◌then◌else◌}
use Rattle.std.specs.List.{filter}
use Rattle.std.specs.List.Sorted.{IsStrictlyIncreasing}
use Rattle.std.specs.Ordering.{int_eq}
use Rattle.std.specs.FinMap as finite
use Rattle.review_ops.specs.Timestamp.{Timestamp}
use Rattle.change_core.specs.Slots.{Slot}
use Rattle.change_core.specs.Change.{Change}

pub record GivenVote : Type 0 where
  pub label : List ℕ
  pub voter : List ℕ
  pub value : ℤ
  pub stamp : Timestamp

pub record GivenApproval : Type 0 where
  pub label : List ℕ
  pub voter : List ℕ
  pub value : ℤ

-- what a register of a vote slot says
abbrev pub vote_at : Slot × (Timestamp × ℤ) → GivenVote
vote_at register =
    record { label = register.0.label; voter = register.0.voter; value = register.1.1; stamp = register.1.0 }

-- the votes that these registers have for the patch set
abbrev pub votes_among : ℕ → List (Slot × (Timestamp × ℤ)) → List GivenVote
votes_among set registers = map vote_at (filter (λ register. register.0.set == set) registers)

-- the votes on the patch set that these registers begin with
abbrev pub first_votes : ℕ → List (Slot × (Timestamp × ℤ)) → List GivenVote
first_votes set [] = []
first_votes set (register ∷ registers) =
    if register.0.set == set then vote_at register ∷ first_votes set registers else []

abbrev pub approval_of : GivenVote → GivenApproval
approval_of vote = record { label = vote.label; voter = vote.voter; value = vote.value }

-- the votes that aren't 0
abbrev pub approvals_among : List GivenVote → List GivenApproval
approvals_among votes = map approval_of (filter (λ vote. not (int_eq vote.value (pos 0))) votes)

-- the first slot that a vote on the patch set could have
abbrev pub first_slot : ℕ → Slot
first_slot set = record { set = set; label = []; voter = [] }

-- the votes on a patch set, by label, then voter
abbrev pub votes_of : Change → ℕ → List GivenVote
votes_of change set = votes_among set (finite.entries change.votes)

-- the approvals of a patch set, by label, then voter
abbrev pub approvals_of : Change → ℕ → List GivenApproval
approvals_of change set = approvals_among (votes_of change set)

-- somebody voted on the patch set, be the vote withdrawn or not
abbrev pub HasVote : Change → ℕ → Type 0
HasVote change set = (slot : Slot) × (slot.set ≡ set) × IsSome (finite.get change.votes slot)

-- the patch sets with a vote, in order, each once
pub record AreVotedSets (change : Change) (sets : List ℕ) : Type 0 where
  pub increasing : IsStrictlyIncreasing sets
  pub voted : (set : ℕ) → Contains sets set ↔ HasVote change set

-- the patch sets of these registers
abbrev pub sets_among : List (Slot × (Timestamp × ℤ)) → List ℕ
sets_among registers = map (λ register. register.0.set) registers

-- the first of each run of equal numbers, but for a run that goes on with the last number before
abbrev pub first_of_each : Option ℕ → List ℕ → List ℕ
first_of_each last [] = []
first_of_each None (n ∷ ns) = n ∷ first_of_each (Some n) ns
first_of_each (Some last) (n ∷ ns) = if n == last then first_of_each (Some last) ns else n ∷ first_of_each (Some n) ns
