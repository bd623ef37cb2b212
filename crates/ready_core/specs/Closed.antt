-- Closed sets of nodes, and their union: the greatest fixed point of "eligible, and each edge ends inside" (Knaster and
-- Tarski). A set is the list of its members.
use Rattle.std.specs.Prelude.{◌↔◌, ℕ, ◌⊎◌, List, Contains}
use Rattle.std.proofs.Common.{zero, suc, inl, inr}
use Rattle.walk_core.specs.Walks.{Leads}

-- each member is eligible, and each of its edges ends in the set
pub record IsClosed {N : Type 0} (E : N → N → Type 0) (IsEligible : N → Type 0) (set : List N) : Type 0 where
  pub members : (x : N) → Contains set x → IsEligible x
  pub ends : (x y : N) → Contains set x → E x y → Contains set y

-- some closed set has it: it is in the union of all closed sets
pub record IsInClosedSet {N : Type 0} (E : N → N → Type 0) (IsEligible : N → Type 0) (x : N) : Type 0 where
  pub set : List N
  pub closed : IsClosed E IsEligible set
  pub has : Contains set x

-- no walk leads from the node to one that isn't eligible
abbrev pub IsSafe : {N : Type 0} → (N → N → Type 0) → (N → Type 0) → N → Type 0
IsSafe E IsEligible x = (n : ℕ) → ¬ Leads E (λ y. ¬ IsEligible y) n x

-- each edge from one of the nodes ends at one of them
abbrev pub HoldsEnds : {N : Type 0} → (N → N → Type 0) → List N → Type 0
HoldsEnds {N} E nodes = (x y : N) → Contains nodes x → E x y → Contains nodes y

-- each of the nodes is eligible or isn't
abbrev pub IsDecided : {N : Type 0} → (N → Type 0) → List N → Type 0
IsDecided {N} IsEligible nodes = (x : N) → Contains nodes x → IsEligible x ⊎ ¬ IsEligible x

-- the set has just those of the nodes that are safe
pub record AreSafe {N : Type 0} (E : N → N → Type 0) (IsEligible : N → Type 0) (nodes set : List N) : Type 0 where
  pub within : (x : N) → Contains set x → Contains nodes x
  pub safe : (x : N) → Contains set x → IsSafe E IsEligible x
  pub complete : (x : N) → Contains nodes x → IsSafe E IsEligible x → Contains set x

-- ---- laws

decided : {P : Type 0} → P ⊎ ¬ P → ¬ (¬ P) → P
decided {P} either h = elim either [ inl p ↦ p | inr n ↦ absurd (h n) ]

-- a member of a closed set is safe
pub IsClosed-safe : {N : Type 0} {E : N → N → Type 0} {IsEligible : N → Type 0} {set : List N}
    → IsClosed E IsEligible set → (n : ℕ) (x : N) → Contains set x → ¬ Leads E (λ y. ¬ IsEligible y) n x
IsClosed-safe closed zero x has out = out (closed.members x has)
IsClosed-safe closed (suc n) x has walk = IsClosed-safe closed n walk.0 (closed.ends x walk.0 has walk.1) walk.2

-- the safe nodes are closed
pub IsClosed-AreSafe : {N : Type 0} {E : N → N → Type 0} {IsEligible : N → Type 0} {nodes set : List N}
    → HoldsEnds E nodes → IsDecided IsEligible nodes → AreSafe E IsEligible nodes set → IsClosed E IsEligible set
IsClosed-AreSafe {N} {E} {IsEligible} {nodes} {set} held is_decided are = record {
  members = λ x has. decided (is_decided x (are.within x has)) (λ out. are.safe x has 0 out);
  ends = λ x y has edge. are.complete y (held x y (are.within x has) edge)
      (λ n walk. are.safe x has (suc n) (y, edge, walk));
}

-- so they are the union of all closed sets
pub IsInClosedSet-AreSafe : {N : Type 0} {E : N → N → Type 0} {IsEligible : N → Type 0} {nodes set : List N}
    → HoldsEnds E nodes → IsDecided IsEligible nodes → AreSafe E IsEligible nodes set → (x : N) → Contains nodes x
    → Contains set x ↔ IsInClosedSet E IsEligible x
IsInClosedSet-AreSafe {N} {E} {IsEligible} {nodes} {set} held is_decided are x there = (
  λ has. record { set = set; closed = IsClosed-AreSafe held is_decided are; has = has },
  λ some. are.complete x there (λ n. IsClosed-safe some.closed n x some.has),
)
