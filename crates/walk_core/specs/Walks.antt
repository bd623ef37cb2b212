-- Walks over the edges of a graph: reaching, cycles and distances. Nodes are of any type, and the edges are a relation
-- between them.
use Rattle.std.specs.Prelude.{◌≡◌, ℕ, Bool, true, ◌+◌, ◌<◌, ◌≤◌, List, Contains}
use Rattle.std.proofs.Common.{zero, suc, sym, subst, arith}

-- a walk of n edges leads from the node to one that has P
abbrev pub Leads : {N : Type 0} → (N → N → Type 0) → (N → Type 0) → ℕ → N → Type 0
Leads E P zero x = P x
Leads {N} E P (suc n) x = (y : N) × E x y × Leads E P n y

-- a walk of n edges from one node to another
abbrev pub Walk : {N : Type 0} → (N → N → Type 0) → ℕ → N → N → Type 0
Walk E n x y = Leads E (λ z. z ≡ y) n x

-- one node reaches another by one edge or more
abbrev pub IsReachedOver : {N : Type 0} → (N → N → Type 0) → N → N → Type 0
IsReachedOver E x y = (n : ℕ) × Walk E (suc n) x y

-- the node reaches itself
abbrev pub IsOnCycle : {N : Type 0} → (N → N → Type 0) → N → Type 0
IsOnCycle E x = IsReachedOver E x x

-- n edges are the fewest that lead from the node to one that has P
pub record IsDistance {N : Type 0} (E : N → N → Type 0) (P : N → Type 0) (n : ℕ) (x : N) : Type 0 where
  pub leads : Leads E P n x
  pub fewest : (m : ℕ) → m < n → ¬ Leads E P m x

-- an edge begins a walk with the fewest edges, of which n are left
pub record BeginsFewest {N : Type 0} (E : N → N → Type 0) (P : N → Type 0) (n : ℕ) (x y : N) : Type 0 where
  pub edge : E x y
  pub rest : IsDistance E P n y

-- the node is of a kind
abbrev pub IsOfKind : {N : Type 0} → (N → Bool) → N → Type 0
IsOfKind kind x = kind x ≡ true

-- the edges where each node has a list of their ends
abbrev pub IsEdge : {N : Type 0} → (N → List N) → N → N → Type 0
IsEdge ends x y = Contains (ends x) y

-- ---- walks go on

pub Leads-after : {N : Type 0} (E : N → N → Type 0) (P : N → Type 0) (m n : ℕ) (x y : N) → Walk E m x y → Leads E P n y
    → Leads E P (m + n) x
Leads-after E P zero n x y same leads =
    let e : n ≡ 0 + n = omega arith in subst (λ k. Leads E P k x) e (subst (λ z. Leads E P n z) (sym same) leads)
Leads-after E P (suc m) n x y walk leads =
    let e : suc (m + n) ≡ suc m + n = omega arith in subst (λ k. Leads E P k x) e
    (walk.0, walk.1, Leads-after E P m n walk.0 y walk.2 leads)

-- what is reached from a node that is reached is reached
pub Reaches-trans : {N : Type 0} (E : N → N → Type 0) (x y z : N) → IsReachedOver E x y → IsReachedOver E y z → IsReachedOver E x z
Reaches-trans E x y z p q =
    let e : suc p.0 + suc q.0 ≡ suc (p.0 + suc q.0) = omega arith in
    (p.0 + suc q.0, subst (λ k. Walk E k x z) e (Leads-after E (λ w. w ≡ z) (suc p.0) (suc q.0) x y p.1 q.1))

-- nodes that reach each other are on a cycle
pub IsOnCycle-both : {N : Type 0} (E : N → N → Type 0) (x y : N) → IsReachedOver E x y → IsReachedOver E y x → IsOnCycle E x
IsOnCycle-both E x y p q = Reaches-trans E x y x p q

-- ---- distances

at_most : (n m : ℕ) → ¬ (m < n) → n ≤ m
at_most n m h = omega (arith, h)

-- a walk with the fewest edges goes on by one that has one edge less
pub IsDistance-next : {N : Type 0} {E : N → N → Type 0} {P : N → Type 0} (n : ℕ) (x : N) → IsDistance E P (suc n) x
    → (y : N) × BeginsFewest E P n x y
IsDistance-next n x far = (
  far.leads.0,
  record {
    edge = far.leads.1;
    rest = record {
      leads = far.leads.2;
      fewest = λ m less walk. far.fewest (suc m) (omega (arith, less)) (far.leads.0, far.leads.1, walk);
    };
  },
)

-- the end of an edge is at most one edge nearer
pub IsDistance-edge : {N : Type 0} {E : N → N → Type 0} {P : N → Type 0} (n m : ℕ) (x y : N) → E x y
    → IsDistance E P n x → Leads E P m y → n ≤ suc m
IsDistance-edge n m x y edge far near = at_most n (suc m) (λ less. far.fewest (suc m) less (y, edge, near))

-- a node has one distance at most
pub IsDistance-once : {N : Type 0} {E : N → N → Type 0} {P : N → Type 0} (n m : ℕ) (x : N) → IsDistance E P n x
    → IsDistance E P m x → n ≡ m
IsDistance-once n m x a b =
    let p : n ≤ m = at_most n m (λ less. a.fewest m less b.leads) in
    let q : m ≤ n = at_most m n (λ less. b.fewest n less a.leads) in
    omega (arith, p, q)

-- which is 0 just where the node itself has P
pub IsDistance-zero : {N : Type 0} {E : N → N → Type 0} {P : N → Type 0} (x : N) → P x → IsDistance E P 0 x
IsDistance-zero x is = record { leads = is; fewest = λ m less. absurd (omega (arith, less)) }
