-- What a search in depth has still to do.
use Rattle.std.proofs.Common.{◌≡◌, ◌+◌, ◌<◌, ◌++◌, ◌∷◌, [], ℕ, List, Bool, true, false, not, cond, Some, sym, ◌∙◌, ap}
use Rattle.std.proofs.Common.{subst, inl, inr, length, set, get_or, map, arith}
use Rattle.std.specs.List.{All, Contains, count_by, range_with_len}
use Rattle.std.specs.Prelude.{◌↔◌}
use Rattle.std.proofs.lemmas.List.Elements.{All-pop, All-map, Contains-push_cases, Contains-append_left}
use Rattle.std.proofs.lemmas.List.FromFn.{length-range_with_len, get_or-range_with_len}
use Rattle.std.proofs.lemmas.List.Sums.{sum_by-set}
use Rattle.walk_core.specs.declared.finish.Task.{Task}
use Rattle.walk_core.specs.declared.finish.Task.TheVariants.{Enter, Leave}

abbrev pub node_of : Task → ℕ
node_of (Enter node) = node
node_of (Leave node) = node

abbrev pub AreWithin : ℕ → List Task → Type 0
AreWithin size tasks = All (λ task. node_of task < size) tasks

pub taken_task : (size : ℕ) (tasks rest : List Task) (task : Task) → tasks ≡ rest ++ task ∷ [] → AreWithin size tasks
    → (node_of task < size) × AreWithin size rest
taken_task size tasks rest task is within = let popped = All-pop (λ t. node_of t < size) tasks rest (Some task) is within in (popped.1, popped.0)

pub entered_within : (size : ℕ) (nodes : List ℕ) → All (λ x. x < size) nodes → AreWithin size (map Enter nodes)
entered_within size nodes within = All-map (λ t. node_of t < size) Enter nodes within

-- ---- all nodes

abbrev pub AreAll : ℕ → List ℕ → Type 0
AreAll size nodes = (x : ℕ) → Contains nodes x ↔ x < size

range_has : (size x : ℕ) → Contains (range_with_len 0 size) x → x < size
range_has size x here =
    let within : here.0 < size = omega (arith, here.1, length-range_with_len 0 size) in
    omega (arith, within, get_or-range_with_len 0 size here.0 x within, here.2)

has_range : (size x : ℕ) → x < size → Contains (range_with_len 0 size) x
has_range size x within =
    let zero_on : 0 + x ≡ x = omega arith in
    (x, omega (arith, within, length-range_with_len 0 size), get_or-range_with_len 0 size x x within ∙ zero_on)

pub range_is_all : (size : ℕ) → AreAll size (range_with_len 0 size)
range_is_all size x = (range_has size x, has_range size x)

pub range_within : (size : ℕ) → All (λ x. x < size) (range_with_len 0 size)
range_within size k d within =
    let inside : k < size = omega (arith, within, length-range_with_len 0 size) in
    omega (arith, inside, get_or-range_with_len 0 size k d inside)

-- a node more
pub all_and_one : (size : ℕ) (nodes : List ℕ) (node : ℕ) → node < size → AreAll size nodes
    → AreAll size (nodes ++ node ∷ [])
all_and_one size nodes node within all x = (
  λ here. elim (Contains-push_cases nodes node x here) [
    | inl earlier ↦ (all x).0 earlier
    | inr same ↦ subst (λ y. y < size) same within
  ],
  λ inside. Contains-append_left nodes (node ∷ []) x ((all x).1 inside),
)

-- ---- how many nodes are still to be entered

pub fewer_left : (entered : List Bool) (node : ℕ) (read : Bool) → node < length entered
    → read ≡ get_or entered node read → read ≡ false
    → count_by not (set entered node true) + 1 ≡ count_by not entered
fewer_left entered node read within is first =
    let changed : count_by not (set entered node true) + cond
    (not (get_or entered node read)) 1 0 ≡ count_by not entered + cond (not true) 1 0
    = sum_by-set (λ b. cond (not b) 1 0) entered node true read within in
    let one : ◌≡◌ {A = ℕ} (cond (not (get_or entered node read)) 1 0) 1 = ap {B = ℕ} (λ b. cond (not b) 1 0) (sym is ∙ first) in
    omega (arith, changed, one)
