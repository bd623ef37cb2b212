-- Journals as sets: what comes into a journal makes it the union with what came, in whatever order and however often.
use Rattle.std.specs.Prelude.{◌≡◌, ◌⊎◌, ◌≤◌, ℕ, zero, suc, Bool, true, false, ◌||◌, cond, filter, List, [], ◌∷◌, ◌++◌}
use Rattle.std.specs.Prelude.{length, take}
use Rattle.std.specs.List.{list_any}
use Rattle.std.proofs.Common.{refl, sym, ap, ◌∙◌, inl, inr, arith, append_assoc, length-append}
use Rattle.std.proofs.lemmas.Bool.{or_cases, or_left, or_right}
use Rattle.std.proofs.lemmas.List.{append-nil}
use Rattle.std.proofs.lemmas.List.Folds.{list_any-append}
use Rattle.review_ops.specs.Operation.{Operation}
use Rattle.replica_core.specs.Journal.{same_operation, has, arrived, all_arrived}
use Rattle.replica_core.specs.InOrder.{same_is_equal, same_itself}
use Rattle.replica_core.specs.Sets.{IsSameSet}

-- each operation of the first is one of the other
abbrev pub IsPartOf : List Operation → List Operation → Type 0
IsPartOf journal other = (op : Operation) → has journal op ≡ true → has other op ≡ true

-- ---- an operation that passes a test
pub has_one : (test : Operation → Bool) (ops : List Operation) → list_any test ops ≡ true
    → (op : Operation) × (has ops op ≡ true) × (test op ≡ true)
has_one test [] h = cc
has_one test (x ∷ ops) h = elim (or_cases (test x) (list_any test ops) h) [
  | inl e ↦ (x, or_left (same_operation x x) (has ops x) (same_itself x), e)
  | inr later ↦ let r = has_one test ops later in (r.0, or_right (same_operation x r.0) (has ops r.0) r.1, r.2)
]

pub one_passes : (test : Operation → Bool) (ops : List Operation) (op : Operation) → has ops op ≡ true → test op ≡ true
    → list_any test ops ≡ true
one_passes test [] op h e = cc
one_passes test (x ∷ ops) op h e = elim (or_cases (same_operation x op) (has ops op) h) [
  | inl same ↦ or_left (test x) (list_any test ops) (ap test (same_is_equal x op same) ∙ e)
  | inr later ↦ or_right (test x) (list_any test ops) (one_passes test ops op later e)
]

pub part_passes : (test : Operation → Bool) (ops others : List Operation) → IsPartOf ops others
    → list_any test ops ≡ true → list_any test others ≡ true
part_passes test ops others part h = let r = has_one test ops h in one_passes test others r.0 (part r.0 r.1) r.2

-- ---- what comes
pub has-append : (ops others : List Operation) (op : Operation) → has (ops ++ others) op ≡ (has ops op || has others op)
has-append ops others op = list_any-append (λ arrived. same_operation arrived op) ops others

absorbed : (a b : Bool) → (b ≡ true → a ≡ true) → a ≡ (a || (b || false))
absorbed true b h = refl
absorbed false true h = h refl
absorbed false false h = refl

pub has-arrived : (journal : List Operation) (op : Operation) → IsSameSet (arrived journal op) (journal ++ op ∷ [])
has-arrived journal op other = elim (has journal op) as (λ known. has journal op ≡ known → has (cond known journal (journal ++ op ∷ [])) other ≡ has (journal ++ op ∷ []) other) [
  | true ↦ λ e. absorbed (has journal other) (same_operation op other)
      (λ same. ap (has journal) (sym (same_is_equal op other same)) ∙ e) ∙ sym (has-append journal (op ∷ []) other)
  | false ↦ λ e. refl
] refl

pub IsSameSet-append : (ops others more : List Operation) → IsSameSet ops others
    → IsSameSet (ops ++ more) (others ++ more)
IsSameSet-append ops others more same op =
    has-append ops more op ∙ ap (λ t. t || has more op) (same op) ∙ sym (has-append others more op)

-- a journal, once operations have come, is the union with them
pub has-all_arrived : (journal ops : List Operation) → IsSameSet (all_arrived journal ops) (journal ++ ops)
has-all_arrived journal [] other = ap (λ l. has l other) (sym (append-nil journal))
has-all_arrived journal (op ∷ ops) other =
    has-all_arrived (arrived journal op) ops other
    ∙ IsSameSet-append (arrived journal op) (journal ++ op ∷ []) ops (has-arrived journal op) other
    ∙ ap (λ l. has l other) (append_assoc journal (op ∷ []) ops)

pub has-append_left : (ops more : List Operation) → IsPartOf ops (ops ++ more)
has-append_left ops more op h = has-append ops more op ∙ or_left (has ops op) (has more op) h

pub has-append_right : (ops more : List Operation) → IsPartOf more (ops ++ more)
has-append_right ops more op h = has-append ops more op ∙ or_right (has ops op) (has more op) h

pub has-append_cases : (ops more : List Operation) (op : Operation) → has (ops ++ more) op ≡ true
    → (has ops op ≡ true) ⊎ (has more op ≡ true)
has-append_cases ops more op h = or_cases (has ops op) (has more op) (sym (has-append ops more op) ∙ h)

pub one_is : (op other : Operation) → has (op ∷ []) other ≡ true → op ≡ other
one_is op other h = elim
    (or_cases (same_operation op other) false h) [ inl same ↦ same_is_equal op other same | inr e ↦ cc ]

-- what a journal had it keeps
pub kept-arrived : (journal : List Operation) (op : Operation) → IsPartOf journal (arrived journal op)
kept-arrived journal op other h = has-arrived journal op other ∙ has-append_left journal (op ∷ []) other h

pub kept-all_arrived : (journal ops : List Operation) → IsPartOf journal (all_arrived journal ops)
kept-all_arrived journal ops other h = has-all_arrived journal ops other ∙ has-append_left journal ops other h

pub all_arrived-push : (journal ops : List Operation) (op : Operation)
    → all_arrived journal (ops ++ op ∷ []) ≡ arrived (all_arrived journal ops) op
all_arrived-push journal [] op = refl
all_arrived-push journal (first ∷ ops) op = all_arrived-push (arrived journal first) ops op

length-arrived : (journal : List Operation) (op : Operation) → length journal ≤ length (arrived journal op)
length-arrived journal op =
    elim (has journal op) as (λ known. length journal ≤ length (cond known journal (journal ++ op ∷ []))) [
      | true ↦ omega arith
      | false ↦ omega (arith, length-append journal (op ∷ []))
    ]

pub length-all_arrived : (journal ops : List Operation) → length journal ≤ length (all_arrived journal ops)
length-all_arrived journal [] = omega arith
length-all_arrived journal (op ∷ ops) =
    omega (arith, length-arrived journal op, length-all_arrived (arrived journal op) ops)

-- ---- what passes a test
pub has-filter : (test : Operation → Bool) (ops : List Operation) (op : Operation) → has ops op ≡ true → test op ≡ true
    → has (filter test ops) op ≡ true
has-filter test [] op h e = cc
has-filter test (x ∷ ops) op h e =
    elim (test x) as (λ t. test x ≡ t → has (cond t (x ∷ filter test ops) (filter test ops)) op ≡ true) [
      | true ↦ λ is. elim (or_cases (same_operation x op) (has ops op) h) [
        | inl same ↦ or_left (same_operation x op) (has (filter test ops) op) same
        | inr later ↦ or_right (same_operation x op) (has (filter test ops) op) (has-filter test ops op later e)
      ]
      | false ↦ λ is. elim (or_cases (same_operation x op) (has ops op) h) [
        | inl same ↦ let known : false ≡ true = sym is ∙ ap test (same_is_equal x op same) ∙ e in cc
        | inr later ↦ has-filter test ops op later e
      ]
    ] refl

pub filtered : (test : Operation → Bool) (ops : List Operation) (op : Operation) → has (filter test ops) op ≡ true
    → (has ops op ≡ true) × (test op ≡ true)
filtered test [] op h = cc
filtered test (x ∷ ops) op came = elim (test x) as (λ t. test x ≡ t → has (cond t (x ∷ filter test ops) (filter test ops)) op ≡ true → (has (x ∷ ops) op ≡ true) × (test op ≡ true)) [
  | true ↦ λ is h. elim (or_cases (same_operation x op) (has (filter test ops) op) h) [
    | inl same ↦ (or_left (same_operation x op) (has ops op) same, ap test (sym (same_is_equal x op same)) ∙ is)
    | inr later ↦ let r = filtered test ops op later in (or_right (same_operation x op) (has ops op) r.0, r.1)
  ]
  | false ↦ λ is h. let r = filtered test ops op h in (or_right (same_operation x op) (has ops op) r.0, r.1)
] refl came

-- an operation of a list is the first of it, or one of the others
pub same_operation_cases : (x : Operation) (ops : List Operation) (op : Operation) → has (x ∷ ops) op ≡ true
    → (x ≡ op) ⊎ (has ops op ≡ true)
same_operation_cases x ops op h = elim
    (or_cases (same_operation x op) (has ops op) h) [ inl same ↦ inl (same_is_equal x op same) | inr later ↦ inr later ]

pub has-first : (x : Operation) (ops : List Operation) → has (x ∷ ops) x ≡ true
has-first x ops = or_left (same_operation x x) (has ops x) (same_itself x)

pub has-later : (x : Operation) (ops : List Operation) → IsPartOf ops (x ∷ ops)
has-later x ops op h = or_right (same_operation x op) (has ops op) h

pub has-take : (n : ℕ) (ops : List Operation) → IsPartOf (take n ops) ops
has-take zero ops op h = cc
has-take (suc n) [] op h = h
has-take (suc n) (x ∷ ops) op h = elim (same_operation_cases x (take n ops) op h) [
  | inl same ↦ ap (has (x ∷ ops)) (sym same) ∙ has-first x ops
  | inr later ↦ has-later x ops op (has-take n ops op later)
]

-- operations that come in two parts arrive as the whole
pub all_arrived-append : (journal ops more : List Operation)
    → all_arrived journal (ops ++ more) ≡ all_arrived (all_arrived journal ops) more
all_arrived-append journal [] more = refl
all_arrived-append journal (op ∷ ops) more = all_arrived-append (arrived journal op) ops more
