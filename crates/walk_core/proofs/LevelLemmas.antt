-- A search by levels finds the distances: what its steps do together, and what is known after each level.
use Rattle.std.proofs.Common.{◌≡◌, ◌↔◌, ◌⊎◌, inl, inr, ℕ, zero, suc, ◌+◌, ◌<◌, ◌≤◌, Bool, true, false, cond, is_some}
use Rattle.std.proofs.Common.{List, [], ◌∷◌, ◌++◌, length, replicate, set, get_or, take, Option, None, Some, refl, sym}
use Rattle.std.proofs.Common.{ap, subst, ◌∙◌, arith}
use Rattle.std.specs.List.{Contains, All, slice_get}
use Rattle.std.proofs.lemmas.Bool.{cases_eq}
use Rattle.std.proofs.lemmas.List.{length-set, length-replicate, length_push}
use Rattle.std.proofs.lemmas.List.Sums.{sum_by-set, count_by-le-length}
use Rattle.std.proofs.lemmas.List.Elements.{Contains-push, Contains-push_cases, Contains-append_left, Contains-get_or}
use Rattle.std.proofs.lemmas.Option.{slice_get_within, slice_get_read, get_or_from_slice_get}
use Rattle.walk_core.specs.Writes.{slice_get-set_other, slice_get-set_same}
use Rattle.walk_core.specs.EdgeLaws.{Contains-more}
use Rattle.walk_core.specs.Walks.{Leads, IsDistance, IsDistance-zero}
use Rattle.walk_core.specs.Digraphs.{HasEdge, IsMarked, IsDistanceTo, AreDistances}
use Rattle.walk_core.specs.Levels.{HasDistance, is_unreached, unreached, Discovers, LeadsInto, AreKnownTo, IsLevel}

-- a node has one distance at most in a list
same_distance : (distances : List (Option ℕ)) (x m n : ℕ) → HasDistance distances x m → HasDistance distances x n
    → m ≡ n
same_distance distances x m n p q = let e : Some (Some m) ≡ Some (Some n) = sym p ∙ q in cc

-- ---- one node

abbrev weight : Option ℕ → ℕ
weight distance = cond (is_unreached distance) 1 0

module _ (n node : ℕ) (distances : List (Option ℕ)) (level : List ℕ) where
  -- which has a distance already
  pub Discovers-known : (m : ℕ) → HasDistance distances node m
      → Discovers (λ x. x ≡ node) n distances level distances level
  Discovers-known m known = record {
    nodes = refl;
    all = λ x is. (m, subst (λ z. HasDistance distances z m) (sym is) known);
    kept = λ x k has. has;
    new = λ x k has. inl has;
    level_kept = λ x has. has;
    level_new = λ x has. inl has;
    balance = refl;
  }

  -- which has none
  pub Discovers-new : slice_get distances node ≡ Some None
      → Discovers (λ x. x ≡ node) n distances level (set distances node (Some n)) (level ++ node ∷ [])
  Discovers-new unknown =
      let within : node < length distances = slice_get_within distances node None unknown in
      let here : HasDistance (set distances node (Some n)) node n = slice_get-set_same distances node (Some n) within in
      let was : get_or distances node None ≡ None = get_or_from_slice_get distances node None None unknown in
      let counted = sum_by-set weight distances node (Some n) None within in
      record {
        nodes = length-set distances node (Some n);
        all = λ x is. (n, subst (λ z. HasDistance (set distances node (Some n)) z n) (sym is) here);
        kept = λ x m has. elim (cases_eq x node) [
          | inl is ↦ let e : Some (Some m) ≡ Some None = sym has ∙ ap (slice_get distances) is ∙ unknown in cc
          | inr ne ↦ slice_get-set_other distances node (Some n) x ne ∙ has
        ];
        new = λ x m has. elim (cases_eq x node) [
          | inl is ↦ inr (
            same_distance (set distances node (Some n)) node m n
                (subst (λ z. HasDistance (set distances node (Some n)) z m) is has) here,
            is,
            record {
              unknown = λ k known. let e : Some (Some k) ≡ Some None = sym known ∙ ap (slice_get distances) is ∙ unknown in cc;
              listed = subst (Contains (level ++ node ∷ [])) (sym is) (Contains-push level node);
            },
          )
          | inr ne ↦ inl (sym (slice_get-set_other distances node (Some n) x ne) ∙ has)
        ];
        level_kept = λ x has. Contains-append_left level (node ∷ []) x has;
        level_new = λ x has. elim (Contains-push_cases level node x has) [
          | inl old ↦ inl old
          | inr is ↦ inr (subst (λ z. HasDistance (set distances node (Some n)) z n) is here)
        ];
        balance = omega (arith, counted, ap weight was, length_push level node);
      }

-- ---- some nodes and then others

pub Discovers-then : (P Q R : ℕ → Type 0) (n : ℕ) (before mid after : List (Option ℕ)) (level grown last : List ℕ)
    → ((x : ℕ) → R x ↔ (P x ⊎ Q x)) → Discovers P n before level mid grown → Discovers Q n mid grown after last
    → Discovers R n before level after last
Discovers-then P Q R n before mid after level grown last both first second = record {
  nodes = second.nodes ∙ first.nodes;
  all = λ x r. elim ((both x).0 r) [
    | inl p ↦ let known = first.all x p in (known.0, second.kept x known.0 known.1)
    | inr q ↦ second.all x q
  ];
  kept = λ x m has. second.kept x m (first.kept x m has);
  new = λ x m has. elim (second.new x m has) [
    | inl old ↦ elim (first.new x m old) [
      | inl older ↦ inl older
      | inr is ↦ inr
          (is.0, (both x).1 (inl is.1), record { unknown = is.2.unknown; listed = second.level_kept x is.2.listed })
    ]
    | inr is ↦ inr (is.0, (both x).1 (inr is.1), record { unknown = λ k known. is.2.unknown k (first.kept x k known); listed = is.2.listed })
  ];
  level_kept = λ x has. second.level_kept x (first.level_kept x has);
  level_new = λ x has. elim (second.level_new x has) [
    | inl old ↦ elim (first.level_new x old) [ inl older ↦ inl older | inr is ↦ inr (second.kept x n is) ]
    | inr is ↦ inr is
  ];
  balance = second.balance ∙ first.balance;
}

pub Discovers-alike : (P Q : ℕ → Type 0) (n : ℕ) (before after : List (Option ℕ)) (level grown : List ℕ)
    → ((x : ℕ) → P x ↔ Q x) → Discovers P n before level after grown → Discovers Q n before level after grown
Discovers-alike P Q n before after level grown alike step = record {
  nodes = step.nodes;
  all = λ x q. step.all x ((alike x).1 q);
  kept = step.kept;
  new = λ x m has. elim (step.new x m has) [ inl old ↦ inl old | inr is ↦ inr (is.0, (alike x).0 is.1, is.2) ];
  level_kept = step.level_kept;
  level_new = step.level_new;
  balance = step.balance;
}

-- ---- the levels

module _ (graph : List (List ℕ)) (marked : List Bool) (sized : length marked ≡ length graph) where
  not_in_empty : (k x n : ℕ) → ¬ HasDistance (replicate k None) x n
  not_in_empty zero x n has = cc
  not_in_empty (suc k) zero n has = cc
  not_in_empty (suc k) (suc x) n has = not_in_empty k x n has

  module _ (count : ℕ) (distances : List (Option ℕ)) (level : List ℕ) (many : count ≡ length graph)
      (step : Discovers (IsMarked marked) 0 (replicate count None) [] distances level) where
    pub AreKnownTo-first : AreKnownTo graph marked 0 distances
    AreKnownTo-first = record {
      nodes = step.nodes ∙ length-replicate count None ∙ many;
      right = λ x m has. elim (step.new x m has) [
        | inl old ↦ absurd (not_in_empty count x m old)
        | inr is ↦ subst (λ k. IsDistance (HasEdge graph) (IsMarked marked) k x) (sym is.0)
            (IsDistance-zero {E = HasEdge graph} {P = IsMarked marked} x is.1)
      ];
      near = λ x m has. elim
          (step.new x m has) [ inl old ↦ absurd (not_in_empty count x m old) | inr is ↦ omega (arith, is.0) ];
      found = λ x m low leads. let is : m ≡ 0 = omega (arith, low) in step.all x
          (subst (λ k. Leads (HasEdge graph) (IsMarked marked) k x) is leads);
    }

    pub IsLevel-first : IsLevel distances 0 level
    IsLevel-first x = (
      λ has. elim (step.level_new x has) [ inl old ↦ absurd (omega (arith, old.1)) | inr is ↦ is ],
      λ has. elim (step.new x 0 has) [ inl old ↦ absurd (not_in_empty count x 0 old) | inr is ↦ is.2.listed ],
    )

    pub first_fits : 0 + (length level + unreached distances) ≤ length graph
    first_fits = let none : Option ℕ = None in omega
        (arith, step.balance, count_by-le-length is_unreached (replicate count none), length-replicate count none, many)

  module _ (n : ℕ) (before : List (Option ℕ)) (last : List ℕ) (known : AreKnownTo graph marked n before)
      (is_level : IsLevel before n last) where
    module _ (after : List (Option ℕ)) (level : List ℕ)
        (step : Discovers (LeadsInto graph last) (n + 1) before [] after level) where
      -- a node that is new is at the distance n + 1
      right_new : (x : ℕ) → LeadsInto graph last x → ((m : ℕ) → ¬ HasDistance before x m)
          → IsDistance (HasEdge graph) (IsMarked marked) (n + 1) x
      right_new x into unknown =
          let rest = (known.right into.0 n ((is_level into.0).0 into.1)).leads in
          let e : suc n ≡ n + 1 = omega arith in
          record {
            leads = subst (λ k. Leads (HasEdge graph) (IsMarked marked) k x) e (into.0, into.2, rest);
            fewest = λ m less walk. let found = known.found x m (omega (arith, less)) walk in unknown found.0 found.1;
          }

      -- a node with an edge to one that has a distance has one too
      found_next : (x y k : ℕ) → HasEdge graph x y → HasDistance before y k → (m : ℕ) × HasDistance after x m
      found_next x y k edge has = elim (cases_eq k n) [
        | inl is ↦ step.all x (y, (is_level y).1 (subst (HasDistance before y) is has), edge)
        | inr ne ↦
            let near = known.near y k has in
            let far = known.found x (suc k) (omega (arith, near, ne)) (y, edge, (known.right y k has).leads) in
            (far.0, step.kept x far.0 far.1)
      ]

      found_more : (x m : ℕ) → m ≤ n + 1 → Leads (HasEdge graph) (IsMarked marked) m x → (k : ℕ) × HasDistance after x k
      found_more x zero low leads = let far = known.found x 0 (omega arith) leads in (far.0, step.kept x far.0 far.1)
      found_more x (suc m) low leads =
          let near = known.found leads.0 m (omega (arith, low)) leads.2 in found_next x leads.0 near.0 leads.1 near.1

      pub AreKnownTo-next : AreKnownTo graph marked (n + 1) after
      AreKnownTo-next = record {
        nodes = step.nodes ∙ known.nodes;
        right = λ x m has. elim (step.new x m has) [
          | inl old ↦ known.right x m old
          | inr is ↦ subst (λ k. IsDistance (HasEdge graph) (IsMarked marked) k x) (sym is.0)
              (right_new x is.1 is.2.unknown)
        ];
        near = λ x m has. elim (step.new x m has) [
          | inl old ↦ let low = known.near x m old in omega (arith, low)
          | inr is ↦ omega (arith, is.0)
        ];
        found = found_more;
      }

      pub IsLevel-next : IsLevel after (n + 1) level
      IsLevel-next x = (
        λ has. elim (step.level_new x has) [ inl old ↦ absurd (omega (arith, old.1)) | inr is ↦ is ],
        λ has. elim (step.new x (n + 1) has) [
          | inl old ↦ let low = known.near x (n + 1) old in absurd (omega (arith, low))
          | inr is ↦ is.2.listed
        ],
      )

      pub next_fits : 0 < length last → n + (length last + unreached before) ≤ length graph
          → n + 1 + (length level + unreached after) ≤ length graph
      next_fits some fits = omega (arith, step.balance)

    -- where the last level is empty, all is known
    module _ (empty : length last ≡ 0) where
      found_all : (x m : ℕ) → Leads (HasEdge graph) (IsMarked marked) m x → (k : ℕ) × HasDistance before x k
      found_all x zero leads = known.found x 0 (omega arith) leads
      found_all x (suc m) leads =
          let near = found_all leads.0 m leads.2 in
          let low = known.near leads.0 near.0 near.1 in
          elim (cases_eq near.0 n) [
            | inl is ↦ let h = (is_level leads.0).1 (subst (HasDistance before leads.0) is near.1) in absurd
                (omega (arith, h.1, empty))
            | inr ne ↦ known.found x (suc near.0) (omega (arith, low, ne))
                (leads.0, leads.1, (known.right leads.0 near.0 near.1).leads)
          ]

      each_one : (x : ℕ) (distance : Option ℕ) → slice_get before x ≡ Some distance
          → IsDistanceTo graph marked x distance
      each_one x None is = λ m leads. let found = found_all x m leads in let e : Some (Some found.0) ≡ Some None = sym found.1 ∙ is in cc
      each_one x (Some k) is = known.right x k is

      pub AreDistances-done : AreDistances graph marked before
      AreDistances-done = record { nodes = known.nodes; each = each_one }

-- ---- the steps of the code

known_at : (distances : List (Option ℕ)) (node : ℕ) (was : Option ℕ) → slice_get distances node ≡ Some was
    → is_some was ≡ true → (m : ℕ) × HasDistance distances node m
known_at distances node (Some m) is some = (m, is)
known_at distances node None is some = cc

unknown_at : (distances : List (Option ℕ)) (node : ℕ) (was : Option ℕ) → slice_get distances node ≡ Some was
    → is_some was ≡ false → slice_get distances node ≡ Some None
unknown_at distances node None is none = is
unknown_at distances node (Some m) is none = cc

module _ (n node : ℕ) (distances : List (Option ℕ)) (level : List ℕ) (was : Option ℕ) (within : node < length distances)
    (is : was ≡ get_or distances node was) where
  pub reached_known : is_some was ≡ true → Discovers (λ x. x ≡ node) n distances level distances level
  reached_known some =
      let known = known_at distances node was (slice_get_read distances (length distances) node was refl within is) some in
      Discovers-known n node distances level known.0 known.1

  pub reached_new : (grown : List ℕ) → is_some was ≡ false → grown ≡ level ++ node ∷ []
      → Discovers (λ x. x ≡ node) n distances level (set distances node (Some n)) grown
  reached_new grown none grows =
      let unknown = unknown_at distances node was (slice_get_read distances (length distances) node was refl within is) none in
      subst (Discovers (λ x. x ≡ node) n distances level (set distances node (Some n))) (sym grows)
      (Discovers-new n node distances level unknown)

-- the marked nodes below i
abbrev pub MarkedBelow : List Bool → ℕ → ℕ → Type 0
MarkedBelow marked i x = (x < i) × IsMarked marked x

pub MarkedBelow-more : (marked : List Bool) (i : ℕ) → IsMarked marked i → (x : ℕ)
    → MarkedBelow marked (i + 1) x ↔ (MarkedBelow marked i x ⊎ (x ≡ i))
MarkedBelow-more marked i is_marked x = (
  λ below. elim (cases_eq x i) [ inl is ↦ inr is | inr ne ↦ inl (omega (arith, ne, below.0), below.1) ],
  λ has. elim has [ inl below ↦ (omega (arith, below.0), below.1) | inr is ↦ (omega (arith, is), subst (IsMarked marked) (sym is) is_marked) ],
)

pub MarkedBelow-all : (marked : List Bool) (i : ℕ) → length marked ≤ i → (x : ℕ)
    → MarkedBelow marked i x ↔ IsMarked marked x
MarkedBelow-all marked i all x = (λ below. below.1, λ is. let within = slice_get_within marked x true is in (omega (arith, within, all), is))

pub LeadsInto-more : (graph : List (List ℕ)) (nodes names : List ℕ) (i node : ℕ) → i < length nodes
    → node ≡ get_or nodes i node → ((x : ℕ) → Contains names x ↔ HasEdge graph x node) → (x : ℕ)
    → LeadsInto graph (take (i + 1) nodes) x ↔ (LeadsInto graph (take i nodes) x ⊎ Contains names x)
LeadsInto-more graph nodes names i node within is named x = (
  λ into. elim ((Contains-more nodes i into.0 node within is).0 into.1) [
    | inl old ↦ inl (into.0, old, into.2)
    | inr same ↦ inr ((named x).1 (subst (HasEdge graph x) same into.2))
  ],
  λ has. elim has [
    | inl into ↦ (into.0, (Contains-more nodes i into.0 node within is).1 (inl into.1), into.2)
    | inr name ↦ (node, (Contains-more nodes i node node within is).1 (inr refl), (named x).0 name)
  ],
)

-- the nodes of a level are nodes
pub level_within : (graph : List (List ℕ)) (marked : List Bool) (n : ℕ) (distances : List (Option ℕ)) (level : List ℕ)
    → AreKnownTo graph marked n distances → IsLevel distances n level → All (λ x. x < length graph) level
level_within graph marked n distances level known is_level k d within =
    let has = (is_level (get_or level k d)).0 (Contains-get_or level k d within) in
    let low = slice_get_within distances (get_or level k d) (Some n) has in
    omega (arith, low, known.nodes)
