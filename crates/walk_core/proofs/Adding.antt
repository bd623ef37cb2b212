-- Counts that add up: what a cycle leads to is on it, or is what the one cycle that it leads into leads to.
use Rattle.std.proofs.Common.{◌≡◌, ◌≢◌, ◌↔◌, ◌⊎◌, inl, inr, ◌+◌, ◌-◌, ◌<◌, ◌^◌, ℕ, zero, suc, List, [], ◌∷◌, Option}
use Rattle.std.proofs.Common.{None, Some, refl, sym, ◌∙◌, subst, length, set, get_or, min, arith}
use Rattle.std.specs.List.{Contains}
use Rattle.std.specs.Option.{option_map}
use Rattle.std.specs.declared.cmp.Ordering.TheVariants.{Less}
use Rattle.std.specs.Ordering.{nat_cmp}
use Rattle.std.specs.List.Sorted.{IsStrictlySortedBy}
use Rattle.std.proofs.lemmas.Bool.{cases_eq, cases_lt}
use Rattle.std.proofs.lemmas.List.{get_or-set_same, get_or-set_other, length-set}
use Rattle.std.proofs.lemmas.List.Elements.{All-contains, All-from_recursion, Contains-get_or, recursion_from_All}
use Rattle.lattice_core.specs.Keep.{numbers_exact}
use Rattle.lattice_core.specs.MemberLaws.{Contains-none, Contains-cons_cases, Contains-first, Contains-later}
use Rattle.lattice_core.specs.PlaceLaws.{not_below_itself}
use Rattle.walk_core.specs.Walks.{Walk}
use Rattle.walk_core.specs.Digraphs.{HasEdge}
use Rattle.walk_core.specs.Ranks.{LeadsTo, AreTogether, HasCount}
use Rattle.walk_core.specs.RankLaws.{LeadsTo-trans, AreTogether-sym, AreTogether-trans, nat_cmp-less}
use Rattle.walk_core.specs.Components.{AreFirsts}
use Rattle.walk_core.specs.Marks.{HoldEnds, LeadsToCount}
use Rattle.walk_core.specs.Sums.{option_at, IsNext, IsHereOrNext, AreSums, sum_with}
use Rattle.walk_core.specs.FirstLaws.{first_within}
use Rattle.walk_core.proofs.Blocks.{count_within, none_sorted}
use Rattle.walk_core.proofs.Ordered.{count_same}

-- ---- counts of two kinds add up

sorted_cons : (x : ℕ) (xs : List ℕ) → ((z : ℕ) → Contains xs z → nat_cmp x z ≡ Less) → IsStrictlySortedBy nat_cmp xs
    → IsStrictlySortedBy nat_cmp (x ∷ xs)
unfolding IsStrictlySortedBy
sorted_cons x xs below sorted = (recursion_from_All (λ z. nat_cmp x z ≡ Less) xs (λ k d within. below (get_or xs k d) (Contains-get_or xs k d within)), sorted)

sorted_rest : (x : ℕ) (xs : List ℕ) → IsStrictlySortedBy nat_cmp (x ∷ xs) → IsStrictlySortedBy nat_cmp xs
unfolding IsStrictlySortedBy
sorted_rest x xs sorted = sorted.1

sorted_first : (x : ℕ) (xs : List ℕ) → IsStrictlySortedBy nat_cmp (x ∷ xs) → (z : ℕ) → Contains xs z
    → nat_cmp x z ≡ Less
unfolding IsStrictlySortedBy
sorted_first x xs sorted z here =
    All-contains (λ y. nat_cmp x y ≡ Less) xs z (All-from_recursion (λ y. nat_cmp x y ≡ Less) xs sorted.0) here

-- one list in order has the members of two
record AreBoth (xs ys zs : List ℕ) : Type 0 where
  pub in_order : IsStrictlySortedBy nat_cmp zs
  pub just : (z : ℕ) → Contains zs z ↔ (Contains xs z ⊎ Contains ys z)
  pub size : length zs ≡ length xs + length ys

insert_one : (y : ℕ) (xs : List ℕ) → IsStrictlySortedBy nat_cmp xs → ¬ Contains xs y
    → (zs : List ℕ) × AreBoth (y ∷ []) xs zs
insert_one y [] sorted new = (
  y ∷ [],
  record {
    in_order = sorted_cons y [] (λ z here. absurd (Contains-none z here)) none_sorted;
    just = λ z. (λ here. inl here, λ is. elim is [ inl here ↦ here | inr none ↦ absurd (Contains-none z none) ]);
    size = omega arith;
  },
)
insert_one y (x ∷ xs) sorted new = elim (cases_lt y x) [
  | inl less ↦ (
    y ∷ x ∷ xs,
    record {
      in_order = sorted_cons y (x ∷ xs) (λ z here. elim (Contains-cons_cases x xs z here) [
        | inl same ↦ subst (λ w. nat_cmp y w ≡ Less) same (nat_cmp-less y x less)
        | inr later ↦ numbers_exact.total.trans y x z (nat_cmp-less y x less) (sorted_first x xs sorted z later)
      ]) sorted;
      just = λ z. (
        λ here. elim (Contains-cons_cases y (x ∷ xs) z here) [
          | inl same ↦ inl (subst (Contains (y ∷ [])) same (Contains-first y []))
          | inr later ↦ inr later
        ],
        λ is. elim is [
          | inl here ↦ elim (Contains-cons_cases y [] z here) [
            | inl same ↦ subst (Contains (y ∷ x ∷ xs)) same (Contains-first y (x ∷ xs))
            | inr none ↦ absurd (Contains-none z none)
          ]
          | inr later ↦ Contains-later y (x ∷ xs) z later
        ],
      );
      size = omega arith;
    },
  )
  | inr not_less ↦
      let apart : x ≢ y = λ same. new (subst (Contains (x ∷ xs)) same (Contains-first x xs)) in
      let less : x < y = omega (arith, not_less, apart) in
      let rest = insert_one y xs (sorted_rest x xs sorted) (λ here. new (Contains-later x xs y here)) in (
        x ∷ rest.0,
        record {
          in_order = sorted_cons x rest.0 (λ z here. elim ((rest.1.just z).0 here) [
            | inl is ↦ elim (Contains-cons_cases y [] z is) [
              | inl same ↦ subst (λ w. nat_cmp x w ≡ Less) same (nat_cmp-less x y less)
              | inr none ↦ absurd (Contains-none z none)
            ]
            | inr later ↦ sorted_first x xs sorted z later
          ]) rest.1.in_order;
          just = λ z. (
            λ here. elim (Contains-cons_cases x rest.0 z here) [
              | inl same ↦ inr (subst (Contains (x ∷ xs)) same (Contains-first x xs))
              | inr later ↦ elim
                  ((rest.1.just z).0 later) [ inl is ↦ inl is | inr old ↦ inr (Contains-later x xs z old) ]
            ],
            λ is. elim is [
              | inl one ↦ Contains-later x rest.0 z ((rest.1.just z).1 (inl one))
              | inr here ↦ elim (Contains-cons_cases x xs z here) [
                | inl same ↦ subst (Contains (x ∷ rest.0)) same (Contains-first x rest.0)
                | inr old ↦ Contains-later x rest.0 z ((rest.1.just z).1 (inr old))
              ]
            ],
          );
          size = let sizes = rest.1.size in omega (arith, sizes);
        },
      )
]

both_lists : (ys xs : List ℕ) → IsStrictlySortedBy nat_cmp ys → IsStrictlySortedBy nat_cmp xs
    → ((z : ℕ) → Contains ys z → ¬ Contains xs z) → (zs : List ℕ) × AreBoth ys xs zs
both_lists [] xs ys_sorted xs_sorted apart = (
  xs,
  record {
    in_order = xs_sorted;
    just = λ z. (λ here. inr here, λ is. elim is [ inl none ↦ absurd (Contains-none z none) | inr here ↦ here ]);
    size = omega arith;
  },
)
both_lists (y ∷ ys) xs ys_sorted xs_sorted apart =
    let rest = both_lists ys xs (sorted_rest y ys ys_sorted) xs_sorted (λ z here. apart z (Contains-later y ys z here)) in
    let new : ¬ Contains rest.0 y = λ here. elim ((rest.1.just y).0 here) [
      | inl later ↦ not_below_itself numbers_exact.total y (sorted_first y ys ys_sorted y later)
      | inr other ↦ apart y (Contains-first y ys) other
    ] in
    let more = insert_one y rest.0 rest.1.in_order new in (
      more.0,
      record {
        in_order = more.1.in_order;
        just = λ z. (
          λ here. elim ((more.1.just z).0 here) [
            | inl one ↦ elim (Contains-cons_cases y [] z one) [
              | inl same ↦ inl (subst (Contains (y ∷ ys)) same (Contains-first y ys))
              | inr none ↦ absurd (Contains-none z none)
            ]
            | inr old ↦ elim
                ((rest.1.just z).0 old) [ inl later ↦ inl (Contains-later y ys z later) | inr other ↦ inr other ]
          ],
          λ is. elim is [
            | inl here ↦ elim (Contains-cons_cases y ys z here) [
              | inl same ↦ (more.1.just z).1 (inl (subst (Contains (y ∷ [])) same (Contains-first y [])))
              | inr later ↦ (more.1.just z).1 (inr ((rest.1.just z).1 (inl later)))
            ]
            | inr other ↦ (more.1.just z).1 (inr ((rest.1.just z).1 (inr other)))
          ],
        );
        size = let sizes = rest.1.size in let now = more.1.size in omega (arith, sizes, now);
      },
    )

-- two kinds that have no member in common have together as many as both
pub count_both : (P Q : ℕ → Type 0) (a b : ℕ) → ((x : ℕ) → P x → ¬ Q x) → HasCount nat_cmp P a → HasCount nat_cmp Q b
    → HasCount nat_cmp (λ x. P x ⊎ Q x) (a + b)
count_both P Q a b apart p q =
    let both = both_lists p.members q.members p.in_order q.in_order (λ z here also. apart z ((p.just z).0 here) ((q.just z).0 also)) in
    record {
      members = both.0;
      in_order = both.1.in_order;
      just = λ x. (
        λ here. elim ((both.1.just x).0 here) [ inl is ↦ inl ((p.just x).0 is) | inr is ↦ inr ((q.just x).0 is) ],
        λ has. (both.1.just x).1 (elim has [ inl is ↦ inl ((p.just x).1 is) | inr is ↦ inr ((q.just x).1 is) ]),
      );
      size = let sizes = both.1.size in let a_size = p.size in let b_size = q.size in omega
          (arith, sizes, a_size, b_size);
    }

-- ---- first nodes

module _ (graph : List (List ℕ)) (firsts : List ℕ) (are : AreFirsts graph firsts) where
  -- nodes that are together have the same first node
  pub together_firsts : (x y : ℕ) → x < length graph → y < length graph → AreTogether (HasEdge graph) x y
      → get_or firsts x 0 ≡ get_or firsts y 0
  together_firsts x y x_within y_within together =
      let fx = get_or firsts x 0 in
      let fy = get_or firsts y 0 in
      let x_first = are.each x x_within in
      let y_first = are.each y y_within in
      elim (cases_eq fx fy) [
        | inl same ↦ same
        | inr apart ↦ elim (cases_lt fx fy) [
          | inl less ↦ absurd (y_first.least fx (AreTogether-trans (HasEdge graph) y x fx (AreTogether-sym (HasEdge graph) x y together) x_first.here) (nat_cmp-less fx fy less))
          | inr not_less ↦ absurd (x_first.least fy (AreTogether-trans (HasEdge graph) x y fy together y_first.here) (nat_cmp-less fy fx (omega (arith, apart, not_less))))
        ]
      ]

  pub first_again : (x : ℕ) → x < length graph → get_or firsts (get_or firsts x 0) 0 ≡ get_or firsts x 0
  first_again x within = together_firsts (get_or firsts x 0) x (first_within graph firsts are x within) within
      (AreTogether-sym (HasEdge graph) x (get_or firsts x 0) (are.each x within).here)

  -- a node that has a first node is led to from there
  pub first_leads : (x first : ℕ) → x < length graph → get_or firsts x 0 ≡ first → LeadsTo (HasEdge graph) first x
  first_leads x first within is = subst (λ r. LeadsTo (HasEdge graph) r x) is (are.each x within).here.back

  leads_first : (x first : ℕ) → x < length graph → get_or firsts x 0 ≡ first → LeadsTo (HasEdge graph) x first
  leads_first x first within is = subst (λ r. LeadsTo (HasEdge graph) x r) is (are.each x within).here.forth

  -- ---- what a cycle leads to

  module _ (nodes targets : List ℕ) (hold : HoldEnds graph nodes)
      (just : (x : ℕ) → Contains targets x ↔ Contains nodes x) (in_order : IsStrictlySortedBy nat_cmp targets) where
    pub holds_walk : (n x y : ℕ) → Contains nodes x → Walk (HasEdge graph) n x y → Contains nodes y
    holds_walk zero x y here same = subst (Contains nodes) same here
    holds_walk (suc n) x y here walk = holds_walk n walk.0 y (hold.ends x walk.0 here walk.1) walk.2

    module _ (node : ℕ) (here : Contains nodes node) where
      abbrev first : ℕ
      first = get_or firsts node 0

      first_here : Contains nodes first
      first_here = let leads = (are.each node (hold.within node here)).here.forth in holds_walk leads.0 node
          (get_or firsts node 0) here leads.1

      first_first : get_or firsts first 0 ≡ first
      first_first = first_again node (hold.within node here)

      abbrev OnCycle : ℕ → Type 0
      OnCycle y = Contains targets y × (get_or firsts y 0 ≡ first)

      on_cycle_led : (y : ℕ) → OnCycle y → Contains targets y × LeadsTo (HasEdge graph) first y
      on_cycle_led y is = (is.0, first_leads y first (hold.within y ((just y).0 is.0)) is.1)

      walk_stays : ((x y : ℕ) → Contains nodes x → get_or firsts x 0 ≡ first → HasEdge graph x y → get_or firsts y 0 ≡ first)
          → (n x y : ℕ) → Contains nodes x → get_or firsts x 0 ≡ first → Walk (HasEdge graph) n x y
          → get_or firsts y 0 ≡ first
      walk_stays stays zero x y inside is same = subst (λ z. get_or firsts z 0 ≡ first) same is
      walk_stays stays (suc n) x y inside is walk =
          walk_stays stays n walk.0 y (hold.ends x walk.0 inside walk.1) (stays x walk.0 inside is walk.1) walk.2

      -- a cycle that leads into no other leads to its own nodes
      count_alone : ((x y : ℕ) → Contains nodes x → get_or firsts x 0 ≡ first → HasEdge graph x y → get_or firsts y 0 ≡ first)
          → (size : ℕ) → HasCount nat_cmp OnCycle size → LeadsToCount graph targets first size
      count_alone stays size counted =
          count_same OnCycle (λ y. Contains targets y × LeadsTo (HasEdge graph) first y) size
          (λ y. (on_cycle_led y, λ led. (led.0, walk_stays stays led.1.0 first y first_here first_first led.1.1))) counted

      module _ (next : ℕ) (is_next : IsNext graph firsts first next)
          (goes : (x y : ℕ) → Contains nodes x → get_or firsts x 0 ≡ first → HasEdge graph x y → (get_or firsts y 0 ≡ first) ⊎ (get_or firsts y 0 ≡ next)) where
        walk_goes : (n x y : ℕ) → Contains nodes x → get_or firsts x 0 ≡ first → Walk (HasEdge graph) n x y
            → (get_or firsts y 0 ≡ first) ⊎ LeadsTo (HasEdge graph) next y
        walk_goes zero x y inside is same = inl (subst (λ z. get_or firsts z 0 ≡ first) same is)
        walk_goes (suc n) x y inside is walk =
            let z_here = hold.ends x walk.0 inside walk.1 in
            elim (goes x walk.0 inside is walk.1) [
              | inl stays ↦ walk_goes n walk.0 y z_here stays walk.2
              | inr leaves ↦ inr (LeadsTo-trans (HasEdge graph) next walk.0 y (first_leads walk.0 next (hold.within walk.0 z_here) leaves) (n, walk.2))
            ]

        -- nothing on the cycle is led to from the next one
        cycles_apart : (y : ℕ) → OnCycle y → ¬ (Contains targets y × LeadsTo (HasEdge graph) next y)
        cycles_apart y is led =
            let y_within = hold.within y ((just y).0 is.0) in
            let back = LeadsTo-trans (HasEdge graph) next y first led.1 (leads_first y first y_within is.1) in
            let same = together_firsts next first is_next.within (hold.within first first_here) (record { forth = back; back = is_next.leads }) in
            is_next.apart (sym is_next.first ∙ same ∙ first_first)

        count_next : (size sum : ℕ) → HasCount nat_cmp OnCycle size → LeadsToCount graph targets next sum
            → LeadsToCount graph targets first (size + sum)
        count_next size sum own other = count_same
            (λ y. OnCycle y ⊎ (Contains targets y × LeadsTo (HasEdge graph) next y))
            (λ y. Contains targets y × LeadsTo (HasEdge graph) first y) (size + sum)
            (λ y. (
              λ is. elim is [ inl on ↦ on_cycle_led y on | inr led ↦ (led.0, LeadsTo-trans (HasEdge graph) first next y is_next.leads led.1) ],
              λ led. elim (walk_goes led.1.0 first y first_here first_first led.1.1) [ inl on ↦ inl (led.0, on) | inr leads ↦ inr (led.0, leads) ],
            ))
            (count_both OnCycle (λ y. Contains targets y × LeadsTo (HasEdge graph) next y) size sum cycles_apart own other)

      -- the sum of a cycle that leads into one other at most is right
      module _ (next : Option ℕ) (size : ℕ) (sums : List (Option ℕ)) (are_sums : AreSums graph targets sums)
          (few : length targets < 2 ^ 64) (own : HasCount nat_cmp OnCycle size)
          (is_next : (to : ℕ) → next ≡ Some to → IsNext graph firsts first to)
          (goes : (x y : ℕ) → Contains nodes x → get_or firsts x 0 ≡ first → HasEdge graph x y → IsHereOrNext firsts first next y) where
        sum_after : (to : ℕ) → next ≡ Some to → (there : Option ℕ) → option_at sums to ≡ there → (sum : ℕ)
            → option_map (λ s. min (s + size) (2 ^ 64 - 1)) there ≡ Some sum → LeadsToCount graph targets first sum
        sum_after to some None none sum is = cc
        sum_after to some (Some other) there sum is =
            let counted = count_next to (is_next to some) (λ x y inside on edge. elim (goes x y inside on edge) [
              | inl stays ↦ inl stays
              | inr leaves ↦ let same : Some to ≡ Some (get_or firsts y 0) = sym some ∙ leaves in let e : get_or firsts y 0 ≡ to = cc in inr e
            ]) size other own (are_sums.each to other there) in
            let bound = count_within (LeadsTo (HasEdge graph) first) targets (size + other) in_order counted in
            let least : min (other + size) (2 ^ 64 - 1) ≡ sum = cc in
            let same : size + other ≡ sum = omega (arith, bound, few, least) in
            subst (LeadsToCount graph targets first) same counted

        sum_right : (read : Option ℕ) → next ≡ read → (sum : ℕ) → sum_with size sums read ≡ Some sum
            → LeadsToCount graph targets first sum
        sum_right None none sum is =
            let same : size ≡ sum = cc in
            subst (LeadsToCount graph targets first) same (count_alone (λ x y inside on edge. elim (goes x y inside on edge) [
              | inl stays ↦ stays
              | inr leaves ↦ let no_next : None ≡ Some (get_or firsts y 0) = sym none ∙ leaves in cc
            ]) size own)
        sum_right (Some to) some sum is = sum_after to some (option_at sums to) refl sum is

        pub sums_more : (value : Option ℕ) → value ≡ sum_with size sums next → first < length sums
            → AreSums graph targets (set sums first value)
        sums_more value is inside = record {
          size = length-set sums first value ∙ are_sums.size;
          each = λ x sum at. elim (cases_eq x first) [
            | inl same ↦
                let here : option_at (set sums first value) first ≡ Some sum = subst (λ z. option_at (set sums first value) z ≡ Some sum) same at in
                let found : sum_with size sums next ≡ Some sum = sym is ∙ sym (get_or-set_same sums first value None inside) ∙ here in
                subst (λ z. LeadsToCount graph targets z sum) (sym same) (sum_right next refl sum found)
            | inr apart ↦ are_sums.each x sum (sym (get_or-set_other sums first x value None apart) ∙ at)
          ];
        }
