-- Labels of regions: a search on its way, all searches, and the nodes of each label.
use Rattle.std.proofs.Common.{◌≡◌, ◌≢◌, ◌⊎◌, inl, inr, ◌+◌, ◌<◌, ◌≤◌, ◌++◌, ◌∷◌, [], ℕ, zero, suc, Bool, true, false}
use Rattle.std.proofs.Common.{cond, is_none, List, Option, None, Some, refl, sym, ◌∙◌, ap, subst, length, replicate}
use Rattle.std.proofs.Common.{set, take, get_or, arith}
use Rattle.std.specs.List.{Contains, count_by, filter}
use Rattle.std.proofs.lemmas.Bool.{cases_eq, eq-eqb, ne_eqb, eqb-true}
use Rattle.std.proofs.lemmas.List.{append-nil, get_or-set_same, get_or-set_other, length-replicate, length-set}
use Rattle.std.proofs.lemmas.List.Elements.{Contains-push_cases, Contains-append_left, Contains-append_right}
use Rattle.std.proofs.lemmas.List.Elements.{filter_more}
use Rattle.std.proofs.lemmas.List.Sums.{sum_by-set}
use Rattle.lattice_core.specs.MemberLaws.{Contains-none}
use Rattle.walk_core.specs.Digraphs.{HasEdge, IsMarked, ends_of, row}
use Rattle.walk_core.specs.Regions.{label_of, AreAlike, AreRegions, Waits, HasLabelled, is_label, has_label, AreGrouped}
use Rattle.walk_core.specs.Writes.{same_read, slice_get-set_other, slice_get-set_same}

-- ---- labels read and written

-- how many nodes have no label yet
abbrev pub unlabelled : List (Option ℕ) → ℕ
unlabelled labels = count_by is_none labels

abbrev weight : Option ℕ → ℕ
weight label = cond (is_none label) 1 0

-- a node that gets a label is one less that has none
pub fewer_unlabelled : (labels : List (Option ℕ)) (node start : ℕ) → node < length labels → label_of labels node ≡ None
    → unlabelled (set labels node (Some start)) + 1 ≡ unlabelled labels
fewer_unlabelled labels node start within none =
    let changed = sum_by-set weight labels node (Some start) None within in
    let was : weight (get_or labels node None) ≡ 1 = ap weight none in
    omega (arith, changed, was)

module _ (labels : List (Option ℕ)) (node start : ℕ) (within : node < length labels) where
  label_set : (x : ℕ) → ((x ≡ node) × (label_of (set labels node (Some start)) x ≡ Some start))
      ⊎ ((x ≢ node) × (label_of (set labels node (Some start)) x ≡ label_of labels x))
  label_set x = elim (cases_eq x node) [
    | inl same ↦ inl (same, subst (λ y. label_of (set labels node (Some start)) y ≡ Some start) (sym same) (get_or-set_same labels node (Some start) None within))
    | inr other ↦ inr (other, get_or-set_other labels node x (Some start) None other)
  ]

-- ---- a search on its way

-- the search gave the node its label
pub record IsNew (kept : List Bool) (start : ℕ) (before now : List (Option ℕ)) (x : ℕ) : Type 0 where
  pub was : Waits kept before x
  pub is : label_of now x ≡ Some start

pub record IsLabelling (graph : List (List ℕ)) (kept : List Bool) (start : ℕ) (before now : List (Option ℕ)) (ahead : List ℕ) : Type 0 where
  pub size : length now ≡ length before
  pub each : (x : ℕ) → (label_of now x ≡ label_of before x) ⊎ IsNew kept start before now x
  pub closed : (x y : ℕ) → IsNew kept start before now x → HasEdge graph x y ⊎ HasEdge graph y x → Waits kept now y
      → Contains ahead y
  pub begun : Waits kept now start → Contains ahead start

module _ (graph : List (List ℕ)) (kept : List Bool) (start : ℕ) (before : List (Option ℕ)) where
  pub labelling_starts : (ahead : List ℕ) → Contains ahead start → IsLabelling graph kept start before before ahead
  labelling_starts ahead here = record {
    size = refl;
    each = λ x. inl refl;
    closed = λ x y new joins waits. let no_label : None ≡ Some start = sym new.was.unlabelled ∙ new.is in cc;
    begun = λ waits. here;
  }

  module _ (now : List (Option ℕ)) (rest : List ℕ) (node : ℕ)
      (labelling : IsLabelling graph kept start before now (rest ++ node ∷ [])) where
    later : ¬ Waits kept now node → (y : ℕ) → Waits kept now y → Contains (rest ++ node ∷ []) y → Contains rest y
    later not_open y waits here = elim (Contains-push_cases rest node y here) [
      | inl earlier ↦ earlier
      | inr same ↦ absurd (not_open (subst (Waits kept now) (sym same) waits))
    ]

    -- a node that doesn't wait is passed over
    pub labelling_passes : ¬ Waits kept now node → IsLabelling graph kept start before now rest
    labelling_passes not_open = record {
      size = labelling.size;
      each = labelling.each;
      closed = λ x y new joins waits. later not_open y waits (labelling.closed x y new joins waits);
      begun = λ waits. later not_open start waits (labelling.begun waits);
    }

    -- one that waits is labelled, and what an edge joins with it is ahead
    module _ (within : node < length now) (is_open : Waits kept now node) (ends namers : List ℕ)
        (are_ends : (y : ℕ) → HasEdge graph node y → Contains ends y)
        (are_namers : (y : ℕ) → HasEdge graph y node → Contains namers y) where
      after : List (Option ℕ)
      after = set now node (Some start)

      was_open : Waits kept before node
      was_open = elim (labelling.each node) [
        | inl same ↦ record { marked = is_open.marked; unlabelled = sym same ∙ is_open.unlabelled }
        | inr new ↦ new.was
      ]

      new_here : IsNew kept start before after node
      unfolding after
      new_here = elim (label_set now node start within node) [
        | inl at ↦ record { was = was_open; is = at.1 }
        | inr other ↦ absurd (other.0 refl)
      ]

      -- what waits yet is another node, and waited before
      waits_yet : (y : ℕ) → Waits kept after y → (y ≢ node) × Waits kept now y
      unfolding after
      waits_yet y waits = elim (label_set now node start within y) [
        | inl at ↦ let no_label : None ≡ Some start = sym waits.unlabelled ∙ at.1 in cc
        | inr other ↦ (other.0, record { marked = waits.marked; unlabelled = sym other.1 ∙ waits.unlabelled })
      ]

      ahead_yet : (y : ℕ) → Waits kept after y → Contains (rest ++ node ∷ []) y → Contains ((rest ++ ends) ++ namers) y
      ahead_yet y waits here = elim (Contains-push_cases rest node y here) [
        | inl earlier ↦ Contains-append_left (rest ++ ends) namers y (Contains-append_left rest ends y earlier)
        | inr same ↦ absurd ((waits_yet y waits).0 (sym same))
      ]

      joined_ahead : (x y : ℕ) → x ≡ node → HasEdge graph x y ⊎ HasEdge graph y x
          → Contains ((rest ++ ends) ++ namers) y
      joined_ahead x y same (inl edge) = Contains-append_left (rest ++ ends) namers y
          (Contains-append_right rest ends y (are_ends y (subst (λ z. HasEdge graph z y) same edge)))
      joined_ahead x y same (inr edge) =
          Contains-append_right (rest ++ ends) namers y (are_namers y (subst (λ z. HasEdge graph y z) same edge))

      takes_each : (x : ℕ) → (label_of after x ≡ label_of before x) ⊎ IsNew kept start before after x
      unfolding after
      takes_each x = elim (label_set now node start within x) [
        | inl at ↦ inr (subst (IsNew kept start before (set now node (Some start))) (sym at.0) new_here)
        | inr other ↦ elim (labelling.each x) [
          | inl same ↦ inl (other.1 ∙ same)
          | inr new ↦ inr (record { was = new.was; is = other.1 ∙ new.is })
        ]
      ]

      takes_closed : (x y : ℕ) → IsNew kept start before after x → HasEdge graph x y ⊎ HasEdge graph y x
          → Waits kept after y → Contains ((rest ++ ends) ++ namers) y
      unfolding after
      takes_closed x y new joins waits = elim (label_set now node start within x) [
        | inl at ↦ joined_ahead x y at.0 joins
        | inr other ↦ ahead_yet y waits
            (labelling.closed x y (record { was = new.was; is = sym other.1 ∙ new.is }) joins (waits_yet y waits).1)
      ]

      pub labelling_takes : IsLabelling graph kept start before (set now node (Some start)) ((rest ++ ends) ++ namers)
      unfolding after
      labelling_takes = record {
        size = length-set now node (Some start) ∙ labelling.size;
        each = takes_each;
        closed = takes_closed;
        begun = λ waits. ahead_yet start waits (labelling.begun (waits_yet start waits).1);
      }

  -- the search has ended
  module _ (now : List (Option ℕ)) (labelling : IsLabelling graph kept start before now []) where
    none_waits : (x y : ℕ) → IsNew kept start before now x → HasEdge graph x y ⊎ HasEdge graph y x → ¬ Waits kept now y
    none_waits x y new joins waits = Contains-none y (labelling.closed x y new joins waits)

    alike_now : AreAlike graph kept before → AreAlike graph kept now
    alike_now alike x y x_kept y_kept edge = elim (labelling.each x) [
      | inl x_same ↦ elim (labelling.each y) [
        | inl y_same ↦ x_same ∙ alike x y x_kept y_kept edge ∙ sym y_same
        | inr y_new ↦ absurd (none_waits y x y_new (inr edge) (record { marked = x_kept; unlabelled = x_same ∙ alike x y x_kept y_kept edge ∙ y_new.was.unlabelled }))
      ]
      | inr x_new ↦ elim (labelling.each y) [
        | inl y_same ↦ absurd (none_waits x y x_new (inl edge) (record { marked = y_kept; unlabelled = y_same ∙ sym (alike x y x_kept y_kept edge) ∙ x_new.was.unlabelled }))
        | inr y_new ↦ x_new.is ∙ sym y_new.is
      ]
    ]

    pub labelled_all : HasLabelled graph kept start before now
    labelled_all = record {
      size = labelling.size;
      each = λ x. elim (labelling.each x) [ inl same ↦ inl same | inr new ↦ inr new.is ];
      begun = λ marked none. Contains-none start (labelling.begun (record { marked = marked; unlabelled = none }));
      alike = alike_now;
    }

-- ---- all searches

-- each of the first kept nodes has a label
pub record AreRegionsTo (graph : List (List ℕ)) (kept : List Bool) (labels : List (Option ℕ)) (count : ℕ) : Type 0 where
  pub size : length labels ≡ length graph
  pub named : (x : ℕ) → x < count → IsMarked kept x → label_of labels x ≢ None
  pub within : (x label : ℕ) → label_of labels x ≡ Some label → label < length graph
  pub alike : AreAlike graph kept labels

pub regions_none : (graph : List (List ℕ)) (kept : List Bool) (size : ℕ) → size ≡ length graph
    → AreRegionsTo graph kept (replicate size None) 0
regions_none graph kept size sized = record {
  size = length-replicate size None ∙ sized;
  named = λ x less. absurd (omega (arith, less));
  within = λ x label is. let no_label : None ≡ Some label = sym (same_read size x None) ∙ is in cc;
  alike = λ x y x_kept y_kept edge. same_read size x None ∙ sym (same_read size y None);
}

module _ (graph : List (List ℕ)) (kept : List Bool) (labels : List (Option ℕ)) (count : ℕ)
    (are : AreRegionsTo graph kept labels count) where
  pub regions_skip : ¬ Waits kept labels count → AreRegionsTo graph kept labels (count + 1)
  regions_skip not_open = record {
    size = are.size;
    named = λ x less marked none. elim (cases_eq x count) [
      | inl same ↦ not_open (subst (Waits kept labels) same (record { marked = marked; unlabelled = none }))
      | inr other ↦ are.named x (omega (arith, less, other)) marked none
    ];
    within = are.within;
    alike = are.alike;
  }

  module _ (within : count < length graph) (after : List (Option ℕ))
      (has : HasLabelled graph kept count labels after) where
    some_label : (x label : ℕ) → label_of after x ≡ Some label → label < length graph
    some_label x label is = elim (has.each x) [
      | inl same ↦ are.within x label (sym same ∙ is)
      | inr new ↦ let same : Some count ≡ Some label = sym new ∙ is in let e : count ≡ label = cc in omega
          (arith, within, e)
    ]

    pub regions_more : AreRegionsTo graph kept after (count + 1)
    regions_more = record {
      size = has.size ∙ are.size;
      named = λ x less marked none. elim (cases_eq x count) [
        | inl same ↦ has.begun (subst (IsMarked kept) same marked) (subst (λ y. label_of after y ≡ None) same none)
        | inr other ↦ elim (has.each x) [
          | inl kept_label ↦ are.named x (omega (arith, less, other)) marked (sym kept_label ∙ none)
          | inr new ↦ let no_label : None ≡ Some count = sym none ∙ new in cc
        ]
      ];
      within = some_label;
      alike = has.alike are.alike;
    }

pub regions_all : (graph : List (List ℕ)) (kept : List Bool) (labels : List (Option ℕ)) (count : ℕ)
    → length kept ≤ count → ((x : ℕ) → IsMarked kept x → x < length kept) → AreRegionsTo graph kept labels count
    → AreRegions graph kept labels
regions_all graph kept labels count all inside are = record {
  size = are.size;
  named = λ x marked. are.named x (let within = inside x marked in omega (arith, within, all)) marked;
  within = are.within;
  alike = are.alike;
}

-- ---- the nodes of each label

no_ends : (size label : ℕ) → ends_of (replicate size []) label ≡ []
no_ends zero label = refl
no_ends (suc size) zero = refl
no_ends (suc size) (suc label) = no_ends size label

module _ (labels : List (Option ℕ)) where
  pub labelled_yes : (label x : ℕ) → label_of labels x ≡ Some label → has_label labels label x ≡ true
  labelled_yes label x is = ap (is_label label) is ∙ eq-eqb label label refl

  labelled_no : (label other x : ℕ) → label_of labels x ≡ Some other → other ≢ label → has_label labels label x ≡ false
  labelled_no label other x is apart = ap (is_label label) is ∙ ne_eqb other label apart

  label_yes : (label : ℕ) (read : Option ℕ) → is_label label read ≡ true → read ≡ Some label
  label_yes label None is = cc
  label_yes label (Some other) is = ap Some (eqb-true other label is)

  pub labelled_as : (label x : ℕ) → has_label labels label x ≡ true → label_of labels x ≡ Some label
  labelled_as label x is = label_yes label (label_of labels x) is

  module _ (nodes : List ℕ) (i node : ℕ) (within : i < length nodes) (is : node ≡ get_or nodes i node)
      (rows : List (List ℕ)) (are : AreGrouped labels (take i nodes) rows) where
    row_more : (label : ℕ) (passes : Bool) → has_label labels label node ≡ passes → filter (has_label labels label)
        (take (i + 1) nodes) ≡ filter (has_label labels label) (take i nodes) ++ cond passes (node ∷ []) []
    row_more label passes told =
        let more = filter_more (has_label labels label) nodes i node within in
        let read : cond (has_label labels label (get_or nodes i node)) (get_or nodes i node ∷ []) [] ≡ cond passes (node ∷ []) [] =
        ap (λ y. cond (has_label labels label y) (y ∷ []) []) (sym is) ∙ ap (λ b. cond b (node ∷ []) []) told in
        more ∙ ap (λ ys. filter (has_label labels label) (take i nodes) ++ ys) read

    pub grouped_skips : label_of labels node ≡ None → AreGrouped labels (take (i + 1) nodes) rows
    grouped_skips none = record {
      size = are.size;
      each = λ label inside. are.each label inside ∙ sym (row_more label false (ap (is_label label) none) ∙ append-nil (filter (has_label labels label) (take i nodes)));
    }

    module _ (label : ℕ) (named : label_of labels node ≡ Some label) (inside_rows : label < length rows) (old : List ℕ)
        (read : ends_of rows label ≡ old) where
      row_now : (other : ℕ) → other < length labels
          → ends_of (set rows label (old ++ node ∷ [])) other ≡ filter (has_label labels other) (take (i + 1) nodes)
      row_now other inside = elim (cases_eq other label) [
        | inl same ↦
            let here : ends_of (set rows label (old ++ node ∷ [])) label ≡ old ++ node ∷ [] = ap row (slice_get-set_same rows label (old ++ node ∷ []) inside_rows) in
            let was : old ≡ filter (has_label labels label) (take i nodes) = sym read ∙ are.each label (omega (arith, inside, same)) in
            let now : ends_of (set rows label (old ++ node ∷ [])) label ≡ filter (has_label labels label) (take (i + 1) nodes) =
            here ∙ ap (λ ys. ys ++ node ∷ []) was ∙ sym (row_more label true (labelled_yes label node named)) in
            subst (λ l. ends_of (set rows label (old ++ node ∷ [])) l ≡ filter (has_label labels l) (take (i + 1) nodes)) (sym same) now
        | inr apart ↦
            ap row (slice_get-set_other rows label (old ++ node ∷ []) other apart) ∙ are.each other inside
            ∙ sym (row_more other false (labelled_no other label node named (λ e. apart (sym e))) ∙ append-nil (filter (has_label labels other) (take i nodes)))
      ]

      pub grouped_takes : AreGrouped labels (take (i + 1) nodes) (set rows label (old ++ node ∷ []))
      grouped_takes = record { size = length-set rows label (old ++ node ∷ []) ∙ are.size; each = row_now }

  pub grouped_none : (rows : List (List ℕ)) (size : ℕ) → rows ≡ replicate size [] → size ≡ length labels
      → AreGrouped labels [] rows
  grouped_none rows size are sized = record {
    size = ap length are ∙ length-replicate size [] ∙ sized;
    each = λ label inside. ap (λ graph. ends_of graph label) are ∙ no_ends size label;
  }
