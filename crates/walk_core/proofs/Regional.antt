-- Counts region by region.
use Rattle.std.proofs.Common.{◌≡◌, ◌≢◌, ◌↔◌, inl, inr, ◌+◌, ◌<◌, ◌≤◌, ℕ, zero, suc, Bool, List, Option, None, Some}
use Rattle.std.proofs.Common.{refl, sym, ◌∙◌, ap, subst, length, get_or, replicate, arith}
use Rattle.std.specs.List.{Contains}
use Rattle.std.specs.Option.{unwrap_or}
use Rattle.std.specs.Ordering.{nat_cmp}
use Rattle.std.specs.List.Sorted.{IsStrictlySortedBy}
use Rattle.std.proofs.lemmas.Bool.{cases_eq}
use Rattle.std.proofs.lemmas.List.Kept.{IsStrictlySortedBy-filter}
use Rattle.lattice_core.specs.MemberLaws.{Contains-of_filter, Contains-to_filter}
use Rattle.walk_core.specs.Walks.{Walk}
use Rattle.walk_core.specs.Digraphs.{HasEdge, IsMarked, ends_of}
use Rattle.walk_core.specs.RankLaws.{LeadsTo-trans}
use Rattle.walk_core.specs.Components.{AreFirsts}
use Rattle.walk_core.specs.Marks.{AreCountsElsewhere, HoldEnds, LeadsToCount}
use Rattle.walk_core.specs.Regions.{AreGrouped, AreRegions, has_label, label_of}
use Rattle.walk_core.specs.Sums.{AreSums, LacksSum, PutsSums, option_at}
use Rattle.walk_core.proofs.Labels.{labelled_as, labelled_yes}
use Rattle.walk_core.proofs.Ordered.{count_same}
use Rattle.walk_core.specs.Writes.{same_read}

-- the nodes of the first regions that lack a sum are counted, and those of the others have the count 0
pub record AreCountedTo (graph : List (List ℕ)) (firsts nodes targets : List ℕ) (sums labels : List (Option ℕ))
    (counts : List ℕ) (count : ℕ) : Type 0 where
  pub counted : (x label : ℕ) → Contains nodes x → label_of labels x ≡ Some label → label < count
      → LacksSum firsts sums x → LeadsToCount graph targets x (get_or counts (get_or firsts x 0) 0)
  pub zero : (x label : ℕ) → Contains nodes x → label_of labels x ≡ Some label → count ≤ label
      → get_or counts (get_or firsts x 0) 0 ≡ 0

pub counted_none : {graph : List (List ℕ)} {firsts nodes targets : List ℕ} {sums labels : List (Option ℕ)} (size : ℕ)
    → AreCountedTo graph firsts nodes targets sums labels (replicate size 0) 0
counted_none {firsts = firsts} size = record {
  counted = λ x label here is less. absurd (omega (arith, less));
  zero = λ x label here is past. same_read size (get_or firsts x 0) 0;
}

-- the nodes with a label, which no edge leaves, and the targets among them
pub record IsRegion (graph : List (List ℕ)) (firsts nodes targets : List ℕ) (labels : List (Option ℕ)) (label : ℕ)
    (region region_targets : List ℕ) : Type 0 where
  pub listed : (x : ℕ) → Contains region x ↔ (Contains nodes x × (label_of labels x ≡ Some label))
  pub holds : HoldEnds graph region
  pub inside : (x : ℕ) → Contains region_targets x → Contains region x
  pub in_order : IsStrictlySortedBy nat_cmp region_targets
  pub counts : (x count : ℕ) → Contains region x → LeadsToCount graph region_targets x count
      → LeadsToCount graph targets x count
  pub first : (x : ℕ) → Contains nodes x → label_of labels x ≡ label_of labels (get_or firsts x 0)

-- the row of a label has the nodes with this label
row_listed : {labels : List (Option ℕ)} {nodes : List ℕ} {rows : List (List ℕ)} → AreGrouped labels nodes rows
    → (label x : ℕ) → label < length labels
    → Contains (ends_of rows label) x ↔ (Contains nodes x × (label_of labels x ≡ Some label))
row_listed {labels} {nodes} grouped label x inside = rw (grouped.each label inside) (
  λ here. let found = Contains-of_filter (has_label labels label) nodes x here in
      (found.0, labelled_as labels label x found.1),
  λ is. Contains-to_filter (has_label labels label) nodes x is.0 (labelled_yes labels label x is.1),
)

module _ {graph : List (List ℕ)} {firsts : List ℕ} (are : AreFirsts graph firsts) {kept : List Bool}
    {nodes : List ℕ} (hold : HoldEnds graph nodes) (marked : (x : ℕ) → Contains nodes x → IsMarked kept x)
    {labels : List (Option ℕ)} (regions : AreRegions graph kept labels) where
  alike : (x y : ℕ) → Contains nodes x → HasEdge graph x y → label_of labels x ≡ label_of labels y
  alike x y here edge = regions.alike x y (marked x here) (marked y (hold.ends x y here edge)) edge

  alike_walk : (n x y : ℕ) → Contains nodes x → Walk (HasEdge graph) n x y → label_of labels x ≡ label_of labels y
  alike_walk zero x y here same = ap (label_of labels) same
  alike_walk (suc n) x y here walk =
      alike x walk.0 here walk.1 ∙ alike_walk n walk.0 y (hold.ends x walk.0 here walk.1) walk.2

  -- the rows of a label are a region and its targets
  pub is_region : {targets : List ℕ} → ((x : ℕ) → Contains targets x ↔ Contains nodes x)
      → IsStrictlySortedBy nat_cmp targets → {rows target_rows : List (List ℕ)} → AreGrouped labels nodes rows
      → AreGrouped labels targets target_rows → (label : ℕ) → label < length graph
      → IsRegion graph firsts nodes targets labels label (ends_of rows label) (ends_of target_rows label)
  is_region {targets} just in_order {rows} {target_rows} grouped targets_grouped label within =
      let inside : label < length labels = omega (arith, within, regions.size) in
      let listed = λ (x : ℕ). row_listed grouped label x inside in
      let targets_listed = λ (x : ℕ). row_listed targets_grouped label x inside in
      record {
        listed = listed;
        holds = record {
          within = λ x here. hold.within x ((listed x).0 here).0;
          ends = λ x y here edge. let of = (listed x).0 here in
              (listed y).1 (hold.ends x y of.0 edge, sym (alike x y of.0 edge) ∙ of.1);
        };
        inside = λ x here. let of = (targets_listed x).0 here in (listed x).1 ((just x).0 of.0, of.1);
        in_order = rw (targets_grouped.each label inside)
            (IsStrictlySortedBy-filter nat_cmp (has_label labels label) targets in_order);
        counts = λ x count here counted. let of = (listed x).0 here in
            count_same _ _ count (λ y. (
              λ is. (((targets_listed y).0 is.0).0, is.1),
              λ is. ((targets_listed y).1 (is.0, sym (alike_walk is.1.0 x y of.0 is.1.1) ∙ of.1), is.1),
            )) counted;
        first = λ x here. let leads = (are.each x (hold.within x here)).here.forth in
            alike_walk leads.0 x (get_or firsts x 0) here leads.1;
      }

-- ---- one region more is counted

module _ {graph : List (List ℕ)} {firsts nodes targets : List ℕ} {sums labels : List (Option ℕ)} {label : ℕ}
    {region region_targets : List ℕ}
    (this : IsRegion graph firsts nodes targets labels label region region_targets) {before : List ℕ}
    (was : AreCountedTo graph firsts nodes targets sums labels before label) where
  pub region_zero : (x : ℕ) → Contains region x → get_or before (get_or firsts x 0) 0 ≡ 0
  region_zero x here = let of = (this.listed x).0 here in was.zero x label of.0 of.1 (omega arith)

  module _ (now : List ℕ) (each : (x : ℕ) → Contains region x → LacksSum firsts sums x
      → LeadsToCount graph region_targets x (get_or now (get_or firsts x 0) 0))
      (elsewhere : AreCountsElsewhere firsts region before now) where
    -- the count of a node of another region stays
    other_count : (x other : ℕ) → Contains nodes x → label_of labels x ≡ Some other → other ≢ label
        → get_or now (get_or firsts x 0) 0 ≡ get_or before (get_or firsts x 0) 0
    other_count x other here is apart = elim (elsewhere (get_or firsts x 0)) [
      | inr same ↦ same
      | inl found ↦
          let of = (this.listed found.0).0 found.1 in
          let same : other ≡ label = cc (this.first x here, this.first found.0 of.0) in
          absurd (apart same)
    ]

    pub region_counted : AreCountedTo graph firsts nodes targets sums labels now (label + 1)
    region_counted = record {
      counted = λ x other here is less lacks. elim (cases_eq other label) [
        | inl same ↦ let in_region = (this.listed x).1 (here, is ∙ ap Some same) in
            this.counts x (get_or now (get_or firsts x 0) 0) in_region (each x in_region lacks)
        | inr apart ↦ subst (LeadsToCount graph targets x) (sym (other_count x other here is apart))
            (was.counted x other here is (omega (arith, less, apart)) lacks)
      ];
      zero = λ x other here is past. other_count x other here is (omega (arith, past))
          ∙ was.zero x other here is (omega (arith, past));
    }

-- all regions are counted
module _ {graph : List (List ℕ)} {firsts : List ℕ} {kept : List Bool} {nodes targets : List ℕ}
    (marked : (x : ℕ) → Contains nodes x → IsMarked kept x) {sums labels : List (Option ℕ)}
    (regions : AreRegions graph kept labels) {counts : List ℕ} {count : ℕ} (all : length graph ≤ count)
    (done : AreCountedTo graph firsts nodes targets sums labels counts count) where
  counted_at : (x : ℕ) (read : Option ℕ) → label_of labels x ≡ read → Contains nodes x → LacksSum firsts sums x
      → LeadsToCount graph targets x (get_or counts (get_or firsts x 0) 0)
  counted_at x None is here lacks = absurd (regions.named x (marked x here) is)
  counted_at x (Some label) is here lacks = done.counted x label here is
      (let within = regions.within x label is in omega (arith, within, all)) lacks

  pub regions_counted : (x : ℕ) → Contains nodes x → LacksSum firsts sums x
      → LeadsToCount graph targets x (get_or counts (get_or firsts x 0) 0)
  regions_counted x here lacks = counted_at x (label_of labels x) refl here lacks

-- ---- the sums and the other counts

module _ {graph : List (List ℕ)} {firsts : List ℕ} (are : AreFirsts graph firsts) {nodes : List ℕ}
    (hold : HoldEnds graph nodes) where
  -- a node leads to what its first node leads to
  count_of_first : (targets : List ℕ) (x count : ℕ) → Contains nodes x
      → LeadsToCount graph targets (get_or firsts x 0) count → LeadsToCount graph targets x count
  count_of_first targets x count here counted =
      let together = (are.each x (hold.within x here)).here in
      count_same _ _ count (λ y. (
        λ is. (is.0, LeadsTo-trans (HasEdge graph) x (get_or firsts x 0) y together.forth is.1),
        λ is. (is.0, LeadsTo-trans (HasEdge graph) (get_or firsts x 0) x y together.back is.1),
      )) counted

  module _ {targets : List ℕ} {sums : List (Option ℕ)} (are_sums : AreSums graph targets sums) {counts now : List ℕ}
      (others : (x : ℕ) → Contains nodes x → LacksSum firsts sums x
      → LeadsToCount graph targets x (get_or counts (get_or firsts x 0) 0))
      (puts : PutsSums sums counts now) where
    -- the sum, or where there is none, the count
    count_read : (x : ℕ) (read : Option ℕ) → option_at sums (get_or firsts x 0) ≡ read → Contains nodes x
        → LeadsToCount graph targets x (unwrap_or read (get_or counts (get_or firsts x 0) 0))
    count_read x None is here = others x here is
    count_read x (Some sum) is here = count_of_first targets x sum here (are_sums.each (get_or firsts x 0) sum is)

    pub all_counted : (x : ℕ) → Contains nodes x → LeadsToCount graph targets x (get_or now (get_or firsts x 0) 0)
    all_counted x here =
        rw (puts.each (get_or firsts x 0)) (count_read x (option_at sums (get_or firsts x 0)) refl here)
