-- A block of targets: its marks, and what they add to the counts.
use Rattle.std.proofs.Common.{◌≡◌, ◌⊎◌, inl, inr, ◌+◌, ◌-◌, ◌*◌, ◌/◌, ◌%◌, ◌<◌, ◌≤◌, ◌^◌, ℕ, zero, suc, List, [], ◌∷◌}
use Rattle.std.proofs.Common.{◌++◌, refl, sym, ◌∙◌, ap, subst, length, set, take, drop, replicate, get_or, arith}
use Rattle.std.specs.Prelude.{count_ones}
use Rattle.std.specs.Int.{bit_at}
use Rattle.std.specs.Int.Count.{ones_step}
use Rattle.std.specs.List.{AllByRecursion, Contains, sum_by}
use Rattle.std.specs.declared.cmp.Ordering.TheVariants.{Less}
use Rattle.std.specs.Ordering.{nat_cmp}
use Rattle.std.specs.List.Sorted.{IsStrictlySortedBy}
use Rattle.std.proofs.lemmas.Bool.{cases_eq}
use Rattle.std.proofs.lemmas.List.{append_assoc, append-nil, length-append, length-set, length_push, take-append-drop}
use Rattle.std.proofs.lemmas.List.Elements.{All-contains, Contains-get_or, Contains-push_cases, Contains-push}
use Rattle.std.proofs.lemmas.List.Elements.{Contains-append_left, Contains-append_right}
use Rattle.std.proofs.lemmas.List.Sums.{sum_by-cons}
use Rattle.std.proofs.Math.Seq.{take-add}
use Rattle.std.proofs.lemmas.Option.{slice_get_past}
use Rattle.std.proofs.lemmas.Map.Views.{All-before_last}
use Rattle.std.proofs.lemmas.Nat.{ones_le_self}
use Rattle.std.proofs.lemmas.Nat.Bits.{bit_at_lowest, bit_at-suc, bit_at-lt, bit_at-zero}
use Rattle.walk_core.specs.Walks.{Walk}
use Rattle.walk_core.specs.Digraphs.{HasEdge}
use Rattle.walk_core.specs.Ranks.{LeadsTo, HasCount}
use Rattle.walk_core.specs.RankLaws.{LeadsTo-trans}
use Rattle.lattice_core.specs.Keep.{numbers_exact}
use Rattle.lattice_core.specs.MemberLaws.{sorted_push, Contains-none}
use Rattle.walk_core.specs.SortedLists.{sorted_part}
use Rattle.walk_core.specs.Components.{AreFirsts}
use Rattle.walk_core.specs.Marks.{HasMark, PutsMark, words_of, words_at, IsMarkedAt, IsFirstOf, AreBare}
use Rattle.walk_core.specs.Marks.{AreCountsElsewhere, AreSound, LeadsToTarget, AreMarked, PassesAll, TakesCounts}
use Rattle.walk_core.specs.Marks.{LeadsToCount, CountsBlock, HoldEnds}
use Rattle.walk_core.specs.declared.block.Marks.{Marks}
use Rattle.walk_core.specs.FirstLaws.{first_within}
use Rattle.walk_core.proofs.Gathering.{row_set}

-- ---- the targets of a block are marked, one after the other

pub record AreMarkedTo (graph : List (List ℕ)) (firsts block : List ℕ) (rows : List Marks) (count : ℕ) : Type 0 where
  pub size : length rows ≡ length graph
  pub sound : AreSound graph block rows
  pub each : (target : ℕ) → target < count → IsMarkedAt rows (get_or firsts (get_or block target 0) 0) target
  pub only : (row target : ℕ) → IsMarkedAt rows row target → IsFirstOf firsts block row

pub marked_none : (graph : List (List ℕ)) (firsts block : List ℕ) (rows : List Marks) → length rows ≡ length graph
    → AreBare rows → AreMarkedTo graph firsts block rows 0
marked_none graph firsts block rows size bare = record {
  size = size;
  sound = λ row target has. absurd (bare row target has);
  each = λ target less. absurd (omega (arith, less));
  only = λ row target has. absurd (bare row target has);
}

module _ (graph : List (List ℕ)) (firsts block : List ℕ) (rows : List Marks) (target : ℕ) (are : AreFirsts graph firsts)
    (marked : AreMarkedTo graph firsts block rows target)
    (within : target < length block) (is_node : get_or block target 0 < length graph) (was now : Marks)
    (read : words_at rows (get_or firsts (get_or block target 0) 0) ≡ was.words)
    (puts : PutsMark target was.words now.words) where
  row : ℕ
  row = get_or firsts (get_or block target 0) 0

  inside : row < length rows
  unfolding row
  inside = let less = first_within graph firsts are (get_or block target 0) is_node in omega (arith, less, marked.size)

  sound_now : (other offset : ℕ) → IsMarkedAt (set rows row now) other offset → LeadsToTarget graph block other offset
  unfolding row
  sound_now other offset has = elim (row_set rows row now inside other) [
    | inr kept ↦ marked.sound other offset (subst (λ words. HasMark words offset) kept.1 has)
    | inl here ↦ elim ((puts offset).0 (subst (λ words. HasMark words offset) here.1 has)) [
      | inl old ↦ marked.sound other offset
          (subst (λ r. IsMarkedAt rows r offset) (sym here.0) (subst (λ words. HasMark words offset) (sym read) old))
      | inr same ↦ record {
        within = subst (λ k. k < length block) (sym same) within;
        leads = subst (λ k. LeadsTo (HasEdge graph) other (get_or block k 0)) (sym same)
            (subst (λ r. LeadsTo (HasEdge graph) r (get_or block target 0)) (sym here.0) (are.each (get_or block target 0) is_node).here.back);
      }
    ]
  ]

  kept_now : (other offset : ℕ) → IsMarkedAt rows other offset → IsMarkedAt (set rows row now) other offset
  unfolding row
  kept_now other offset has = elim (row_set rows row now inside other) [
    | inr kept ↦ subst (λ words. HasMark words offset) (sym kept.1) has
    | inl here ↦ subst (λ words. HasMark words offset) (sym here.1) ((puts offset).1 (inl (subst (λ words. HasMark words offset) read (subst (λ r. IsMarkedAt rows r offset) here.0 has))))
  ]

  marked_here : IsMarkedAt (set rows row now) row target
  unfolding row
  marked_here = elim (row_set rows row now inside row) [
    | inr kept ↦ absurd (kept.0 refl)
    | inl here ↦ subst (λ words. HasMark words target) (sym here.1) ((puts target).1 (inr refl))
  ]

  first_here : (other : ℕ) → other ≡ row → IsFirstOf firsts block other
  unfolding row
  first_here other same = (get_or block target 0, Contains-get_or block target 0 within, sym same)

  pub marked_more : AreMarkedTo graph firsts block (set rows (get_or firsts (get_or block target 0) 0) now) (target + 1)
  unfolding row
  marked_more = record {
    size = length-set rows row now ∙ marked.size;
    sound = sound_now;
    each = λ other less. elim (cases_eq other target) [
      | inl same ↦ subst (λ k. IsMarkedAt (set rows row now) (get_or firsts (get_or block k 0) 0) k)
          (sym same) marked_here
      | inr apart ↦ kept_now (get_or firsts (get_or block other 0) 0) other
          (marked.each other (omega (arith, less, apart)))
    ];
    only = λ other offset has. elim (row_set rows row now inside other) [
      | inl here ↦ first_here other here.0
      | inr kept ↦ marked.only other offset (subst (λ words. HasMark words offset) kept.1 has)
    ];
  }

-- ---- sums of bits

abbrev pub bits_below : (ℕ → ℕ) → ℕ → ℕ
bits_below f zero = 0
bits_below f (suc k) = f 0 + bits_below (λ i. f (suc i)) k

bits_same : (f g : ℕ → ℕ) (k : ℕ) → ((i : ℕ) → i < k → f i ≡ g i) → bits_below f k ≡ bits_below g k
bits_same f g zero same = refl
bits_same f g (suc k) same =
    let first : f 0 ≡ g 0 = same 0 (omega arith) in
    let rest = bits_same (λ i. f (suc i)) (λ i. g (suc i)) k (λ i less. same (suc i) (omega (arith, less))) in
    omega (arith, first, rest)

bits_split : (f : ℕ → ℕ) (a b : ℕ) → bits_below f (a + b) ≡ bits_below f a + bits_below (λ i. f (a + i)) b
bits_split f zero b =
    let none : 0 + b ≡ b = omega arith in
    let same = bits_same f (λ i. f (0 + i)) b (λ i less. let e : i ≡ 0 + i = omega arith in ap f e) in
    let sizes : bits_below f (0 + b) ≡ bits_below f b = ap (bits_below f) none in
    omega (arith, same, sizes)
bits_split f (suc a) b =
    let rest = bits_split (λ i. f (suc i)) a b in
    let sizes : bits_below f (suc a + b) ≡ bits_below f (suc (a + b)) = let e : suc a + b ≡ suc (a + b) = omega arith in ap (bits_below f) e in
    let same = bits_same (λ i. f (suc (a + i))) (λ i. f (suc a + i)) b (λ i less. let e : suc (a + i) ≡ suc a + i = omega arith in ap f e) in
    omega (arith, rest, sizes, same)

pub bits_none : (f : ℕ → ℕ) (k : ℕ) → ((i : ℕ) → i < k → f i ≡ 0) → bits_below f k ≡ 0
bits_none f zero none = refl
bits_none f (suc k) none =
    let first : f 0 ≡ 0 = none 0 (omega arith) in
    let rest = bits_none (λ i. f (suc i)) k (λ i less. none (suc i) (omega (arith, less))) in
    omega (arith, first, rest)

-- the bits of a word, one by one
ones_bits : (k word : ℕ) → word < 2 ^ k → count_ones word ≡ bits_below (bit_at word) k
ones_bits zero word less =
    let none : word ≡ 0 = omega (arith, less) in
    let few = ones_le_self word in
    omega (arith, none, few)
ones_bits (suc k) word less =
    let double : 2 ^ suc k ≡ 2 * 2 ^ k = omega arith in
    let half : word / 2 < 2 ^ k = omega (arith, less, double) in
    let rest = ones_bits k (word / 2) half in
    let same = bits_same (bit_at (word / 2)) (λ i. bit_at word (suc i)) k (λ i inside. sym (bit_at-suc word i)) in
    omega (arith, ones_step word, rest, same, bit_at_lowest word)

-- the marks of some words, one by one
abbrev pub mark_at : List ℕ → ℕ → ℕ
mark_at words target = bit_at (get_or words (target / 64) 0) (target % 64)

pub words_bits : (words : List ℕ) → ((k : ℕ) → get_or words k 0 < 2 ^ 64)
    → sum_by count_ones words ≡ bits_below (mark_at words) (length words * 64)
words_bits [] fits = refl
words_bits (word ∷ words) fits =
    let rest = words_bits words (λ k. fits (suc k)) in
    let split = bits_split (mark_at (word ∷ words)) 64 (length words * 64) in
    let first = bits_same (bit_at word) (mark_at (word ∷ words)) 64 (λ i less.
    let none : i / 64 ≡ 0 = omega (arith, less) in
    let own : i % 64 ≡ i = omega (arith, less) in
    sym (ap (λ k. bit_at (get_or (word ∷ words) k 0) (i % 64)) none ∙ ap (bit_at word) own)) in
    let others = bits_same (mark_at words) (λ i. mark_at (word ∷ words) (64 + i)) (length words * 64) (λ i less.
    let next : (64 + i) / 64 ≡ suc (i / 64) = omega arith in
    let same : (64 + i) % 64 ≡ i % 64 = omega arith in
    sym (ap (λ k. bit_at (get_or (word ∷ words) k 0) ((64 + i) % 64)) next ∙ ap (bit_at (get_or words (i / 64) 0)) same)) in
    let sizes : bits_below (mark_at (word ∷ words)) (length (word ∷ words) * 64) ≡ bits_below (mark_at (word ∷ words)) (64 + length words * 64) =
    let e : length (word ∷ words) * 64 ≡ 64 + length words * 64 = omega arith in ap (bits_below (mark_at (word ∷ words))) e in
    omega (arith, sum_by-cons count_ones word words, ones_bits 64 word (fits 0), rest, split, first, others, sizes)

-- ---- counts of members of a list in order

recursion_left : {X : Type 0} (P : X → Type 0) (xs ys : List X) → AllByRecursion P (xs ++ ys) → AllByRecursion P xs
recursion_left P [] ys all = tt
recursion_left P (x ∷ xs) ys all = (all.0, recursion_left P xs ys all.1)

pub sorted_part_left : (xs ys : List ℕ) → IsStrictlySortedBy nat_cmp (xs ++ ys) → IsStrictlySortedBy nat_cmp xs
unfolding IsStrictlySortedBy
sorted_part_left [] ys sorted = tt
sorted_part_left (x ∷ xs) ys sorted =
    (recursion_left (λ z. nat_cmp x z ≡ Less) xs ys sorted.0, sorted_part_left xs ys sorted.1)

module _ (Q : ℕ → Type 0) where
  abbrev pub CountIn : List ℕ → ℕ → Type 0
  CountIn nodes count = HasCount nat_cmp (λ y. Contains nodes y × Q y) count

  pub count_yes : (done : List ℕ) (y count : ℕ) → IsStrictlySortedBy nat_cmp (done ++ y ∷ []) → Q y → CountIn done count
      → CountIn (done ++ y ∷ []) (count + 1)
  count_yes done y count sorted has counted = record {
    members = counted.members ++ y ∷ [];
    in_order = sorted_push nat_cmp counted.members y counted.in_order (λ x here. All-contains (λ z. nat_cmp z y ≡ Less) done x (All-before_last nat_cmp done y sorted) ((counted.just x).0 here).0);
    just = λ x. (
      λ here. elim (Contains-push_cases counted.members y x here) [
        | inl old ↦ let was = (counted.just x).0 old in (Contains-append_left done (y ∷ []) x was.0, was.1)
        | inr same ↦ (subst (Contains (done ++ y ∷ [])) same (Contains-push done y), subst Q same has)
      ],
      λ is. elim (Contains-push_cases done y x is.0) [
        | inl old ↦ Contains-append_left counted.members (y ∷ []) x ((counted.just x).1 (old, is.1))
        | inr same ↦ subst (Contains (counted.members ++ y ∷ [])) same (Contains-push counted.members y)
      ],
    );
    size = length_push counted.members y ∙ ap (λ n. n + 1) counted.size;
  }

  pub count_no : (done : List ℕ) (y count : ℕ) → ¬ Q y → CountIn done count → CountIn (done ++ y ∷ []) count
  count_no done y count not counted = record {
    members = counted.members;
    in_order = counted.in_order;
    just = λ x. (
      λ here. let was = (counted.just x).0 here in (Contains-append_left done (y ∷ []) x was.0, was.1),
      λ is. elim (Contains-push_cases done y x is.0) [
        | inl old ↦ (counted.just x).1 (old, is.1)
        | inr same ↦ absurd (not (subst Q (sym same) is.1))
      ],
    );
    size = counted.size;
  }

  -- the bits say of each of some further nodes whether it has Q
  pub count_all : (block done : List ℕ) (count : ℕ) (f : ℕ → ℕ) → IsStrictlySortedBy nat_cmp (done ++ block)
      → ((i : ℕ) → i < length block → ((f i ≡ 1) × Q (get_or block i 0)) ⊎ ((f i ≡ 0) × ¬ Q (get_or block i 0)))
      → CountIn done count → CountIn (done ++ block) (count + bits_below f (length block))
  count_all [] done count f sorted each counted =
      let none : count ≡ count + 0 = omega arith in
      let same : done ≡ done ++ [] = sym (append-nil done) in
      subst (CountIn (done ++ [])) none (subst (λ nodes. CountIn nodes count) same counted)
  count_all (y ∷ ys) done count f sorted each counted =
      let joined : (done ++ y ∷ []) ++ ys ≡ done ++ y ∷ ys = append_assoc done (y ∷ []) ys in
      let sorted_on : IsStrictlySortedBy nat_cmp ((done ++ y ∷ []) ++ ys) = subst (IsStrictlySortedBy nat_cmp) (sym joined) sorted in
      let first : CountIn (done ++ y ∷ []) (count + f 0) = elim (each 0 (omega arith)) [
        | inl has ↦ let e : count + 1 ≡ count + f 0 = omega (arith, has.0) in subst (CountIn (done ++ y ∷ [])) e
            (count_yes done y count (sorted_part_left (done ++ y ∷ []) ys sorted_on) has.1 counted)
        | inr lacks ↦ let e : count ≡ count + f 0 = omega (arith, lacks.0) in subst (CountIn (done ++ y ∷ [])) e
            (count_no done y count lacks.1 counted)
      ] in
      let rest = count_all ys (done ++ y ∷ []) (count + f 0) (λ i. f (suc i)) sorted_on (λ i less. each (suc i) (omega (arith, less))) first in
      let total : (count + f 0) + bits_below (λ i. f (suc i)) (length ys) ≡ count + (f 0 + bits_below (λ i. f (suc i)) (length ys)) = omega arith in
      subst (λ nodes. CountIn nodes (count + (f 0 + bits_below (λ i. f (suc i)) (length ys)))) joined
      (subst (CountIn ((done ++ y ∷ []) ++ ys)) total rest)

  -- there are no more of them than nodes
  pub count_within : (nodes : List ℕ) (count : ℕ) → IsStrictlySortedBy nat_cmp nodes → CountIn nodes count
      → count ≤ length nodes
  count_within nodes count sorted counted =
      let part = sorted_part numbers_exact.total counted.members nodes counted.in_order sorted (λ z here. ((counted.just z).0 here).0) in
      omega (arith, part.shorter, counted.size)

-- ---- what a block adds to the counts

words_fit : (rows : List Marks) (row : ℕ) → row < length rows
    → (length (words_at rows row) ≡ 8) × ((k : ℕ) → get_or (words_at rows row) k 0 < 2 ^ 64)
words_fit [] row within = absurd (omega (arith, within))
words_fit (marks ∷ rows) zero within = (marks.size, marks.in_range)
words_fit (marks ∷ rows) (suc row) within = words_fit rows row (omega (arith, within))

pub bit_cases : (bit : ℕ) → bit < 2 → (bit ≡ 1) ⊎ (bit ≡ 0)
bit_cases zero less = inr refl
bit_cases (suc bit) less = inl (omega (arith, less))

module _ (graph : List (List ℕ)) (firsts nodes block : List ℕ) (marked passed taken : List Marks) (counts now : List ℕ)
    (are : AreFirsts graph firsts) (hold : HoldEnds graph nodes)
    (few : length block ≤ 512) (is : AreMarked graph firsts block marked)
    (passes : PassesAll graph firsts nodes marked passed) (size : length passed ≡ length graph)
    (takes : TakesCounts firsts nodes passed taken counts now) where
  -- a node is marked with each target that it leads to
  marked_by_walk : (n x target : ℕ) → target < length block → Contains nodes x
      → Walk (HasEdge graph) n x (get_or block target 0) → IsMarkedAt passed (get_or firsts x 0) target
  marked_by_walk zero x target within here same = subst (λ z. IsMarkedAt passed (get_or firsts z 0) target) (sym same)
      (passes.kept (get_or firsts (get_or block target 0) 0) target (is.each target within))
  marked_by_walk (suc n) x target within here walk = passes.gathered x here walk.0 target walk.1
      (marked_by_walk n walk.0 target within (hold.ends x walk.0 here walk.1) walk.2)

  module _ (x : ℕ) (here : Contains nodes x) where
    is_node : x < length graph
    is_node = hold.within x here

    bit : ℕ → ℕ
    bit = mark_at (words_at passed (get_or firsts x 0))

    sound_at : (target : ℕ) → bit target ≡ 1 → LeadsToTarget graph block x target
    unfolding bit
    sound_at target has =
        let found = passes.sound block is.sound (get_or firsts x 0) target has in
        record { within = found.within; leads = LeadsTo-trans (HasEdge graph) x (get_or firsts x 0) (get_or block target 0) (are.each x is_node).here.forth found.leads }

    bit_says : (target : ℕ) → target < length block
        → ((bit target ≡ 1) × LeadsTo (HasEdge graph) x (get_or block target 0))
        ⊎ ((bit target ≡ 0) × ¬ LeadsTo (HasEdge graph) x (get_or block target 0))
    unfolding bit
    bit_says target within = elim (bit_cases (bit target) (bit_at-lt (get_or (words_at passed (get_or firsts x 0)) (target / 64) 0) (target % 64))) [
      | inl one ↦ inl (one, (sound_at target one).leads)
      | inr none ↦ inr (none, λ leads. let one : bit target ≡ 1 = marked_by_walk leads.0 x target within here leads.1 in omega (arith, one, none))
    ]

    bits_past : (target : ℕ) → length block ≤ target → bit target ≡ 0
    unfolding bit
    bits_past target past = elim (bit_cases (bit target) (bit_at-lt (get_or (words_at passed (get_or firsts x 0)) (target / 64) 0) (target % 64))) [
      | inl one ↦ absurd (let within = (sound_at target one).within in omega (arith, within, past))
      | inr none ↦ none
    ]

    row_within : get_or firsts x 0 < length passed
    row_within = let less = first_within graph firsts are x is_node in omega (arith, less, size)

    bits_counted : sum_by count_ones (words_at passed (get_or firsts x 0)) ≡ bits_below bit (length block)
    unfolding bit
    bits_counted =
        let words = words_at passed (get_or firsts x 0) in
        let fit = words_fit passed (get_or firsts x 0) row_within in
        let all : sum_by count_ones words ≡ bits_below bit (length words * 64) = words_bits words fit.1 in
        let sizes : length words * 64 ≡ length block + (512 - length block) = omega (arith, fit.0, few) in
        let split = bits_split bit (length block) (512 - length block) in
        let none = bits_none (λ i. bit (length block + i)) (512 - length block) (λ i less. bits_past (length block + i) (omega arith)) in
        let resized : bits_below bit (length words * 64) ≡ bits_below bit (length block + (512 - length block)) = ap (bits_below bit) sizes in
        omega (arith, all, split, none, resized)

    pub count_more : (done : List ℕ) → IsStrictlySortedBy nat_cmp (done ++ block) → length (done ++ block) < 2 ^ 64
        → LeadsToCount graph done x (get_or counts (get_or firsts x 0) 0)
        → LeadsToCount graph (done ++ block) x (get_or now (get_or firsts x 0) 0)
    count_more done sorted short counted =
        let before = get_or counts (get_or firsts x 0) 0 in
        let more = count_all (LeadsTo (HasEdge graph) x) block done before bit sorted bit_says counted in
        let bound = count_within (LeadsTo (HasEdge graph) x) (done ++ block) (before + bits_below bit (length block)) sorted more in
        let each = (takes.taken (get_or firsts x 0) (x, here, refl)).count in
        let same : before + bits_below bit (length block) ≡ get_or now (get_or firsts x 0) 0 = omega (arith, each, bits_counted, bound, short) in
        subst (LeadsToCount graph (done ++ block) x) same more

  pub counts_block : CountsBlock graph firsts nodes block counts now
  counts_block x done here sorted short counted = count_more x here done sorted short counted

  -- what is taken leaves no mark
  module _ (targets : (target : ℕ) → Contains block target → Contains nodes target) where
    not_first : (row target : ℕ) → IsMarkedAt taken row target → ¬ IsFirstOf firsts nodes row
    not_first row target has is_first = (takes.taken row is_first).bare target has

    pub taken_bare : AreBare taken
    taken_bare row target has = elim (takes.left row) [
      | inl is_first ↦ not_first row target has is_first
      | inr left ↦ elim (passes.elsewhere row) [
        | inl is_first ↦ not_first row target has is_first
        | inr kept ↦
            let first = is.only row target (subst (λ words. HasMark words target) (left.words ∙ kept) has) in
            not_first row target has (first.0, targets first.0 first.1, first.2)
      ]
    ]

  pub counts_elsewhere : AreCountsElsewhere firsts nodes counts now
  counts_elsewhere row = elim (takes.left row) [ inl is_first ↦ inl is_first | inr left ↦ inr left.count ]

-- a number that is no node has no mark
past_bare : (rows : List Marks) (row target : ℕ) → length rows ≤ row → ¬ IsMarkedAt rows row target
past_bare rows row target past has =
    let none : words_at rows row ≡ [] = ap words_of (slice_get_past rows row past) in
    let zero_bit : bit_at (get_or (words_at rows row) (target / 64) 0) (target % 64) ≡ 0 = ap (λ words. bit_at (get_or words (target / 64) 0) (target % 64)) none ∙ bit_at-zero (target % 64) in
    omega (arith, has, zero_bit)

-- ---- one block after the other

pub bare_rows : (size : ℕ) (none : Marks) → ((target : ℕ) → ¬ HasMark none.words target) → AreBare (replicate size none)
bare_rows zero none bare row target has = past_bare [] row target (omega arith) has
bare_rows (suc size) none bare zero target has = bare target has
bare_rows (suc size) none bare (suc row) target has = bare_rows size none bare row target has

pub none_sorted : IsStrictlySortedBy nat_cmp []
unfolding IsStrictlySortedBy
none_sorted = tt

pub count_none_of : (Q : ℕ → Type 0) → HasCount nat_cmp (λ y. Contains [] y × Q y) 0
count_none_of Q = record {
  members = [];
  in_order = none_sorted;
  just = λ y. (λ here. absurd (Contains-none y here), λ has. absurd (Contains-none y has.0));
  size = refl;
}

pub count_none : (graph : List (List ℕ)) (x : ℕ) → LeadsToCount graph [] x 0
count_none graph x = count_none_of (LeadsTo (HasEdge graph) x)

pub block_within : (start size : ℕ) (xs : List ℕ) (x : ℕ) → Contains (take size (drop start xs)) x → Contains xs x
block_within start size xs x here =
    subst (λ ys. Contains ys x) (take-append-drop start xs)
    (Contains-append_right (take start xs) (drop start xs) x (subst (λ ys. Contains ys x) (take-append-drop size (drop start xs)) (Contains-append_left (take size (drop start xs)) (drop size (drop start xs)) x here)))

module _ (graph : List (List ℕ)) (firsts nodes targets counts now : List ℕ) (start size : ℕ)
    (sorted : IsStrictlySortedBy nat_cmp targets) (short : length targets < 2 ^ 64)
    (adds : CountsBlock graph firsts nodes (take size (drop start targets)) counts now) (each : (x : ℕ) → Contains nodes x → LeadsToCount graph (take start targets) x (get_or counts (get_or firsts x 0) 0)) where
  pub next_counts : (x : ℕ) → Contains nodes x
      → LeadsToCount graph (take (start + size) targets) x (get_or now (get_or firsts x 0) 0)
  next_counts x here =
      let joined = take-add start size targets in
      let in_order : IsStrictlySortedBy nat_cmp (take (start + size) targets) = sorted_part_left (take (start + size) targets) (drop (start + size) targets) (subst (IsStrictlySortedBy nat_cmp) (sym (take-append-drop (start + size) targets)) sorted) in
      let few : length (take (start + size) targets) < 2 ^ 64 = let lengths = ap length (take-append-drop (start + size) targets) in omega (arith, short, lengths, length-append (take (start + size) targets) (drop (start + size) targets)) in
      subst (λ done. LeadsToCount graph done x (get_or now (get_or firsts x 0) 0)) (sym joined)
      (adds x (take start targets) here (subst (IsStrictlySortedBy nat_cmp) joined in_order) (subst (λ done. length done < 2 ^ 64) joined few) (each x here))
