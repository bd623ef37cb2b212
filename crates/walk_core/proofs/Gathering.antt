-- Marks are passed on against edges: what a node is marked with, and that the marks rise.
use Rattle.std.proofs.Common.{◌≡◌, ◌≢◌, ◌⊎◌, inl, inr, ◌+◌, ◌<◌, ◌≤◌, ℕ, suc, List, [], ◌∷◌, Bool, true, false}
use Rattle.std.proofs.Common.{refl, sym, ◌∙◌, ap, subst, length, set, take, get_or, arith}
use Rattle.std.specs.Prelude.{nat_eq}
use lib.Pointwise.{pointwise}
use Rattle.std.specs.List.{Contains, sum_by}
use Rattle.std.proofs.lemmas.Bool.{cases_eq}
use Rattle.std.proofs.lemmas.List.{length-set}
use Rattle.std.proofs.lemmas.List.Sums.{sum_by-set, sum_by-cons}
use Rattle.std.proofs.lemmas.Cmp.{lists_equiv, nat_eq_equiv}
use Rattle.std.proofs.lemmas.Nat.{le_or_l}
use Rattle.std.proofs.lemmas.Option.{slice_get_read}
use Rattle.walk_core.specs.Digraphs.{HasEdge}
use Rattle.walk_core.specs.RankLaws.{LeadsTo-trans, LeadsTo-edge}
use Rattle.lattice_core.specs.MemberLaws.{Contains-none, Contains-first, Contains-cons_cases}
use Rattle.walk_core.specs.Components.{AreFirsts}
use Rattle.walk_core.specs.FirstLaws.{first_within}
use Rattle.walk_core.specs.Marks.{HasMark, AreJoined, words_of, words_at, IsMarkedAt, AreSound, LeadsToTarget, Passes}
use Rattle.walk_core.specs.Marks.{HoldEnds}
use Rattle.walk_core.specs.declared.block.Marks.{Marks}
use Rattle.walk_core.specs.EdgeLaws.{Contains-more}
use Rattle.walk_core.proofs.MarkLemmas.{HasMark-joined, joined_left, joined_right}
use Rattle.walk_core.specs.Writes.{slice_get-set_other, slice_get-set_same}

-- ---- the first nodes of nodes are nodes

pub firsts_within : {graph : List (List ℕ)} {firsts nodes : List ℕ} → AreFirsts graph firsts → HoldEnds graph nodes
    → (x : ℕ) → Contains nodes x → get_or firsts x 0 < length graph
firsts_within {graph} {firsts} are hold x here = first_within graph firsts are x (hold.within x here)

-- ---- sums of words

abbrev pub words_sum : List ℕ → ℕ
words_sum = sum_by (λ word. word)

sum_of_more : (a b : List ℕ) → length a ≡ length b → ((k : ℕ) → get_or a k 0 ≤ get_or b k 0) → words_sum a ≤ words_sum b
sum_of_more [] [] same more = omega arith
sum_of_more [] (y ∷ ys) same more = absurd (omega (arith, same))
sum_of_more (x ∷ xs) [] same more = absurd (omega (arith, same))
sum_of_more (x ∷ xs) (y ∷ ys) same more =
    let rest = sum_of_more xs ys (omega (arith, same)) (λ k. more (suc k)) in
    let first : x ≤ y = more 0 in
    omega (arith, rest, first, sum_by-cons (λ word. word) x xs, sum_by-cons (λ word. word) y ys)

pub sum_of_new : (a b : List ℕ) → length a ≡ length b → ((k : ℕ) → get_or a k 0 ≤ get_or b k 0) → ¬ (b ≡ a)
    → words_sum a < words_sum b
sum_of_new [] [] same more differs = absurd (differs refl)
sum_of_new [] (y ∷ ys) same more differs = absurd (omega (arith, same))
sum_of_new (x ∷ xs) [] same more differs = absurd (omega (arith, same))
sum_of_new (x ∷ xs) (y ∷ ys) same more differs =
    let first : x ≤ y = more 0 in
    let lengths : length xs ≡ length ys = omega (arith, same) in
    let tails : words_sum xs ≤ words_sum ys = sum_of_more xs ys lengths (λ k. more (suc k)) in
    elim (cases_eq y x) [
      | inl is ↦
          let rest = sum_of_new xs ys lengths (λ k. more (suc k)) (λ e. differs (λ i. is i ∷ e i)) in
          omega (arith, rest, is, sum_by-cons (λ word. word) x xs, sum_by-cons (λ word. word) y ys)
      | inr other ↦ omega (arith, tails, first, other, sum_by-cons (λ word. word) x xs, sum_by-cons (λ word. word) y ys)
    ]

-- a test whether lists of words are one
pub words_differ : (a b : List ℕ) (test : Bool) → test ≡ pointwise nat_eq a b → test ≡ false → ¬ (a ≡ b)
words_differ a b test is failed same =
    let equal : pointwise nat_eq b b ≡ true = (lists_equiv nat_eq_equiv).refl b in
    let apart : pointwise nat_eq b b ≡ false = subst (λ xs. pointwise nat_eq xs b ≡ false) same (sym is ∙ failed) in
    let no : true ≡ false = sym equal ∙ apart in
    cc

-- ---- rows that are read and written

pub row_read : (rows : List Marks) (row : ℕ) (read : Marks) → row < length rows → read ≡ get_or rows row read
    → words_at rows row ≡ read.words
row_read rows row read within is = ap words_of (slice_get_read rows (length rows) row read refl within is)

module _ (rows : List Marks) (row : ℕ) (marks : Marks) (within : row < length rows) where
  pub row_set : (other : ℕ) → ((other ≡ row) × (words_at (set rows row marks) other ≡ marks.words))
      ⊎ ((other ≢ row) × (words_at (set rows row marks) other ≡ words_at rows other))
  row_set other = elim (cases_eq other row) [
    | inl same ↦ inl (same, subst (λ r. words_at (set rows row marks) r ≡ marks.words) (sym same) (ap words_of (slice_get-set_same rows row marks within)))
    | inr differs ↦ inr (differs, ap words_of (slice_get-set_other rows row marks other differs))
  ]

-- ---- what is gathered from some ends

pub record HasGathered (rows : List Marks) (firsts before marks ends : List ℕ) : Type 0 where
  pub size : length marks ≡ length before
  pub more : (k : ℕ) → get_or before k 0 ≤ get_or marks k 0
  pub kept : (target : ℕ) → HasMark before target → HasMark marks target
  pub each : (end target : ℕ) → Contains ends end → IsMarkedAt rows (get_or firsts end 0) target → HasMark marks target
  pub right : (target : ℕ) → HasMark marks target
      → HasMark before target ⊎ ((end : ℕ) × Contains ends end × IsMarkedAt rows (get_or firsts end 0) target)

module _ (rows : List Marks) (firsts before marks read both ends : List ℕ) (i end : ℕ) (within : i < length ends)
    (is : end ≡ get_or ends i end)
    (was : words_at rows (get_or firsts end 0) ≡ read) (joined : AreJoined marks read both)
    (gathered : HasGathered rows firsts before marks (take i ends)) where
  pub gathered_more : HasGathered rows firsts before both (take (i + 1) ends)
  gathered_more = record {
    size = joined.size ∙ gathered.size;
    more = λ k. let below = le_or_l (get_or marks k 0) (get_or read k 0) in omega
        (arith, gathered.more k, below, joined.each k);
    kept = λ target has. joined_left marks read both joined target (gathered.kept target has);
    each = λ other target here has. elim ((Contains-more ends i other end within is).0 here) [
      | inl earlier ↦ joined_left marks read both joined target (gathered.each other target earlier has)
      | inr same ↦ joined_right marks read both joined target
          (subst (λ words. HasMark words target) was (subst (λ e. IsMarkedAt rows (get_or firsts e 0) target) same has))
    ];
    right = λ target has. elim (HasMark-joined marks read both joined target has) [
      | inl old ↦ elim (gathered.right target old) [
        | inl first ↦ inl first
        | inr found ↦ inr (found.0, (Contains-more ends i found.0 end within is).1 (inl found.1), found.2)
      ]
      | inr new ↦ inr (end, (Contains-more ends i end end within is).1 (inr refl), subst (λ words. HasMark words target) (sym was) new)
    ];
  }

-- ---- a node has gathered

module _ (graph : List (List ℕ)) (firsts : List ℕ) (node : ℕ) (rows : List Marks) (are : AreFirsts graph firsts)
    (is_node : node < length graph) (within : get_or firsts node 0 < length rows)
    (before marks : Marks) (was : words_at rows (get_or firsts node 0) ≡ before.words)
    (read : before ≡ get_or rows (get_or firsts node 0) before) (ends : List ℕ)
    (is_end : (y : ℕ) → Contains ends y → HasEdge graph node y)
    (has_end : (y : ℕ) → HasEdge graph node y → Contains ends y)
    (ends_within : (y : ℕ) → Contains ends y → y < length graph)
    (gathered : HasGathered rows firsts before.words marks.words ends) where
  leads_on : (block : List ℕ) → AreSound graph block rows → (target : ℕ) → HasMark marks.words target
      → LeadsToTarget graph block (get_or firsts node 0) target
  leads_on block sound target has = elim (gathered.right target has) [
    | inl old ↦ sound (get_or firsts node 0) target (subst (λ words. HasMark words target) (sym was) old)
    | inr found ↦
        let there = sound (get_or firsts found.0 0) target found.2 in
        record {
          within = there.within;
          leads = LeadsTo-trans (HasEdge graph) (get_or firsts node 0) node (get_or block target 0)
              (are.each node is_node).here.back
              (LeadsTo-edge (HasEdge graph) node found.0 (get_or block target 0) (is_end found.0 found.1)
              (LeadsTo-trans (HasEdge graph) found.0 (get_or firsts found.0 0) (get_or block target 0) (are.each found.0 (ends_within found.0 found.1)).here.forth there.leads));
        }
  ]

  pub passes_new : ¬ (marks.words ≡ before.words)
      → Passes graph firsts (node ∷ []) rows (set rows (get_or firsts node 0) marks) true
  passes_new differs = record {
    size = length-set rows (get_or firsts node 0) marks;
    kept = λ row target has. elim (row_set rows (get_or firsts node 0) marks within row) [
      | inl here ↦ subst (λ words. HasMark words target) (sym here.1) (gathered.kept target (subst (λ words. HasMark words target) was (subst (λ r. IsMarkedAt rows r target) here.0 has)))
      | inr other ↦ subst (λ words. HasMark words target) (sym other.1) has
    ];
    sound = λ block sound row target has. elim (row_set rows (get_or firsts node 0) marks within row) [
      | inl here ↦ subst (λ r. LeadsToTarget graph block r target) (sym here.0)
          (leads_on block sound target (subst (λ words. HasMark words target) here.1 has))
      | inr other ↦ sound row target (subst (λ words. HasMark words target) other.1 has)
    ];
    elsewhere = λ row. elim (row_set rows (get_or firsts node 0) marks within row) [
      | inl here ↦ inl (node, Contains-first node [], sym here.0)
      | inr other ↦ inr other.1
    ];
    step =
        let row_sum : Marks → ℕ = λ m. words_sum m.words in
        let changed = sum_by-set row_sum rows (get_or firsts node 0) marks before within in
        let old : words_sum before.words ≡ row_sum (get_or rows (get_or firsts node 0) before) = ap row_sum read in
        let rises = sum_of_new before.words marks.words (sym gathered.size) gathered.more differs in
        omega (arith, changed, old, rises);
  }

  pub passes_none : marks.words ≡ before.words → Passes graph firsts (node ∷ []) rows rows false
  passes_none same = record {
    size = refl;
    kept = λ row target has. has;
    sound = λ block sound. sound;
    elsewhere = λ row. inr refl;
    step = (
      refl,
      λ x here y target edge has. elim (Contains-cons_cases node [] x here) [
        | inl is ↦
            let marked : HasMark marks.words target = gathered.each y target (has_end y (subst (λ z. HasEdge graph z y) (sym is) edge)) has in
            let here_too : IsMarkedAt rows (get_or firsts node 0) target = subst (λ words. HasMark words target) (sym was) (subst (λ words. HasMark words target) same marked) in
            subst (λ z. IsMarkedAt rows (get_or firsts z 0) target) is here_too
        | inr none ↦ absurd (Contains-none x none)
      ],
    );
  }
