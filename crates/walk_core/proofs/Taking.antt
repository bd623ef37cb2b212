-- Marks are counted and taken away, node by node.
use Rattle.std.proofs.Common.{◌≡◌, ◌≢◌, inl, inr, ◌+◌, ◌-◌, ◌*◌, ◌/◌, ◌%◌, ◌<◌, ◌^◌, ℕ, List, [], refl, sym, ◌∙◌, ap}
use Rattle.std.proofs.Common.{subst, length, set, take, get_or, min, arith}
use Rattle.std.specs.Prelude.{count_ones}
use Rattle.std.specs.List.{sum_by}
use Rattle.std.proofs.lemmas.Bool.{cases_eq}
use Rattle.std.proofs.lemmas.List.{get_or-set_same, get_or-set_other, length-set}
use Rattle.std.proofs.lemmas.Nat.Bits.{bit_at-lt}
use Rattle.lattice_core.specs.MemberLaws.{Contains-none}
use Rattle.walk_core.specs.Marks.{HasMark, words_at, IsFirstOf, IsTaken, TakesCounts}
use Rattle.walk_core.specs.declared.block.Marks.{Marks}
use Rattle.walk_core.specs.EdgeLaws.{Contains-more}
use Rattle.walk_core.proofs.Gathering.{row_set}
use Rattle.walk_core.proofs.Blocks.{mark_at, words_bits, bits_none, bit_cases}

-- no bit is set where nothing is marked
no_ones : (marks : Marks) → ((target : ℕ) → ¬ HasMark marks.words target) → sum_by count_ones marks.words ≡ 0
no_ones marks bare =
    words_bits marks.words marks.in_range ∙ bits_none (mark_at marks.words) (length marks.words * 64) (λ target less. elim (bit_cases (mark_at marks.words target) (bit_at-lt (get_or marks.words (target / 64) 0) (target % 64))) [
      | inl one ↦ absurd (bare target one)
      | inr none ↦ none
    ])

pub takes_none : (firsts : List ℕ) (rows : List Marks) (counts : List ℕ) → TakesCounts firsts [] rows rows counts counts
takes_none firsts rows counts = record {
  size = refl;
  counts_size = refl;
  taken = λ own_row is_first. absurd (Contains-none is_first.0 is_first.1);
  left = λ own_row. inr (record { words = refl; count = refl });
}

module _ (firsts nodes : List ℕ) (i node : ℕ) (within : i < length nodes) (is : node ≡ get_or nodes i node)
    (before after : List Marks) (counts now : List ℕ)
    (takes : TakesCounts firsts (take i nodes) before after counts now)
    (row_inside : get_or firsts node 0 < length after) (inside : get_or firsts node 0 < length now)
    (was none : Marks) (read : words_at after (get_or firsts node 0) ≡ was.words)
    (bare : (target : ℕ) → ¬ HasMark none.words target)
    (sum : ℕ) (added : sum ≡ min (get_or now (get_or firsts node 0) 0 + sum_by count_ones was.words) (2 ^ 64 - 1)) where
  own_row : ℕ
  own_row = get_or firsts node 0

  -- a row that was taken already has no mark to count
  sum_here : sum ≡ min (get_or counts own_row 0 + sum_by count_ones (words_at before own_row)) (2 ^ 64 - 1)
  unfolding own_row
  sum_here = elim (takes.left own_row) [
    | inl earlier ↦
        let taken = takes.taken own_row earlier in
        let nothing = no_ones was (λ target has. taken.bare target (subst (λ words. HasMark words target) (sym read) has)) in
        let count = taken.count in
        omega (arith, added, nothing, count)
    | inr left ↦
        let words : sum_by count_ones (words_at before own_row) ≡ sum_by count_ones was.words = ap (sum_by count_ones) (sym left.words ∙ read) in
        let count = left.count in
        omega (arith, added, words, count)
  ]

  taken_here : IsTaken before (set after own_row none) counts (set now own_row sum) own_row
  unfolding own_row
  taken_here = elim (row_set after own_row none row_inside own_row) [
    | inl here ↦ record {
      bare = λ target has. bare target (subst (λ words. HasMark words target) here.1 has);
      count = get_or-set_same now own_row sum 0 inside ∙ sum_here;
    }
    | inr other ↦ absurd (other.0 refl)
  ]

  earlier_first : (other : ℕ) → other ≢ own_row → IsFirstOf firsts (take (i + 1) nodes) other
      → IsFirstOf firsts (take i nodes) other
  unfolding own_row
  earlier_first other apart (x, here, first) = elim ((Contains-more nodes i x node within is).0 here) [
    | inl earlier ↦ (x, earlier, first)
    | inr same ↦ absurd (apart (sym first ∙ ap (λ y. get_or firsts y 0) same))
  ]

  words_other : (other : ℕ) → other ≢ own_row → words_at (set after own_row none) other ≡ words_at after other
  unfolding own_row
  words_other other apart = elim
      (row_set after own_row none row_inside other) [ inl here ↦ absurd (apart here.0) | inr kept ↦ kept.1 ]

  pub takes_more : TakesCounts firsts (take (i + 1) nodes) before (set after (get_or firsts node 0) none) counts
      (set now (get_or firsts node 0) sum)
  unfolding own_row
  takes_more = record {
    size = length-set after own_row none ∙ takes.size;
    counts_size = length-set now own_row sum ∙ takes.counts_size;
    taken = λ other is_first. elim (cases_eq other own_row) [
      | inl same ↦ subst (IsTaken before (set after own_row none) counts (set now own_row sum)) (sym same) taken_here
      | inr apart ↦
          let taken = takes.taken other (earlier_first other apart is_first) in
          record {
            bare =
                λ target has. taken.bare target (subst (λ words. HasMark words target) (words_other other apart) has);
            count = get_or-set_other now own_row other sum 0 apart ∙ taken.count;
          }
    ];
    left = λ other. elim (cases_eq other own_row) [
      | inl same ↦ inl (node, (Contains-more nodes i node node within is).1 (inr refl), sym same)
      | inr apart ↦ elim (takes.left other) [
        | inl first ↦ inl (first.0, (Contains-more nodes i first.0 node within is).1 (inl first.1), first.2)
        | inr left ↦ inr (record {
          words = words_other other apart ∙ left.words;
          count = get_or-set_other now own_row other sum 0 apart ∙ left.count;
        })
      ]
    ];
  }
