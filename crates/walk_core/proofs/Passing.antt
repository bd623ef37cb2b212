-- Marks are passed on against the edges of some nodes, one after the other, until nothing changes.
use Rattle.std.proofs.Common.{◌≡◌, inl, inr, ◌+◌, ◌*◌, ◌<◌, ◌≤◌, ◌^◌, ℕ, List, [], ◌∷◌, Bool, true, false, MatchBool}
use Rattle.std.proofs.Common.{refl, sym, ◌∙◌, ap, subst, length, take, get_or, arith}
use Rattle.std.specs.List.{sum_by}
use Rattle.std.proofs.lemmas.List.Sums.{sum_by-le}
use Rattle.lattice_core.specs.MemberLaws.{Contains-none, Contains-first, Contains-cons_cases}
use Rattle.walk_core.specs.Marks.{MarksAreKept, AreKeptElsewhere, AreSound, IsGathered, AreGathered, total_of, Passes}
use Rattle.walk_core.specs.Marks.{PassesAll}
use Rattle.walk_core.specs.declared.block.Marks.{Marks}
use Rattle.walk_core.specs.EdgeLaws.{Contains-more}
use Rattle.walk_core.proofs.MarkLemmas.{words_in_range}

module _ (graph : List (List ℕ)) (firsts : List ℕ) where
  -- some nodes and then one more
  module _ (nodes : List ℕ) (i node : ℕ) (within : i < length nodes) (is : node ≡ get_or nodes i node)
      (before mid after : List Marks) where
    abbrev Step : Bool → List ℕ → List Marks → List Marks → Type 0
    Step changes some from to =
        MatchBool changes (total_of from < total_of to) ((to ≡ from) × AreGathered graph firsts some to)

    both_elsewhere : AreKeptElsewhere firsts (take i nodes) before mid → AreKeptElsewhere firsts (node ∷ []) mid after
        → AreKeptElsewhere firsts (take (i + 1) nodes) before after
    both_elsewhere p q row = elim (q row) [
      | inl here ↦ elim (Contains-cons_cases node [] here.0 here.1) [
        | inl same ↦ inl
            (node, (Contains-more nodes i node node within is).1 (inr refl), ap (λ x. get_or firsts x 0) same ∙ here.2)
        | inr none ↦ absurd (Contains-none here.0 none)
      ]
      | inr kept ↦ elim (p row) [
        | inl earlier ↦ inl (earlier.0, (Contains-more nodes i earlier.0 node within is).1 (inl earlier.1), earlier.2)
        | inr was ↦ inr (kept ∙ was)
      ]
    ]

    both_steps : (some one : Bool) (joint : Bool) → Step some (take i nodes) before mid → Step one (node ∷ []) mid after
        → (some ≡ false → one ≡ false → joint ≡ false) → (some ≡ true → joint ≡ true) → (one ≡ true → joint ≡ true)
        → Step joint (take (i + 1) nodes) before after
    both_steps true true joint p q none left right =
        subst (λ b. Step b (take (i + 1) nodes) before after) (sym (left refl)) (omega (arith, p, q))
    both_steps true false joint p q none left right = subst (λ b. Step b (take (i + 1) nodes) before after)
        (sym (left refl)) (let same = ap total_of q.0 in omega (arith, p, same))
    both_steps false true joint p q none left right = subst (λ b. Step b (take (i + 1) nodes) before after)
        (sym (right refl)) (let same = ap total_of p.0 in omega (arith, q, same))
    both_steps false false joint p q none left right =
        subst (λ b. Step b (take (i + 1) nodes) before after) (sym (none refl refl)) (
          q.0 ∙ p.0,
          λ x here. elim ((Contains-more nodes i x node within is).0 here) [
            | inl earlier ↦ subst (λ rows. IsGathered graph firsts rows x) (sym q.0) (p.1 x earlier)
            | inr same ↦ subst (IsGathered graph firsts after) (sym same) (q.1 node (Contains-first node []))
          ],
        )

    pub passes_more : (some one joint : Bool) → Passes graph firsts (take i nodes) before mid some
        → Passes graph firsts (node ∷ []) mid after one
        → (some ≡ false → one ≡ false → joint ≡ false) → (some ≡ true → joint ≡ true) → (one ≡ true → joint ≡ true)
        → Passes graph firsts (take (i + 1) nodes) before after joint
    passes_more some one joint p q none left right = record {
      size = q.size ∙ p.size;
      kept = λ row target has. q.kept row target (p.kept row target has);
      sound = λ block sound. q.sound block (p.sound block sound);
      elsewhere = both_elsewhere p.elsewhere q.elsewhere;
      step = both_steps some one joint p.step q.step none left right;
    }

  -- ---- until nothing changes

  pub record HasPassed (nodes : List ℕ) (before after : List Marks) : Type 0 where
    pub size : length after ≡ length before
    pub kept : MarksAreKept before after
    pub sound : (block : List ℕ) → AreSound graph block before → AreSound graph block after
    pub elsewhere : AreKeptElsewhere firsts nodes before after

  pub passed_none : (nodes : List ℕ) (rows : List Marks) → HasPassed nodes rows rows
  passed_none nodes rows = record {
    size = refl;
    kept = λ row target has. has;
    sound = λ block sound. sound;
    elsewhere = λ row. inr refl;
  }

  pub passed_more : (nodes : List ℕ) (before mid after : List Marks) (changes : Bool) → HasPassed nodes before mid
      → Passes graph firsts nodes mid after changes → HasPassed nodes before after
  passed_more nodes before mid after changes p q = record {
    size = q.size ∙ p.size;
    kept = λ row target has. q.kept row target (p.kept row target has);
    sound = λ block sound. q.sound block (p.sound block sound);
    elsewhere = λ row. elim (q.elsewhere row) [
      | inl here ↦ inl here
      | inr kept ↦ elim (p.elsewhere row) [ inl here ↦ inl here | inr was ↦ inr (kept ∙ was) ]
    ];
  }

  pub passed_all : (nodes : List ℕ) (before mid after : List Marks) (changes : Bool) → changes ≡ false
      → HasPassed nodes before mid → Passes graph firsts nodes mid after changes
      → PassesAll graph firsts nodes before after
  passed_all nodes before mid after changes stops p q =
      let passed = passed_more nodes before mid after changes p q in
      let last = subst (λ b. MatchBool b (total_of mid < total_of after) ((after ≡ mid) × AreGathered graph firsts nodes after)) stops q.step in
      record {
        size = passed.size;
        kept = passed.kept;
        sound = passed.sound;
        elsewhere = passed.elsewhere;
        gathered = last.1;
      }

-- all marks as one number have a bound
pub total_bound : (rows : List Marks) → total_of rows ≤ length rows * (8 * 2 ^ 64)
total_bound rows = sum_by-le (λ (marks : Marks). sum_by (λ word. word) marks.words) (8 * 2 ^ 64) rows
    (λ k d within. let marks = get_or rows k d in words_in_range marks.words marks.size marks.in_range)
