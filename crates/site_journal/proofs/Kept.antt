-- What is kept of a record, operation by operation.
use Rattle.std.proofs.Common.{◌≡◌, ◌<◌, ◌+◌, ◌∙◌, ◌++◌, ℕ, true, false, List, [], ◌∷◌, ap, append-nil, cond, get_or}
use Rattle.std.proofs.Common.{length, not, refl, sym, take}
use Rattle.std.proofs.lemmas.List.{take_more}
use Rattle.std.proofs.lemmas.List.Elements.{filter-append}
use Rattle.replica_core.specs.Journal.{arrived, has}
use Rattle.replica_core.specs.JournalLaws.{IsSameSet-append, has-arrived}
use Rattle.replica_core.specs.Sets.{IsSameSet}
use Rattle.review_ops.specs.Operation.{Operation}
use Rattle.site_journal.specs.Leaving.{is_left_out, kept_of}
use Rattle.site_journal.specs.declared.leaving.LeftOut.{LeftOut}

-- where nothing is left out all stays
pub all_kept : (left_out : LeftOut) → ((op : Operation) → is_left_out left_out op ≡ false) → (ops : List Operation)
    → kept_of left_out ops ≡ ops
all_kept left_out none [] = refl
all_kept left_out none (op ∷ ops) =
    ap (λ t. cond (not t) (op ∷ kept_of left_out ops) (kept_of left_out ops)) (none op)
    ∙ ap (λ rest. op ∷ rest) (all_kept left_out none ops)

module _ (left_out : LeftOut) (taken ops : List Operation) (i : ℕ) (op : Operation) (within : i < length ops)
    (is : op ≡ get_or ops i op) (same : IsSameSet taken (kept_of left_out (take i ops))) where
  one_further : kept_of left_out (take (i + 1) ops) ≡ kept_of left_out (take i ops) ++ kept_of left_out (op ∷ [])
  one_further = ap (kept_of left_out) (take_more ops i op within)
      ∙ filter-append (λ one. not (is_left_out left_out one)) (take i ops) (get_or ops i op ∷ [])
      ∙ ap (λ one. kept_of left_out (take i ops) ++ kept_of left_out (one ∷ [])) (sym is)

  -- one that isn't left out is taken
  pub one_taken : is_left_out left_out op ≡ false → IsSameSet (arrived taken op) (kept_of left_out (take (i + 1) ops))
  one_taken stays other =
      has-arrived taken op other
      ∙ IsSameSet-append taken (kept_of left_out (take i ops)) (op ∷ []) same other
      ∙ ap (λ more. has (kept_of left_out (take i ops) ++ more) other)
      (sym (ap (λ t. cond (not t) (op ∷ []) []) stays))
      ∙ ap (λ all. has all other) (sym one_further)

  -- one that is left out isn't
  pub one_passed : is_left_out left_out op ≡ true → IsSameSet taken (kept_of left_out (take (i + 1) ops))
  one_passed goes other =
      same other
      ∙ ap (λ all. has all other)
      (sym (append-nil (kept_of left_out (take i ops)))
      ∙ ap (λ more. kept_of left_out (take i ops) ++ more) (sym (ap (λ t. cond (not t) (op ∷ []) []) goes))
      ∙ sym one_further)
