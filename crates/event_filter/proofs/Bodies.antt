-- Bodies of deeds, one after the other: what is done, with the bodies of the deeds that are left, is the whole.
use Rattle.std.proofs.Common.{◌≡◌, Bool, true, cond, List, [], ◌∷◌, ◌++◌, map, refl, sym, ap, subst, append_assoc}
use Rattle.std.proofs.Common.{append-nil, inl, inr, ◌∙◌}
use Rattle.std.specs.List.{filter}
use Rattle.review_ops.specs.Deed.{Deed, kept_deed}
use Rattle.event_filter.specs.Bringing.{AddsDeed, AreBodies}

abbrev pub Completes : List Deed → List Deed → List Deed → Type 0
Completes whole left done = (rest : List Deed) → AreBodies left rest → AreBodies whole (done ++ rest)

pub completed : (whole done : List Deed) → Completes whole [] done → AreBodies whole done
completed whole done completes = subst (AreBodies whole) (append-nil done) (completes [] refl)

module _ (whole : List Deed) (deed : Deed) (left done new : List Deed) where
  one_more : Completes whole (deed ∷ left) done → AddsDeed deed done new → Completes whole left new
  one_more completes (inl kept) = λ rest bodies.
      subst (AreBodies whole)
      (sym (append_assoc done (kept_deed deed ∷ []) rest) ∙ ap (λ xs. xs ++ rest) (sym kept.1))
      (completes (kept_deed deed ∷ rest) (inl (rest, kept.0, refl, bodies)))
  one_more completes (inr none) = λ rest bodies.
      subst (AreBodies whole) (ap (λ xs. xs ++ rest) (sym none.1)) (completes rest (inr (none.0, bodies)))

module _ {X : Type 0} (test : X → Bool) (deed_of : X → Deed) (whole : List Deed) (item : X) (before after : List X)
    (first : before ≡ item ∷ after) (done new : List Deed) where
  -- an item that passes the test
  pub passed_more : test item ≡ true → Completes whole (map deed_of (filter test before)) done
      → AddsDeed (deed_of item) done new → Completes whole (map deed_of (filter test after)) new
  passed_more passes completes adds =
      one_more whole (deed_of item) (map deed_of (filter test after)) done new
      (subst (λ deeds. Completes whole deeds done)
      (ap (λ xs. map deed_of (filter test xs)) first
      ∙ ap (λ t. map deed_of (cond t (item ∷ filter test after) (filter test after))) passes) completes)
      adds
