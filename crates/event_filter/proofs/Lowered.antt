-- The bodies of a list of findings that lower what a record says, one finding after the other.
use Rattle.std.proofs.Common.{ℕ, ◌+◌, ◌<◌, List, [], ◌∷◌, ◌++◌, length, get_or, take, refl, sym, ap, subst, ◌∙◌}
use Rattle.std.proofs.Common.{append_assoc, append-nil}
use Rattle.std.proofs.lemmas.List.{take_more}
use Rattle.review_ops.specs.Deed.{Deed}
use Rattle.state_core.specs.State.{State}
use Rattle.gerrit_events.specs.declared.finding.Finding.{Finding}
use Rattle.event_filter.specs.Lowering.{AreAllLowering, AreLowering}

module _ (state : State) where
  one_more : (findings : List Finding) (finding : Finding) (bodies more : List Deed)
      → AreAllLowering state findings bodies → AreLowering state finding more
      → AreAllLowering state (findings ++ finding ∷ []) (bodies ++ more)
  one_more [] finding bodies more none one =
      (more, [], one, refl, ap (λ some. some ++ more) none ∙ sym (append-nil more))
  one_more (next ∷ findings) finding bodies more all one = (
    all.0,
    all.1 ++ more,
    all.2,
    one_more findings finding all.1 more all.3 one,
    ap (λ some. some ++ more) all.4 ∙ append_assoc all.0 all.1 more,
  )

  pub lower_more : (findings : List Finding) (i : ℕ) (d : Finding) → i < length findings → (bodies more : List Deed)
      → AreAllLowering state (take i findings) bodies → AreLowering state (get_or findings i d) more
      → AreAllLowering state (take (i + 1) findings) (bodies ++ more)
  lower_more findings i d within bodies more before one =
      subst (λ some. AreAllLowering state some (bodies ++ more)) (sym (take_more findings i d within))
      (one_more (take i findings) (get_or findings i d) bodies more before one)
