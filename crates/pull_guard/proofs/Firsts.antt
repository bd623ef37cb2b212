-- The first operation of a list that isn't let in.
use Rattle.std.proofs.Common.{◌≡◌, ◌<◌, ◌∙◌, ◌++◌, ◌+◌, ℕ, List, ◌∷◌, ap, drop, get_or, length, sym, take}
use Rattle.std.proofs.lemmas.List.{drop_more, take-append-drop}
use Rattle.review_ops.specs.Operation.{Operation}
use Rattle.pull_guard.specs.Guards.{AreAllowed, AreBarred, IsBarred}
use Rattle.pull_guard.specs.declared.guard.Bar.{Bar}
use Rattle.pull_guard.specs.declared.guard.Guard.{Guard}

-- the operation at a place, where those before are let in and it isn't
pub first_barred : (guard : Guard) (latest : ℕ) (ops : List Operation) (i : ℕ) (op : Operation) (bar : Bar)
    → i < length ops → op ≡ get_or ops i op → AreAllowed guard latest (take i ops)
    → IsBarred guard latest op.stamp bar → AreBarred guard latest ops bar
first_barred guard latest ops i op bar within is before barred = (
  take i ops,
  op,
  drop (i + 1) ops,
  sym (take-append-drop i ops)
      ∙ ap (λ l. take i ops ++ l) (drop_more ops i op within ∙ ap (λ one. one ∷ drop (i + 1) ops) (sym is)),
  before,
  barred,
)
