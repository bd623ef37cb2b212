use Rattle.std.proofs.Common.{◌≡◌, ◌∙◌, Some, None, true, false, cond, sym, ap}
use Rattle.std.specs.Ordering.{is_eq}
use Rattle.std.specs.Option.{option_copied, option_map}
use Rattle.chunk_list.proofs.AtKey.{parted, get_at, value_of_pair, not_equal}
use Rattle.chunk_list.proofs.join_list.JoinList.get.Goals as goal

pub first_failing-requires : goal.first_failing-requires
first_failing-requires g c =
    parted g.met.K.Keep.ordered g.K.Keep.shape g.V.Join.shape (g.K.Keep.shape c.args.key.now) c.self.inside.entries c.self.invariant

pub returns-in_err-pair : goal.returns-in_err-pair
returns-in_err-pair g c =
    let key = g.K.Keep.shape c.args.key.now in
    let entries = c.self.inside.entries in
    rw (← c.self.view_is) (ap (λ o. option_map g.V.Join.shape (option_copied o)) c.from_residual.ensures
    ∙ ap (value_of_pair g.met.K.Keep.ordered g.K.Keep.shape g.V.Join.shape key) (c.in_err-pair.ensures)
    ∙ sym (get_at g.met.K.Keep.ordered g.K.Keep.shape g.V.Join.shape key entries c.self.invariant))

pub returns-in-Equal : goal.returns-in-Equal
returns-in-Equal g c =
    let key = g.K.Keep.shape c.args.key.now in
    let entries = c.self.inside.entries in
    let pair = c.in_ok-pair.pair.now in
    let same : is_eq (g.K.Keep.order (g.K.Keep.shape pair.0) key) ≡ true = ap is_eq (sym (g.met.K.Keep.compares pair.0 c.args.key.now) ∙ sym c.cmp.ensures ∙ c.in-Equal.is) in
    rw (← c.self.view_is) (sym (ap (λ t. cond t (Some (g.V.Join.shape pair.1)) None) same)
    ∙ ap (value_of_pair g.met.K.Keep.ordered g.K.Keep.shape g.V.Join.shape key) c.in_ok-pair.ensures
    ∙ sym (get_at g.met.K.Keep.ordered g.K.Keep.shape g.V.Join.shape key entries c.self.invariant))

pub returns-in_default : goal.returns-in_default
returns-in_default g c =
    let key = g.K.Keep.shape c.args.key.now in
    let entries = c.self.inside.entries in
    let pair = c.in_ok-pair.pair.now in
    let other : is_eq (g.K.Keep.order (g.K.Keep.shape pair.0) key) ≡ false = ap is_eq (sym (g.met.K.Keep.compares pair.0 c.args.key.now)) ∙ not_equal _ (λ e. c.in_default.not-Equal (c.cmp.ensures ∙ e)) in
    rw (← c.self.view_is) (sym (ap (λ t. cond t (Some (g.V.Join.shape pair.1)) None) other)
    ∙ ap (value_of_pair g.met.K.Keep.ordered g.K.Keep.shape g.V.Join.shape key) c.in_ok-pair.ensures
    ∙ sym (get_at g.met.K.Keep.ordered g.K.Keep.shape g.V.Join.shape key entries c.self.invariant))
