use Rattle.std.specs.Option.{option_copied_mut, option_map}
use Rattle.std.proofs.Common.{sym, ap, ◌∙◌}
use Rattle.lattice_core.specs.JoinMap.{map_of}
use Rattle.lattice_core.proofs.AtKey.{OnOk-joined, OnErr-joined, OnOk-added, OnErr-added}
use Rattle.lattice_core.proofs.join_map.JoinMap.join_at.Goals as goal

pub returns-in-Some-clause-ok : goal.returns-in-Some-clause-ok
returns-in-Some-clause-ok g c =
    OnOk-joined g.met.K.Keep.ordered (map_of g.K.Keep.order g.K.Keep.shape g.V.Join.shape c.args.self.now)
    (g.K.Keep.shape c.args.key) (g.V.Join.shape c.args.value) c.join.result g.V.Join.joined
    (g.V.Join.shape c.in-Some.own.now) (g.V.Join.shape c.join.new.self) _
    (sym c.get_mut.ensures.value ∙ ap (λ own. option_map g.V.Join.shape (option_copied_mut own)) c.in-Some.is)
    (c.get_mut.follows.holds c.join.new.self) c.join.ensures.ok

pub returns-in-Some-clause-err : goal.returns-in-Some-clause-err
returns-in-Some-clause-err g c =
    OnErr-joined g.met.K.Keep.ordered (map_of g.K.Keep.order g.K.Keep.shape g.V.Join.shape c.args.self.now)
    (g.K.Keep.shape c.args.key) (g.V.Join.shape c.args.value) c.join.result g.met.V.Join.laws
    (g.V.Join.shape c.in-Some.own.now) (g.V.Join.shape c.join.new.self) _
    (sym c.get_mut.ensures.value ∙ ap (λ own. option_map g.V.Join.shape (option_copied_mut own)) c.in-Some.is)
    (c.get_mut.follows.holds c.join.new.self) c.join.ensures.err

pub returns-clause-ok : goal.returns-clause-ok
returns-clause-ok g c =
    OnOk-added g.met.K.Keep.ordered (map_of g.K.Keep.order g.K.Keep.shape g.V.Join.shape c.args.self.now)
    (g.K.Keep.shape c.args.key) (g.V.Join.shape c.args.value) c.put.result g.V.Join.joined _ _
    (sym c.get_mut.ensures.value ∙ ap (λ own. option_map g.V.Join.shape (option_copied_mut own)) c.in_default.is)
    (ap (map_of g.K.Keep.order g.K.Keep.shape g.V.Join.shape) c.get_mut.follows.holds-at-none) c.put.ensures.ok

pub returns-clause-err : goal.returns-clause-err
returns-clause-err g c =
    OnErr-added g.met.K.Keep.ordered (map_of g.K.Keep.order g.K.Keep.shape g.V.Join.shape c.args.self.now)
    (g.K.Keep.shape c.args.key) (g.V.Join.shape c.args.value) c.put.result g.met.V.Join.laws
    (map_of g.K.Keep.order g.K.Keep.shape g.V.Join.shape) _ _
    (ap (map_of g.K.Keep.order g.K.Keep.shape g.V.Join.shape) c.get_mut.follows.holds-at-none) c.put.ensures.err
