use Rattle.chunk_list.proofs.AtKey.{parted, shapes_from}
use Rattle.chunk_list.proofs.join_list.JoinList.from_key.Goals as goal

pub failing-requires : goal.failing-requires
failing-requires g c =
    parted g.met.K.Keep.ordered g.K.Keep.shape g.V.Join.shape (g.K.Keep.shape c.args.key.now) c.self.inside.entries c.self.invariant

pub returns : goal.returns
returns g c = rw (c.failing.ensures, ← c.self.view_is)
    (shapes_from g.met.K.Keep.ordered g.K.Keep.shape g.V.Join.shape (g.K.Keep.shape c.args.key.now) c.self.inside.entries c.self.invariant)
