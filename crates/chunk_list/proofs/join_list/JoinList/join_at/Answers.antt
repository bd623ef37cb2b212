use Rattle.chunk_list.proofs.AtKey.{parted, outcome}
use Rattle.chunk_list.proofs.join_list.JoinList.join_at.Goals as goal

pub merge-requires : goal.merge-requires
merge-requires g c =
    parted g.met.K.Keep.ordered g.K.Keep.shape g.V.Join.shape (g.K.Keep.shape c.args.key) c.self.inside.entries c.self.invariant

pub invariant_of-self : goal.invariant_of-self
invariant_of-self g c =
    (outcome g.met.K.Keep.ordered g.K.Keep.shape g.V.Join.shape g.met.V.Join.laws g.V.Join.is_infallible c.args.key c.args.value c.merge.result c.self.inside.entries c.merge.new.self c.self.invariant c.merge.ensures).sorted

pub returns-clause-ok : goal.returns-clause-ok
returns-clause-ok g c = rw (← c.self.view_is)
    (outcome g.met.K.Keep.ordered g.K.Keep.shape g.V.Join.shape g.met.V.Join.laws g.V.Join.is_infallible c.args.key c.args.value c.merge.result c.self.inside.entries c.merge.new.self c.self.invariant c.merge.ensures).ok

pub returns-clause-err : goal.returns-clause-err
returns-clause-err g c = rw (← c.self.view_is)
    (outcome g.met.K.Keep.ordered g.K.Keep.shape g.V.Join.shape g.met.V.Join.laws g.V.Join.is_infallible c.args.key c.args.value c.merge.result c.self.inside.entries c.merge.new.self c.self.invariant c.merge.ensures).err

pub returns-clause-unchanged : goal.returns-clause-unchanged
returns-clause-unchanged g c = rw (← c.self.view_is)
    (outcome g.met.K.Keep.ordered g.K.Keep.shape g.V.Join.shape g.met.V.Join.laws g.V.Join.is_infallible c.args.key c.args.value c.merge.result c.self.inside.entries c.merge.new.self c.self.invariant c.merge.ensures).unchanged

pub returns-clause-absent : goal.returns-clause-absent
returns-clause-absent g c = rw (← c.self.view_is)
    (outcome g.met.K.Keep.ordered g.K.Keep.shape g.V.Join.shape g.met.V.Join.laws g.V.Join.is_infallible c.args.key c.args.value c.merge.result c.self.inside.entries c.merge.new.self c.self.invariant c.merge.ensures).absent
