-- What a front reaches stays numbered from 1 on.
use Rattle.std.proofs.Common.{◌≡◌, ℕ, Result, Ok, Err, sym, subst, arith}
use Rattle.std.specs.Prelude.{OnOk, OnErr}
use Rattle.std.specs.Ordering.{nat_cmp, ord_max}
use Rattle.lattice_core.specs.JoinMap.{put_joined}
use Rattle.replica_core.specs.Front.{Reaches, AreFromOneOn}
use Rattle.replica_core.specs.FrontLaws.{AreReached-put}

pub AreReached-raise : {T E : Type 0} (result : Result T E) (old new : Reaches) (site start seq : ℕ) → (seq ≡ 0 → ⊥)
    → OnOk result (new ≡ put_joined (ord_max nat_cmp) old (site, start) seq) → OnErr result (new ≡ old) → AreFromOneOn old
    → AreFromOneOn new
AreReached-raise (Ok x) old new site start seq some ok err reached =
    subst AreFromOneOn (sym ok) (AreReached-put old site start seq (omega (arith, some)) reached)
AreReached-raise (Err e) old new site start seq some ok err reached = subst AreFromOneOn (sym err) reached
