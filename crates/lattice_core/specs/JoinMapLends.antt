-- What becomes of a map once a borrow of one of its values ends.
use Rattle.std.specs.Prelude.{◌≡◌, List, Option, IsSome}
use Rattle.std.specs.Borrow.{LendsSo, Fml, RattleType, MutBor}
use Rattle.std.specs.declared.alloc.Allocator as alloc
use Rattle.std.specs.declared.cmp.Ordering.{Ordering}
use Rattle.std.specs.BTreeMap.Lent.{OrdMembers}
use Rattle.std.specs.FinMap.{get, insert}
use Rattle.lattice_core.specs.JoinMap.{map_of}
use Rattle.lattice_core.specs.contracts.join_map.JoinMap.{the_row}

-- where the map has the key, it has there the last value that was written through r, and it is unchanged where r is
-- `None`
abbrev pub lends_value : (K V A : RattleType) → OrdMembers K.Denot → alloc.Ghosts A.Denot → {S T : Type 0}
    → (S → S → Ordering) → (K.Denot → S) → (V.Denot → T) → MutBor (List (K.Denot × V.Denot)) → K.Denot
    → Option (MutBor V.Denot) → Fml
lends_value K V A g a order key_shape value_shape m k r =
    let shape = map_of order key_shape value_shape in
    LendsSo (the_row K V A (record { cmp = g.cmp }) (record { eq = g.eq }) (record { partial_cmp = g.partial_cmp }) a) V m r
    (λ n w. IsSome (get (shape m.now) (key_shape k)) → shape n ≡ insert (shape m.now) (key_shape k) (value_shape w))
    (λ n. n ≡ m.now)
