use Rattle.std.proofs.Common.{◌≡◌, None, map, option_map, string_bytes}
use Rattle.std.specs.Prelude.{IfSome}
use Rattle.gate_check.specs.Near.{IsNearName}
use Rattle.gate_check.specs.Nearest.{nearest_of}
use Rattle.gate_check.proofs.nearest.nearest.Given as goal

-- the nearest so far, with the names that are left, is that of all
abbrev pub invariant-loop-other : goal.invariant-loop-other
invariant-loop-other l = record {
  near : IfSome l.best (IsNearName l.name);
  same : nearest_of l.name (option_map (λ near. near.name.now) l.best) (map string_bytes l.other-iterator)
      ≡ nearest_of l.name None (map string_bytes l.names.keys);
}
