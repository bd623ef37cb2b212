use Rattle.std.proofs.Common.{◌≡◌, filter, map, take}
use Rattle.site_address.specs.Address.{has_slash}
use Rattle.command_line.proofs.addresses.paths_of.Given as goal

abbrev pub invariant-loop-text : goal.invariant-loop-text
invariant-loop-text l =
    map (λ path. path.now) l.paths.items ≡ filter has_slash (map (λ text. text.now) (take l.text-index l.texts))
