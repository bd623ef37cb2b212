use Rattle.std.proofs.Common.{filter, map, not, take}
use Rattle.std.specs.List.{AllZip}
use Rattle.site_address.specs.Address.{has_slash}
use Rattle.site_address.specs.Host.{NamesHostPort}
use Rattle.command_line.proofs.addresses.hosts_of.Given as goal

abbrev pub invariant-loop-text : goal.invariant-loop-text
invariant-loop-text l =
    AllZip NamesHostPort (filter (λ word. not (has_slash word)) (map (λ text. text.now) (take l.text-index l.texts))) l.hosts.items
