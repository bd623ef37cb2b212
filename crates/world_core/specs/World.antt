-- What contracts see of a world: its sites and the packets that they sent.
use Rattle.std.specs.Prelude.{ℕ, List, [], replicate}
use Rattle.review_ops.specs.Operation.{Operation}
use Rattle.world_core.specs.Numbered.{replaced}

-- a site: the operations that it has and those that it saved, each set in the order of arrival, and the number of its
-- run
pub record SiteState : Type 0 where
  pub journal : List Operation
  pub saved : List Operation
  pub start : ℕ

-- the sites, numbered from 1 on, and every packet that was ever sent, likewise: a packet may come to any site, at any
-- time, again, or never
pub record WorldState : Type 0 where
  pub sites : List SiteState
  pub packets : List (List Operation)

-- a site at first
abbrev pub new_site : SiteState
new_site = record { journal = []; saved = []; start = 1 }

-- so many sites, and nothing sent
abbrev pub new_world : ℕ → WorldState
new_world sites = record { sites = replicate sites new_site; packets = [] }

-- one site is now so
abbrev pub with_site : WorldState → ℕ → SiteState → WorldState
with_site world site at = record { sites = replaced world.sites site at; packets = world.packets }
