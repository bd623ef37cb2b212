use Rattle.std.proofs.Common.{arith}
use Rattle.walk_core.specs.declared.component.Place.TheVariants.{Behind}
use Rattle.walk_core.proofs.Places.{place_within}
use Rattle.walk_core.proofs.Members.{connected_found, found_connected, has_component}
use Rattle.walk_core.proofs.component.find_component.Goals as goal

pub release-requires : goal.release-requires
release-requires g c = λ x here.
    let found = c.in_ok-behind.ensures.moved x (rw c.as_slice.ensures.value at here) in
    let within = place_within c.spread.new.places.items x Behind (λ same. cc (same)) found.is in
    omega (arith, within, c.in_ok-members.ensures.size)

pub returns-clause-places : goal.returns-clause-places
returns-clause-places g c =
    let released = rw c.as_slice.ensures.value at c.release.ensures in
    has_component _ _ _ c.requires.settled c.requires.waits _ _ c.in_ok-behind.ensures _ _ c.in_ok-members.ensures _ released

pub returns-clause-members : goal.returns-clause-members
returns-clause-members g c = λ x. (
  found_connected _ _ _ c.requires.settled c.requires.waits _ _ c.in_ok-behind.ensures _ _ c.in_ok-members.ensures x,
  connected_found _ _ _ c.requires.settled c.requires.waits _ _ c.in_ok-behind.ensures _ _ c.in_ok-members.ensures x,
)
