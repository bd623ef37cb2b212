-- What a claim is, as contracts see it.
use Rattle.review_ops.specs.Draft.{deed_of}
use Rattle.gerrit_events.specs.declared.claim.Claimed.{Claimed}
use Rattle.gerrit_events.specs.declared.claim.Claimed.TheVariants.{Draft, Shown, Listing, Fault}
use Rattle.gerrit_events.specs.Claims.{Claim, drafts, shows, lists, refuses}
use Rattle.gerrit_events.specs.Listings.{listing_shown}

abbrev pub claim_shown : Claimed → Claim
claim_shown (Draft draft) = drafts (deed_of draft)
claim_shown (Shown draft) = shows (deed_of draft)
claim_shown (Listing listing) = lists (listing_shown listing)
claim_shown (Fault fault) = refuses fault
