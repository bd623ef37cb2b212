use Rattle.std.proofs.Common.{refl}
use Rattle.feed_client.proofs.listing.complete_site.Goals as goal

pub returns-in-Ok : goal.returns-in-Ok
returns-in-Ok g c =
    record {
      between = _;
      answered = _;
      fed = c.in-Ok.ensures;
      ended = c.end_listing.ensures;
    }

pub returns-in-Err : goal.returns-in-Err
returns-in-Err g c =
    record {
      between = _;
      answered = _;
      fed = c.in-Err.ensures;
      ended = (refl, refl);
    }
