-- RFC 2104, section 2: the outer digest is over the outer pad and the inner digest.
use Rattle.keyed_digest.proofs.Pads.{tag_by_digests}
use Rattle.keyed_digest.specs.Hmac.{inner_pad, outer_pad}
use Rattle.keyed_digest.proofs.mac.Mac.tag.Goals as goal

pub returns : goal.returns
returns c =
    let key = c.self.inside.key in
    let digest = c.digest_after-inner.ensures (inner_pad key) c.self.invariant.inner_is in
    let tag = rw c.as_slice.ensures at (c.digest_after.ensures (outer_pad key) c.self.invariant.outer_is) in
    rw (← c.self.view_is) (tag_by_digests key c.args.first.now c.args.second.now c.digest_after-inner.result c.digest_after.result digest tag)
