-- What has hashed the pads of a key.
use Rattle.std.specs.Prelude.{ℕ, List}
use Rattle.sha2.specs.Hashers.{Holds256}
use Rattle.sha2.specs.declared.Sha256.{Sha256}
use Rattle.keyed_digest.specs.Hmac.{inner_pad, outer_pad}

-- the one has hashed the inner pad of this key, the other one the outer pad
pub record HavePads (key : List ℕ) (inner outer : Sha256) : Type 0 where
  pub inner_is : Holds256 inner (inner_pad key)
  pub outer_is : Holds256 outer (outer_pad key)
