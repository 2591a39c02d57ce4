use Rattle.std.proofs.Common.{refl}
use Rattle.ob_seal.specs.Seals.{sealed, sealed_front}
use Rattle.ob_seal.proofs.sealer.Sealer.seal_under.Goals as goal

pub returns : goal.returns
unfolding sealed sealed_front
returns c =
    rw (c.stamp.ensures, c.front_of-front.ensures, c.identity_bytes-identity.ensures, c.xored.ensures, c.requires, ← c.self.view_is) refl
