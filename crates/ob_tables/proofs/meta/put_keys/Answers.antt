use Rattle.std.proofs.Common.{length, arith}
use Rattle.ob_tables.proofs.VersionLaws.{padded_is}
use Rattle.ob_tables.proofs.meta.put_keys.Goals as goal

pub returns : goal.returns
returns c = padded_is c.loop-j.places c.args.keys.now (length c.args.places.now) c.loop-j.auto.places c.requires (λ k h. c.loop-j.invariant k (omega arith))
