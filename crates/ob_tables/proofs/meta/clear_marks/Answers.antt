use Rattle.std.proofs.Common.{length, arith}
use Rattle.ob_tables.proofs.VersionLaws.{replicate_is}
use Rattle.ob_tables.proofs.meta.clear_marks.Goals as goal

pub returns : goal.returns
returns c = replicate_is c.loop-mark.used (length c.args.used.now) c.loop-mark.auto.used (λ k h. c.loop-mark.invariant k (omega arith))
