use Rattle.std.proofs.Common.{length, arith, ap}
use Rattle.ob_log.proofs.PlaceReads.{asks_many}
use Rattle.ob_log.proofs.places.read_ask.Goals as goal

pub least_unasked-requires : goal.least_unasked-requires
least_unasked-requires c = record {
  few = omega (arith, ap length c.requires.asks, asks_many c.args.bytes.now c.args.i);
}
