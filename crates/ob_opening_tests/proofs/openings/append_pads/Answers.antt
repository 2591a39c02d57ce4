use Rattle.std.proofs.Common.{◌≡◌, List, Option, None, length, take, refl}
use Rattle.ob_log.proofs.OneAsk.{one_low, one_apart}
use Rattle.ob_opening_tests.proofs.openings.append_pads.Goals as goal

pub append-appended-requires-clause-keys_low : goal.append-appended-requires-clause-keys_low
append-appended-requires-clause-keys_low g c =
    one_low None c.args.p.now.places 63 (take c.args.p.now.places c.no_asks-asks.result) c.no_asks-asks.result refl c.no_asks-asks.ensures c.args.p.now.keys tt

pub append-appended-requires-clause-keys_apart : goal.append-appended-requires-clause-keys_apart
append-appended-requires-clause-keys_apart g c =
    one_apart None c.args.p.now.places 63 (take c.args.p.now.places c.no_asks-asks.result) c.no_asks-asks.result refl c.no_asks-asks.ensures
