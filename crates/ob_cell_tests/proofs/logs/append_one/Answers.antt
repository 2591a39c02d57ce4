use Rattle.std.proofs.Common.{length, refl, take}
use Rattle.ob_log.proofs.OneAsk.{one_low, one_apart}
use Rattle.ob_cell_tests.proofs.logs.append_one.Goals as goal

pub append-requires-clause-keys_low : goal.append-requires-clause-keys_low
append-requires-clause-keys_low g c =
    one_low c.args.one (length c.args.words.now) 63 (take (length c.args.words.now) c.one_ask-asks.result) c.one_ask-asks.result refl c.one_ask-asks.ensures c.args.p.now.keys (c.is_low.ensures c.if-not-is_low.false)

pub append-requires-clause-keys_apart : goal.append-requires-clause-keys_apart
append-requires-clause-keys_apart g c =
    one_apart c.args.one (length c.args.words.now) 63 (take (length c.args.words.now) c.one_ask-asks.result) c.one_ask-asks.result refl c.one_ask-asks.ensures
