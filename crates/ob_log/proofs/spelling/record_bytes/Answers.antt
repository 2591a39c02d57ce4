use Rattle.ob_log.proofs.Spelled.{record_added}
use Rattle.ob_log.proofs.spelling.record_bytes.Goals as goal

pub returns : goal.returns
returns c = record_added c.args.epoch c.args.batch c.args.first c.args.asks.now c.args.words.now c.new-all.result.items c.add.new.all.items c.add-2.new.all.items c.add-3.new.all.items c.add_places.new.all.items
    c.to_le_bytes.result c.to_le_bytes-2.result c.to_le_bytes-3.result c.new-all.ensures c.add.ensures c.add-2.ensures c.add-3.ensures c.add_places.ensures c.to_le_bytes.ensures c.to_le_bytes-2.ensures c.to_le_bytes-3.ensures
