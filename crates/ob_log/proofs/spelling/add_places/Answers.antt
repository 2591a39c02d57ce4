use Rattle.std.proofs.Common.{length, arith, ap, length-append}
use Rattle.ob_log.proofs.Spelled.{placed, room_for}
use Rattle.ob_log.proofs.spelling.add_places.Goals as goal

pub add-requires : goal.add-requires
add-requires c = record {
  room = omega (arith, room_for c.args.all.now.items c.loop-i.all.items c.ask_bytes.result c.args.asks.now c.args.words.now c.loop-i.i c.loop-i-test.true c.requires.same c.requires.room c.loop-i.invariant.spelled c.ask_bytes.ensures);
}

pub add-requires-in-loop-i : goal.add-requires-in-loop-i
add-requires-in-loop-i c = record {
  room = omega (
    arith,
    room_for c.args.all.now.items c.loop-i.all.items c.ask_bytes.result c.args.asks.now c.args.words.now c.loop-i.i c.loop-i-test.true c.requires.same c.requires.room c.loop-i.invariant.spelled c.ask_bytes.ensures,
    ap length c.add.ensures,
    length-append c.loop-i.all.items c.ask_bytes.result,
    ap length c.to_le_bytes.ensures,
  );
}

pub loop-i-preserved : goal.loop-i-preserved
loop-i-preserved c = record {
  spelled = placed c.args.all.now.items c.loop-i.all.items c.add.new.all.items c.add-in-loop-i.new.all.items c.ask_bytes.result c.to_le_bytes.result c.args.asks.now c.args.words.now c.loop-i.i
      c.loop-i-test.true c.requires.same c.loop-i.invariant.spelled c.add.ensures c.add-in-loop-i.ensures c.ask_bytes.ensures c.to_le_bytes.ensures;
}
