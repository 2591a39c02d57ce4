use Rattle.std.proofs.Common.{ℕ, arith}
use Rattle.std.specs.Prelude.{◌-◌, ◌*◌, ◌%◌, ◌^◌}
use Rattle.ob_ring.proofs.Listing.{levels_none, levels_more, levels_room, levels_all, level_many}
use Rattle.ob_ring.proofs.lifts.list_lifted.Goals as goal

pub loop-i-init : goal.loop-i-init
loop-i-init c = levels_none c.args.p.now c.args.metas.now c.clear_order.new.self c.clear_order.ensures

pub list_level-requires-clause-within : goal.list_level-requires-clause-within
list_level-requires-clause-within c =
    let k : ℕ = c.args.p.now.levels - c.loop-i.i in
    (levels_room c.args.p.now c.loop-i.i k (1 * 2 ^ k % 4294967296) c.args.metas.now c.loop-i.metas (omega (arith, c.loop-i-test.true)) (level_many c.args.p.now k (omega arith)) c.requires.whole.many c.loop-i.invariant).0

pub list_level-requires-clause-room : goal.list_level-requires-clause-room
list_level-requires-clause-room c =
    let k : ℕ = c.args.p.now.levels - c.loop-i.i in
    (levels_room c.args.p.now c.loop-i.i k (1 * 2 ^ k % 4294967296) c.args.metas.now c.loop-i.metas (omega (arith, c.loop-i-test.true)) (level_many c.args.p.now k (omega arith)) c.requires.whole.many c.loop-i.invariant).1

pub list_level-requires-clause-few : goal.list_level-requires-clause-few
list_level-requires-clause-few c =
    let k : ℕ = c.args.p.now.levels - c.loop-i.i in
    (levels_room c.args.p.now c.loop-i.i k (1 * 2 ^ k % 4294967296) c.args.metas.now c.loop-i.metas (omega (arith, c.loop-i-test.true)) (level_many c.args.p.now k (omega arith)) c.requires.whole.many c.loop-i.invariant).2

pub loop-i-preserved : goal.loop-i-preserved
loop-i-preserved c =
    let k : ℕ = c.args.p.now.levels - c.loop-i.i in
    levels_more c.args.p.now c.loop-i.i k (1 * 2 ^ k % 4294967296) c.args.metas.now c.loop-i.metas c.list_level.new.metas (omega (arith, c.loop-i-test.true)) (level_many c.args.p.now k (omega arith)) c.loop-i.invariant c.list_level.ensures

pub returns : goal.returns
returns c = levels_all c.args.p.now c.loop-i.i c.args.metas.now c.loop-i.metas (omega (arith, c.loop-i-test.false)) c.loop-i.invariant
