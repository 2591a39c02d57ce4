use Rattle.std.proofs.Common.{arith, length-drop}
use Rattle.std.proofs.lemmas.List.{take_all, take_rest}
use Rattle.std.proofs.lemmas.Result.{err_from_is_err_and}
use Rattle.ob_report.proofs.Gathering.{nothing, gathers_whole, stopped_at, part_more}
use Rattle.ob_report.proofs.page.put_bytes.Goals as goal

pub returns-in_err-make_room : goal.returns-in_err-make_room
returns-in_err-make_room g c =
    let p = err_from_is_err_and c.from_residual.result c.from_residual.ensures.1 in
    stopped_at c.args.bytes.now c.loop-at.at _ _ _ p.0 c.from_residual.result c.loop-at.invariant.whole c.in_err-make_room.ensures.gathers p.1

pub loop-at-preserved : goal.loop-at-preserved
loop-at-preserved g c =
    let rest = take_rest c.args.bytes.now c.loop-at.at in
    let part = rw rest at c.hold-at.ensures.some.1 in
    let held = rw rest at c.hold-at.ensures.held in
    record {
      within = omega (arith, part, length-drop c.loop-at.at c.args.bytes.now);
      whole = part_more c.args.bytes.now c.loop-at.at c.hold-at.result _ _ _ _ _ _ tt c.loop-at.invariant.whole c.in_ok-make_room.ensures.gathers held;
    }

pub loop-at-init : goal.loop-at-init
loop-at-init g c = record { within = omega arith; whole = nothing _ _ _ }

pub returns : goal.returns
returns g c = gathers_whole c.args.bytes.now _ _ tt (rw (take_all c.loop-at.at c.args.bytes.now c.loop-at-test.false) at c.loop-at.invariant.whole)
