use Rattle.std.proofs.Common.{length, arith}
use Rattle.ob_store.proofs.Doing.{tells_none, does_err}
use Rattle.ob_cells.specs.Orders.{read_notes}
use Rattle.ob_cells.proofs.Notes.{read_more, read_part}
use Rattle.ob_flat.proofs.RowReads.{none_read, next_row, all_read, stopped}
use Rattle.ob_flat.proofs.reading.read_each.Goals as goal

pub loop-i-init : goal.loop-i-init
loop-i-init g c = record {
  rows = λ tells. none_read c.args.sealer.now.keys c.args.base (g.S.Store.disk c.args.store.now).cells c.args.values.now;
  later = omega arith;
  tells = tells_none (g.S.Store.lane_seen c.args.lane.now) (g.W.Watch.trace c.args.watch.now);
}

pub returns-clause-value : goal.returns-clause-value
returns-clause-value g c = λ tells.
    all_read c.args.sealer.now.keys c.args.base (g.S.Store.disk c.args.store.now).cells c.loop-i.values c.loop-i.i c.loop-i.expected (omega arith) (c.loop-i.invariant.rows tells)

pub returns-in-Err-clause-value : goal.returns-in-Err-clause-value
returns-in-Err-clause-value g c = λ tells.
    stopped c.args.sealer.now.keys c.args.base (g.S.Store.disk c.args.store.now).cells c.loop-i.values c.loop-i.i c.loop-i.expected c.in-Err.fault (omega arith) (c.loop-i.invariant.rows tells) (c.in-Err.ensures.value tells)

pub returns-in-Err-clause-does : goal.returns-in-Err-clause-does
returns-in-Err-clause-does g c = does_err _ _ _ _ (read_notes c.args.base (length c.args.values.now)) c.in-Err.fault
    (read_part c.args.base c.loop-i.i _ _ _ _ _ _ c.loop-i.invariant.tells c.in-Err.ensures.told (length c.args.values.now) (omega arith))

pub loop-i-preserved : goal.loop-i-preserved
loop-i-preserved g c =
    let image = (g.S.Store.disk c.args.store.now).cells in
    record {
      rows = λ tells. next_row c.args.sealer.now.keys c.args.base image c.loop-i.values c.loop-i.i c.loop-i.expected c.in-Ok.row (omega arith) (c.loop-i.invariant.rows tells) (c.in-Ok.ensures.value tells);
      later = (let a = c.loop-i.invariant.later in let b = c.in-Ok.ensures.later in omega arith);
      tells = read_more c.args.base c.loop-i.i _ _ _ _ _ _ c.loop-i.invariant.tells c.in-Ok.ensures.told;
    }
