use Rattle.std.proofs.Common.{◌≡◌, ◌/◌, length, arith}
use Rattle.ob_cells.specs.Runs.{run_at}
use Rattle.ob_cells.proofs.Notes.{first_told, read_more}
use Rattle.ob_cells.proofs.RunReads.{run_first_at, run_more_at, stopped_first_at, stopped_more_at}
use Rattle.ob_cells.proofs.Stopping.{fault_first, fault_more, does_first, does_more, read_all}
use Rattle.ob_cells.proofs.reading.read_run.Goals as goal

pub returns-in-Err-clause-run : goal.returns-in-Err-clause-run
returns-in-Err-clause-run g c =
    let many = length c.args.plain.now / 96 in
    record {
      value = λ tells. stopped_first_at c.args.sealer.now.keys c.args.base (g.S.Store.disk c.args.store.now).cells many c.args.plain.now c.in-Err.fault (omega arith) (c.in-Err.ensures.value tells);
      faults = fault_first c.args.base many c.in-Err.fault (omega arith) c.in-Err.ensures.faults;
      does = does_first c.args.base many _ _ _ _ c.in-Err.fault (omega arith) c.in-Err.ensures.faults c.in-Err.ensures.told;
    }

pub loop-i-init : goal.loop-i-init
loop-i-init g c = record {
  run = λ tells. run_first_at c.args.sealer.now.keys c.args.base (g.S.Store.disk c.args.store.now).cells c.args.plain.now c.in-Ok.opened _ c.put.ensures (omega arith) (c.in-Ok.ensures.value tells).1;
  later = c.in-Ok.ensures.later;
  tells = first_told c.args.base _ _ _ _ c.in-Ok.ensures.told;
}

pub returns-in-Err-read_next-clause-run : goal.returns-in-Err-read_next-clause-run
returns-in-Err-read_next-clause-run g c =
    let many = length c.args.plain.now / 96 in
    record {
      value = λ tells.
          stopped_more_at c.args.sealer.now.keys c.args.base (run_at c.args.base (g.S.Store.disk c.args.store.now).cells) many c.loop-i.i (record { generation = c.in-Ok.opened.generation; number = c.in-Ok.opened.number })
          c.loop-i.plain c.loop-i.plain c.in-Err-read_next.fault _ (omega arith) (omega arith) c.seal_at.ensures (c.loop-i.invariant.run tells) (c.in-Err-read_next.ensures.value tells);
      faults = fault_more c.args.base many c.loop-i.i c.in-Err-read_next.fault (omega arith) c.in-Err-read_next.ensures.faults;
      does = does_more c.args.base many c.loop-i.i _ _ _ _ _ _ c.in-Err-read_next.fault (omega arith) c.in-Err-read_next.ensures.faults c.loop-i.invariant.tells c.in-Err-read_next.ensures.told;
    }

pub returns-clause-run : goal.returns-clause-run
returns-clause-run g c =
    let many = length c.args.plain.now / 96 in
    let whole : c.loop-i.i ≡ many = omega arith in
    read_all c.args.sealer.now.keys c.args.base many c.loop-i.i (g.S.Store.disk c.args.store.now) c.loop-i.plain _ _ _ _ (record { generation = c.in-Ok.opened.generation; number = c.in-Ok.opened.number }) whole c.loop-i.invariant.run c.loop-i.invariant.tells

pub loop-i-preserved : goal.loop-i-preserved
loop-i-preserved g c = record {
  run = λ tells. run_more_at c.args.sealer.now.keys c.args.base (run_at c.args.base (g.S.Store.disk c.args.store.now).cells) c.loop-i.i (record { generation = c.in-Ok.opened.generation; number = c.in-Ok.opened.number })
      c.loop-i.plain _ c.in-Ok-read_next.opened _ c.put-in-loop-i.ensures (omega arith) c.seal_at.ensures (c.loop-i.invariant.run tells) (c.in-Ok-read_next.ensures.value tells);
  later = (let a = c.loop-i.invariant.later in let b = c.in-Ok-read_next.ensures.later in omega arith);
  tells = read_more c.args.base c.loop-i.i _ _ _ _ _ _ c.loop-i.invariant.tells c.in-Ok-read_next.ensures.told;
}
