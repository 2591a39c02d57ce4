use Rattle.std.proofs.Common.{length, arith, refl, rules}
use Rattle.ob_cells.proofs.RunReads.{opens_first, opens_more, breaks_first, breaks_more}
use Rattle.ob_cells.proofs.opening.open_sealed.Goals as goal

pub returns-in-Err : goal.returns-in-Err
returns-in-Err c = record {
  value = breaks_first c.args.sealer.now.keys c.args.base c.args.cells.now (length c.args.cells.now) _ c.in-Err.damaged c.requires.some refl c.in-Err.ensures.damaged;
}

pub loop-i-init : goal.loop-i-init
loop-i-init c = record {
  run = opens_first c.args.sealer.now.keys c.args.base c.args.cells.now c.args.plain.now _ c.in-Ok.opened _ refl c.put.ensures (let some = c.requires.some in let room = c.requires.room in omega arith)
      (search rules) (search rules) (search rules) c.in-Ok.ensures.spelled;
}

pub returns-in-Err-unseal : goal.returns-in-Err-unseal
returns-in-Err-unseal c = record {
  value = breaks_more c.args.sealer.now.keys c.args.base c.args.cells.now (length c.args.cells.now) c.loop-i.i (record { generation = c.in-Ok.opened.generation; number = c.in-Ok.opened.number })
      c.loop-i.plain _ c.in-Err-unseal.damaged _ (omega arith) c.loop-i-test.true refl c.seal_at.ensures c.loop-i.invariant.run c.in-Err-unseal.ensures.damaged;
}

pub loop-i-preserved : goal.loop-i-preserved
loop-i-preserved c = record {
  run = opens_more c.args.sealer.now.keys c.args.base c.args.cells.now c.loop-i.i (record { generation = c.in-Ok.opened.generation; number = c.in-Ok.opened.number })
      c.loop-i.plain _ _ c.in-Ok-unseal.opened _ refl c.put-in-loop-i.ensures (let lt = c.loop-i-test.true in let room = c.requires.room in omega arith) c.seal_at.ensures c.loop-i.invariant.run
      (search rules) (search rules) (search rules) c.in-Ok-unseal.ensures.spelled c.in-Ok-unseal.ensures.expected;
}
