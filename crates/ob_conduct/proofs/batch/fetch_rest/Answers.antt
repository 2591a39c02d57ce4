use Rattle.std.proofs.Common.{◌∙◌, [], ◌++◌, ◌∷◌}
use Rattle.ob_conduct.proofs.Batches.{reads_none, reads_more, stops_behind}
use Rattle.ob_conduct.proofs.batch.fetch_rest.Goals as goal

pub loop-desk-init : goal.loop-desk-init
loop-desk-init g c = record {
  params = c.requires.params;
  goes_on = c.requires.goes_on;
  whole = c.requires.whole;
  read = ([], reads_none _ _ _ _ c.requires.ready);
}

pub fetch_batch-requires-clause-ready : goal.fetch_batch-requires-clause-ready
fetch_batch-requires-clause-ready g c κs within = c.loop-desk.invariant.read.1.ready

pub loop-desk-preserved : goal.loop-desk-preserved
loop-desk-preserved g c =
    let i = c.loop-desk.invariant in
    let e = c.in-Ok.ensures in
    let (batch, one, whole) = e.read in
    record {
      params = e.params;
      goes_on = one.same_stop ∙ i.goes_on;
      whole = whole;
      read = (i.read.0 ++ batch ∷ [], reads_more _ _ _ _ _ i.read.0 batch _ _ i.read.1 one);
    }

pub loop-desk-smaller : goal.loop-desk-smaller
loop-desk-smaller g c = c.in-Ok.ensures.less

pub returns-in-Err-clause-refused : goal.returns-in-Err-clause-refused
returns-in-Err-clause-refused g c =
    let (batches, read) = c.loop-desk.invariant.read in
    stops_behind _ _ _ _ _ batches _ c.in-Err.err read c.in-Err.ensures.refused

pub returns-in-Err-clause-params : goal.returns-in-Err-clause-params
returns-in-Err-clause-params g c = c.in-Err.ensures.params

pub returns-clause-read : goal.returns-clause-read
returns-clause-read g c = let i = c.loop-desk.invariant in (i.read.0, i.read.1, i.whole)
