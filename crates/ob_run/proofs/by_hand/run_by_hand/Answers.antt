use Rattle.std.proofs.Common.{sym}
use Rattle.ob_run.proofs.Listing.{same_items, as_long}
use Rattle.ob_run.proofs.by_hand.run_by_hand.Goals as goal

pub returns-clause-done : goal.returns-clause-done
returns-clause-done g c =
    let (acts, d, rounds) = c.serve-result.ensures.done in
    (c.serve-result.new.desk, rw (← c.deref_mut.ensures.value, same_items _ c.deref_mut.result.now c.serve-result.new.runners (sym c.deref_mut.ensures.len) (as_long _ c.serve-result.new.runners c.deref_mut.result.now d.clients)) c.serve-result.ensures.done)

pub serve-result-requires-clause-fresh : goal.serve-result-requires-clause-fresh
serve-result-requires-clause-fresh g c κs within = rw c.deref_mut.ensures.value c.requires.fresh

pub serve-result-requires-clause-opens : goal.serve-result-requires-clause-opens
serve-result-requires-clause-opens g c κs within = rw c.deref_mut.ensures.value c.requires.opens

pub serve-result-requires-clause-below : goal.serve-result-requires-clause-below
serve-result-requires-clause-below g c κs within = rw c.deref_mut.ensures.value c.requires.below

pub serve-result-requires-clause-none_made : goal.serve-result-requires-clause-none_made
serve-result-requires-clause-none_made g c κs within = rw c.deref_mut.ensures.value c.requires.none_made
