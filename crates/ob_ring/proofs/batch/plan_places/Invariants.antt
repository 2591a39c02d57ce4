use Rattle.std.specs.Prelude.{◌+◌, ◌*◌}
use Rattle.ob_ring.specs.Fetching.{GrowsBy, Fetches, places_of}
use Rattle.ob_ring.proofs.batch.plan_places.Given as goal

abbrev pub invariant-loop-i : goal.invariant-loop-i
invariant-loop-i l = GrowsBy (l.i * ((l.p.levels + 1) * (l.p.real + 1))) l.i l.fn.jobs l.jobs × Fetches l.p l.fn.book l.book l.fn.metas l.metas l.fn.jobs l.jobs (places_of l.p l.asks l.words l.first l.i)
