use Rattle.std.specs.Prelude.{◌≡◌, map, take}
use Rattle.ob_ring.specs.Picked.{job_of, with_jobs, index_of}
use Rattle.ob_ring.proofs.reads.read_all.Given as goal

abbrev pub invariant-loop-j : goal.invariant-loop-j
invariant-loop-j l = l.jobs ≡ with_jobs l.fn.jobs (map (λ j. job_of l.p l.metas.versions (index_of l.metas.versions l.bucket j)) (take l.j-index l.indexes))
