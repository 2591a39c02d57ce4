-- Jobs that were run.
use Rattle.std.specs.Prelude.{◌+◌, ◌%◌, ◌^◌, List, [], ◌∷◌, map, slice_index}
use Rattle.ob_base.specs.declared.params.Params.{Params}
use Rattle.ob_base.specs.declared.job.Job.{Job}
use Rattle.ob_base.specs.Layout.{slot_cell}
use Rattle.ob_tables.specs.Version.{Version}
use Rattle.ob_ring.specs.Picked.{Picked, job_of}
use Rattle.ob_stand.specs.Carries.{AreRead}
use Rattle.ob_stand.specs.Runs.{Plains, AreRun, slots_of, JobsAreRead}

run_read : (p : Params) (versions : List Version) (plain : Plains) (qs : List Picked) (js : List Job) → AreRun plain (map (job_of p versions) qs) js → AreRead (slots_of p versions plain) qs js
run_read p versions plain [] [] r = tt
run_read p versions plain [] (j ∷ js) r = absurd r
run_read p versions plain (q ∷ qs) [] r = absurd r
run_read p versions plain (q ∷ qs) (j ∷ js) r = (r.0, r.1, run_read p versions plain qs js r.2)

pub jobs_are_read : JobsAreRead
jobs_are_read = record {
  read = run_read;
  same = λ p old new plain u j s i. plain
      (slot_cell p (s.homes u i) u (slice_index (s.ranks u i) j))
      (s.generations u i)
      ((s.bases u i + slice_index (s.ranks u i) j) % 2 ^ 64);
}
