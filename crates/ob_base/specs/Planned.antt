-- The jobs of a plan.
use Rattle.std.specs.Prelude.{ℕ, ◌+◌, ◌*◌, max, List, Some, None, slice_set, slice_index_or}
use Rattle.ob_base.specs.declared.params.Params.{Params}
use Rattle.ob_base.specs.declared.job.Job.{Job}
use Rattle.ob_base.specs.declared.job.Place.{Place}

-- the jobs, the places of the batch they are for, and how many there may be of each
pub record Planned : Type 0 where
  pub jobs : List Job
  pub places : List Place
  pub room : ℕ
  pub place_room : ℕ

-- The most jobs that a plan can have. At each level a place of a batch shows a slot, and may lift its bucket, which reads as many
-- as there are real slots; the final lifts read so many at each level of each path.
abbrev pub most_jobs : Params → ℕ
most_jobs p = (p.levels + 1) * max (p.places * (p.real + 1)) (p.evictions * p.real)

-- a job by its number
abbrev pub job_at : List Job → ℕ → Job
job_at jobs i = slice_index_or jobs i (record { cell = 0; generation = 0; number = 0; key = None; result = None })

-- the jobs with this one's plain bytes
abbrev pub with_result : List Job → ℕ → List ℕ → List Job
with_result jobs i plain = slice_set jobs i (record (job_at jobs i) { result = Some plain })
