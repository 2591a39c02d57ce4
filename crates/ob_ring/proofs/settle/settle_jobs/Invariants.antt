use Rattle.std.specs.Prelude.{◌≡◌, ◌≢◌, ℕ, ◌<◌, take}
use Rattle.std.specs.declared.option.Option.TheVariants.{None}
use Rattle.std.specs.FinMap as finite
use Rattle.ob_base.specs.declared.params.Params.{Params}
use Rattle.ob_base.specs.declared.job.Job.{Job}
use Rattle.ob_tables.specs.Kept.{Held}
use Rattle.std.specs.Prelude.{List}
use Rattle.ob_ring.specs.Settling.{first_fault, rows_after}
use Rattle.ob_ring.proofs.settle.settle_jobs.Given as goal

pub record SoFar (p : Params) (jobs : List Job) (old new : Held) : Type 0 where
  pub low : (k : ℕ) → finite.get new.rows k ≢ None → k < p.keys
  pub room : new.room ≡ old.room
  pub none : first_fault jobs ≡ None
  pub rows : new.rows ≡ rows_after old.rows jobs

abbrev pub invariant-loop-i : goal.invariant-loop-i
invariant-loop-i l = SoFar l.p (take l.i l.jobs) l.fn.stash l.stash
