-- What the jobs read is what the table's steps show.
use Rattle.std.specs.Prelude.{◌≡◌, ℕ, List, Option, map}
use Rattle.ob_base.specs.declared.params.Params.{Params}
use Rattle.ob_schedule.specs.Paths.{eviction_path}
use Rattle.ob_ring.specs.FlatTable.{FlatTable, Shown, Batch, FinalLifts, picks}
use Rattle.ob_ring.specs.Picked.{Picked, batch_picked, final_picked}

abbrev pub place_shown_at : Shown → ℕ × ℕ
place_shown_at s = (s.bucket, s.index)

abbrev pub place_picked_at : Picked → ℕ × ℕ
place_picked_at q = (q.bucket, q.index)

-- the jobs of a batch and of the final lifts read the indexes that the table picks, in that order
pub record JobsReadPicks : Type 0 where
  pub batch : (p : Params) (t : FlatTable) (places : List (Option ℕ × ℕ)) → map place_picked_at (batch_picked p t places) ≡ map place_shown_at (picks p t (Batch places))
  pub lifts : (p : Params) (t : FlatTable) → map place_picked_at (final_picked p t (eviction_path p t.counter)) ≡ map place_shown_at (picks p t FinalLifts)
