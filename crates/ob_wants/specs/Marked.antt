-- Private: the writes of the marked ones of some buckets, each in its other home.
use Rattle.std.specs.Prelude.{ℕ, Bool, false, List, filter, slice_index_or}
use Rattle.ob_base.specs.declared.params.Params.{Params}
use Rattle.ob_store.specs.declared.watch.Note.{Note}
use Rattle.ob_schedule.specs.Schedule.{bucket_writes}
use Rattle.ob_schedule.specs.Sides.{other, side_number}
use Rattle.ob_schedule.specs.Standing.{StandingKnown}

abbrev pub writes_marked : Params → StandingKnown → List Bool → List ℕ → List Note
writes_marked p s marks us = bucket_writes p (λ u. side_number (other (s.homes u))) (filter (λ u. slice_index_or marks u false) us)
