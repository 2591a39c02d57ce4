-- The laws.
use Rattle.ob_schedule.specs.Paths.{eviction_path}
use Rattle.ob_stand.specs.Takes.{PickedAreTaken}
use Rattle.ob_stand.proofs.Taking.{batch_takes, batch_present, final_takes, final_present}
pub use Rattle.ob_stand.proofs.Going.{goes_further, steps_only_take, versions_go}
pub use Rattle.ob_stand.proofs.Moving.{refills_move}

pub picked_are_taken : PickedAreTaken
picked_are_taken = record {
  batch = batch_takes;
  lifts = λ p t o low. final_takes p t (eviction_path p t.counter) o low;
  batch_keys = batch_present;
  lifts_keys = λ p t. final_present p t (eviction_path p t.counter);
}
