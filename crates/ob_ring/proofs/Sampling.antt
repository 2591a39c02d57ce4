-- Small refills, computed.
use Rattle.std.proofs.Common.{refl}
use Rattle.ob_ring.proofs.Rows.{p0}
use Rattle.ob_ring.specs.Samples.{Sampled}

pub sampled : Sampled
sampled = record {
  in_range = p0.in_range;
  path_is = refl;
  all_places = refl;
  all_refilled = refl;
  all_taken = refl;
  all_steps = refl;
  ends_places = refl;
  ends_refilled = refl;
  leaf_places = refl;
  leaf_refilled = refl;
  leaf_steps = refl;
  none_places = refl;
  none_refilled = refl;
  none_steps = refl;
}
