use Rattle.std.proofs.Common.{◌≡◌, ℕ, ◌<◌, get_or, Some, None}
use Rattle.std.specs.Prelude.{slice_get}
use Rattle.ob_flat.proofs.values.look_up.Given as goal

abbrev pub invariant-loop-i : goal.invariant-loop-i
invariant-loop-i l = record {
  asked : (j key : ℕ) → j < l.i → slice_get l.asks j ≡ Some (Some key) → slice_get l.out j ≡ Some (get_or l.values key None);
  pads : (j : ℕ) → j < l.i → slice_get l.asks j ≡ Some None → slice_get l.out j ≡ Some None;
}
