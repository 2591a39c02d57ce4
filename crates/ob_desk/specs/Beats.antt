-- What is known of a beat, whatever it keeps.
use Rattle.std.specs.Prelude.{ℕ, Bool}

-- The looks that pass its test, by what they show: waiting, live, queued, left. And whether it acts at each of them.
pub record BeatKind : Type 0 where
  pub passes : ℕ → ℕ → ℕ → ℕ → Bool
  pub exact : Bool

abbrev pub beat_kind : (ℕ → ℕ → ℕ → ℕ → Bool) → Bool → BeatKind
beat_kind passes exact = record { passes = passes; exact = exact }
