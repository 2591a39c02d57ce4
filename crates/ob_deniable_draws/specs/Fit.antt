-- Calls that a store takes.
use Rattle.std.specs.Prelude.{◌≡◌, ℕ, ◌<◌, List, [], ◌∷◌, length, Option, Some, None, slice_index_or, ⊤}
use Rattle.ob_base.specs.declared.params.Params.{Params}
use Rattle.ob_schedule.specs.Schedule.{Fills}
use Rattle.ob_serial.specs.Vaults.{End, Fetch, VaultCall}
use Rattle.ob_vault.specs.Hidden.{RingDraws, RingHidden}

-- as many places as a batch has; they ask for keys, for each at one place at most
pub record AreAsksFit (p : Params) (asks : List (Option ℕ)) : Type 0 where
  pub whole : length asks ≡ p.places
  pub low : (i k : ℕ) → slice_index_or asks i None ≡ Some k → k < p.keys
  pub apart : (i j k : ℕ) → slice_index_or asks i None ≡ Some k → slice_index_or asks j None ≡ Some k → i ≡ j

-- writes of keys
abbrev pub AreWritesLow : {A : Type 0} → Params → List (ℕ × A) → Type 0
AreWritesLow p [] = ⊤
AreWritesLow p (write ∷ writes) = (write.0 < p.keys) × AreWritesLow p writes

abbrev pub IsCallFit : Params → VaultCall → Type 0
IsCallFit p (Fetch asks) = AreAsksFit p asks
IsCallFit p (End writes) = AreWritesLow p writes

abbrev pub AreCallsFit : Params → List VaultCall → Type 0
AreCallsFit p [] = ⊤
AreCallsFit p (call ∷ calls) = IsCallFit p call × AreCallsFit p calls

-- ---- the law

-- A batch that asks otherwise draws nothing.
abbrev pub OnlyFitAsksDraw : Type 0
OnlyFitAsksDraw = (p : Params) (h behind : RingHidden) (asks : List (Option ℕ)) (f : Fills) → RingDraws p h (Fetch asks) f behind → AreAsksFit p asks
