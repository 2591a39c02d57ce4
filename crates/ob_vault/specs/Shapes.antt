-- What calls of a vault are with their keys, values and writes erased.
use Rattle.std.specs.Prelude.{List, [], ◌∷◌, Option, Some, None}
use Rattle.ob_serial.specs.Vaults.{VaultCall, Fetch, End, VaultAnswer, Values, Ended, RefusedBy, DoubtBy}

-- a batch that is fetched, or the end of an epoch
pub data Shape : Type 0 where
  Fetches : Shape
  Ends : Shape

abbrev pub shape_of : VaultCall → Shape
shape_of (Fetch keys) = Fetches
shape_of (End writes) = Ends

-- the calls that were answered, in order, and their shapes
abbrev pub answered : List (VaultCall × VaultAnswer) → List VaultCall
answered [] = []
answered ((Fetch keys, Values values) ∷ steps) = Fetch keys ∷ answered steps
answered ((End writes, Ended) ∷ steps) = End writes ∷ answered steps
answered (_ ∷ steps) = answered steps

abbrev pub shapes : List (VaultCall × VaultAnswer) → List Shape
shapes [] = []
shapes ((Fetch keys, Values values) ∷ steps) = Fetches ∷ shapes steps
shapes ((End writes, Ended) ∷ steps) = Ends ∷ shapes steps
shapes (_ ∷ steps) = shapes steps

-- the last call, where it was refused or left in doubt
abbrev pub refused : List (VaultCall × VaultAnswer) → Option VaultCall
refused [] = None
refused ((Fetch keys, RefusedBy fault) ∷ []) = Some (Fetch keys)
refused ((End writes, RefusedBy fault) ∷ []) = Some (End writes)
refused ((End writes, DoubtBy fault) ∷ []) = Some (End writes)
refused (_ ∷ steps) = refused steps
