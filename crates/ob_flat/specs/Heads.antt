-- The head of a plain vault's store: that of version 102.
use Rattle.std.specs.Prelude.{ℕ, List, Result}
use Rattle.ob_base.specs.declared.params.Params.{Params}
use Rattle.ob_base.specs.declared.fault.Fault.{Fault}
use Rattle.ob_seal.specs.declared.keys.Keys.{Keys}
use Rattle.ob_start.specs.Heads as start

abbrev pub flat_version : ℕ
flat_version = 102

abbrev pub head_cell : Keys → Params → List ℕ
head_cell keys p = start.head_cell keys flat_version p

-- the head of these parameters
abbrev pub IsHead : Keys → Params → List ℕ → Type 0
IsHead keys p bytes = start.IsHead keys flat_version p bytes

-- what is read of a head, where the store doesn't fail
abbrev pub IsHeadRead : Keys → List ℕ → Result Params Fault → Type 0
IsHeadRead keys bytes result = start.IsHeadRead keys flat_version bytes result
