-- The head of a store, of a version.
use Rattle.std.specs.Prelude.{◌≡◌, ◌≢◌, ◌⊎◌, ℕ, ◌+◌, ◌*◌, List, [], ◌∷◌, ◌++◌, take, replicate, Option, Some, None, Result, Ok, Err, codes}
use Rattle.std.specs.List.{flat_map}
use Rattle.std.specs.Int.{w32, to_le_bytes}
use Rattle.ob_base.specs.declared.params.Params.{Params}
use Rattle.ob_base.specs.declared.fault.Field.{Field}
use Rattle.ob_base.specs.declared.fault.Field.TheVariants.{L, Z, S, R, BR, BW, E, T}
use Rattle.ob_base.specs.declared.fault.Damaged.{Damaged}
use Rattle.ob_base.specs.declared.fault.Check.TheVariants.{Form}
use Rattle.ob_base.specs.declared.fault.Fault.{Fault}
use Rattle.ob_base.specs.declared.fault.Fault.TheVariants as fault
use Rattle.ob_base.specs.Fields.{first_out_of_range}
use Rattle.ob_base.specs.LittleEndian.{field_at}
use Rattle.ob_seal.specs.declared.keys.Keys.{Keys}
use Rattle.ob_cells.specs.Numbers.{told_number}
use Rattle.ob_twin.specs.Bodies.{IsStamped, IsMisstamped}
use Rattle.ob_twin.specs.Keyed.{tagging}

-- a head begins with `OBLADIST` and the version's number
unfoldable pub head_mark : ℕ → List ℕ
head_mark version = codes "OBLADIST" ++ to_le_bytes w32 version

-- the parameters in their order
abbrev pub numbers_of : Params → List ℕ
numbers_of p = p.keys ∷ p.levels ∷ p.real ∷ p.dummies ∷ p.batches ∷ p.places ∷ p.writes ∷ p.evictions ∷ p.room ∷ []

-- behind the mark stand the parameters, of 4 bytes each, and zeros
unfoldable pub head_plain : ℕ → Params → List ℕ
head_plain version p = head_mark version ++ flat_map (λ n. to_le_bytes w32 n) (numbers_of p) ++ replicate 64 0

abbrev pub head_cell : Keys → ℕ → Params → List ℕ
head_cell keys version p = head_plain version p ++ tagging keys 0 (head_plain version p)

-- the number at one of the nine places behind the mark
abbrev pub head_number_at : List ℕ → ℕ → ℕ
head_number_at bytes place = field_at w32 bytes (12 + 4 * place)

abbrev pub numbers_in : List ℕ → List ℕ
numbers_in bytes =
    head_number_at bytes 0 ∷ head_number_at bytes 1 ∷ head_number_at bytes 2 ∷ head_number_at bytes 3 ∷ head_number_at bytes 4
    ∷ head_number_at bytes 5 ∷ head_number_at bytes 6 ∷ head_number_at bytes 7 ∷ head_number_at bytes 8 ∷ []

-- the head of these parameters
pub record IsHead (keys : Keys) (version : ℕ) (p : Params) (bytes : List ℕ) : Type 0 where
  pub marked : take 12 bytes ≡ head_mark version
  pub stamped : IsStamped (tagging keys) 0 bytes
  pub numbers : numbers_in bytes ≡ numbers_of p

-- the first number that is out of its range
abbrev pub first_bad : List ℕ → Option Field
first_bad bytes =
    first_out_of_range (head_number_at bytes 0) (head_number_at bytes 1) (head_number_at bytes 2) (head_number_at bytes 3) (head_number_at bytes 4)
    (head_number_at bytes 5) (head_number_at bytes 6) (head_number_at bytes 7) (head_number_at bytes 8)

abbrev pub field_place : Field → ℕ
field_place L = 1
field_place Z = 2
field_place S = 3
field_place R = 4
field_place BR = 5
field_place BW = 6
field_place E = 7
field_place T = 8
field_place _ = 0

-- what is told of a number out of its range: the number, and 1, which is the least in each range
pub record IsBadHeadNumber (bytes : List ℕ) (damaged : Damaged) : Type 0 where
  pub field : Field
  pub first : first_bad bytes ≡ Some field
  pub is : damaged ≡ record { cell = 0; check = Form; kept = told_number (head_number_at bytes (field_place field)); computed = told_number 1 }

-- what is read of a head, where the store doesn't fail
abbrev pub IsHeadRead : Keys → ℕ → List ℕ → Result Params Fault → Type 0
IsHeadRead keys version bytes (Ok p) = IsHead keys version p bytes
IsHeadRead keys version bytes (Err fault.NotStore) = take 12 bytes ≢ head_mark version
IsHeadRead keys version bytes (Err (fault.Damaged cell check kept computed)) =
    (take 12 bytes ≡ head_mark version)
    × (IsMisstamped (tagging keys) 0 bytes (record { cell = cell; check = check; kept = kept; computed = computed })
    ⊎ (IsStamped (tagging keys) 0 bytes × IsBadHeadNumber bytes (record { cell = cell; check = check; kept = kept; computed = computed })))
IsHeadRead keys version bytes (Err (fault.StoreFault unsure)) = Unit {0}
IsHeadRead keys version bytes (Err _) = ⊥

-- the faults of reading the head
abbrev pub IsHeadFault : Fault → Type 0
IsHeadFault fault.NotStore = Unit {0}
IsHeadFault (fault.Damaged cell check kept computed) = Unit {0}
IsHeadFault (fault.StoreFault unsure) = unsure ≡ None
IsHeadFault _ = ⊥
