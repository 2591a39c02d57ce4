-- What a get of an image answers.
use Rattle.std.specs.Prelude.{◌≡◌, ◌≢◌, ◌⊎◌, ◌<◌, ◌≤◌, ℕ, List, max, Option, Some, None, Result, Ok, Err}
use Rattle.ob_base.specs.declared.fault.Damaged.{Damaged}
use Rattle.ob_base.specs.declared.fault.Fault.{Fault}
use Rattle.ob_base.specs.declared.fault.Fault.TheVariants as fault
use Rattle.ob_store.specs.Disk.{Image}
use Rattle.ob_twin.specs.Bodies.{Tagging, IsStamped, IsMisstamped, IsTooGreat, IsWholeBody, open_gate, number_of}
use Rattle.ob_twin.specs.Register.{body_at, IsOpen, number_at}

-- what is told of a body that breaks a rule: first of its tag, then of its number
abbrev pub IsTwinDamage : Tagging → ℕ → List ℕ → Damaged → Type 0
IsTwinDamage tag cell body damaged = IsMisstamped tag cell body damaged ⊎ (IsStamped tag cell body × IsTooGreat cell body damaged)

-- the number of a place, where its gate is open
abbrev pub IsPlace : Tagging → ℕ → List ℕ → List ℕ → Result (Option ℕ) Damaged → Type 0
IsPlace tag cell gate body (Ok None) = gate ≢ open_gate
IsPlace tag cell gate body (Ok (Some n)) = (gate ≡ open_gate) × IsWholeBody tag cell body × (n ≡ number_of body)
IsPlace tag cell gate body (Err damaged) = (gate ≡ open_gate) × IsTwinDamage tag cell body damaged

abbrev pub NoneOpen : ℕ → Image → Type 0
NoneOpen first image = (place : ℕ) → place < 2 → IsOpen first image place → ⊥

-- each body under an open gate obeys its rules
abbrev pub AllWhole : Tagging → ℕ → Image → Type 0
AllWhole tag first image = (place : ℕ) → place < 2 → IsOpen first image place → IsWholeBody tag (body_at first place) (image (body_at first place))

-- the number that counts: the greatest under an open gate
pub record Counts (first : ℕ) (image : Image) (n : ℕ) : Type 0 where
  pub some : (place : ℕ) × (place < 2) × IsOpen first image place × (number_at first image place ≡ n)
  pub greatest : (place : ℕ) → place < 2 → IsOpen first image place → number_at first image place ≤ n

-- the first body under an open gate, in the order of cells, that breaks a rule
abbrev pub IsFirstTwinDamage : Tagging → ℕ → Image → Damaged → Type 0
IsFirstTwinDamage tag first image damaged =
    (place : ℕ) × (place < 2) × IsOpen first image place × IsTwinDamage tag (body_at first place) (image (body_at first place)) damaged
    × ((earlier : ℕ) → earlier < place → IsOpen first image earlier → IsWholeBody tag (body_at first earlier) (image (body_at first earlier)))

-- what is read of an image, where the store doesn't fail
abbrev pub IsRead : Tagging → ℕ → Image → Result (Option ℕ) Damaged → Type 0
IsRead tag first image (Ok None) = NoneOpen first image
IsRead tag first image (Ok (Some n)) = AllWhole tag first image × Counts first image n
IsRead tag first image (Err damaged) = IsFirstTwinDamage tag first image damaged

-- what a get answers
abbrev pub IsGot : Tagging → ℕ → Image → Result (Option ℕ) Fault → Type 0
IsGot tag first image (Ok read) = IsRead tag first image (Ok read)
IsGot tag first image (Err (fault.Damaged cell check kept computed)) = IsRead tag first image (Err (record { cell = cell; check = check; kept = kept; computed = computed }))
IsGot tag first image (Err (fault.StoreFault unsure)) = Unit {0}
IsGot tag first image (Err _) = ⊥

-- the refusals of a get
abbrev pub IsGetFault : Fault → Type 0
IsGetFault (fault.Damaged cell check kept computed) = Unit {0}
IsGetFault (fault.StoreFault unsure) = unsure ≡ None
IsGetFault _ = ⊥

-- the greater of two numbers, where there are two
abbrev pub greater : Option ℕ → Option ℕ → Option ℕ
greater None b = b
greater (Some a) None = Some a
greater (Some a) (Some b) = Some (max a b)
