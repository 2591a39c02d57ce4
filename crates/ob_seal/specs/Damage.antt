-- What makes a cell damaged, and what is told of it.
use Rattle.std.specs.Prelude.{◌≡◌, ◌≢◌, ℕ, List, ◌⊎◌, Option, IfSome, IsSomeAnd, take, drop}
use Rattle.ob_base.specs.declared.fault.Damaged.{Damaged}
use Rattle.ob_base.specs.declared.fault.Check.TheVariants.{Tag, Seal}
use Rattle.ob_seal.specs.declared.keys.Keys.{Keys}
use Rattle.ob_seal.specs.Seals.{tag_of, identity_bytes}

-- the tag that a cell keeps: its last 16 bytes
abbrev pub kept_tag : List ℕ → List ℕ
kept_tag bytes = take 16 (drop 112 bytes)

-- the tag of the bytes before it
abbrev pub computed_tag : Keys → ℕ → List ℕ → List ℕ
computed_tag keys cell bytes = tag_of keys.tag cell (take 112 bytes)

-- the cell's tag is not that of its bytes, and both are told
pub record IsWrongTag (keys : Keys) (cell : ℕ) (bytes : List ℕ) (damaged : Damaged) : Type 0 where
  pub differs : kept_tag bytes ≢ computed_tag keys cell bytes
  pub told : damaged ≡ record { cell = cell; check = Tag; kept = kept_tag bytes; computed = computed_tag keys cell bytes }

-- the identity that a cell keeps is not the expected one, and both are told
pub record IsOtherIdentity (cell : ℕ) (kept expected : List ℕ) (damaged : Damaged) : Type 0 where
  pub differs : kept ≢ expected
  pub told : damaged ≡ record { cell = cell; check = Seal; kept = kept; computed = expected }

-- the tag is right, and the identity is another one
abbrev pub IsWrongSeal : Keys → ℕ → List ℕ → List ℕ → Damaged → Type 0
IsWrongSeal keys cell expected bytes damaged =
    (kept_tag bytes ≡ computed_tag keys cell bytes) × IsOtherIdentity cell (take 16 bytes) expected damaged

-- the seal's identity is the expected one, where one is expected
abbrev pub IsExpected : Option (ℕ × ℕ) → ℕ → ℕ → Type 0
IsExpected expected generation number = IfSome expected (λ e. e ≡ (generation, number))

-- a sealed cell is damaged: its tag is wrong, or else its identity
abbrev pub IsDamage : Keys → ℕ → Option (ℕ × ℕ) → List ℕ → Damaged → Type 0
IsDamage keys cell expected bytes damaged =
    IsWrongTag keys cell bytes damaged ⊎ IsSomeAnd expected (λ e. IsWrongSeal keys cell (identity_bytes e.0 e.1) bytes damaged)
