-- What is told of bytes that come in and go out.
use Rattle.std.specs.Prelude.{ℕ, ◌≡◌, ◌+◌, List, [], ◌++◌, take, Option, Some, None, Result, Ok, Err}
use Rattle.ob_io.specs.declared.ReadErr.{ReadErr}
use Rattle.ob_io.specs.declared.ReadErr.TheVariants.{Memory, Failed}
use Rattle.ob_base.specs.Causes.{Rose}

-- What is written after these bytes more, where it is told.
abbrev pub appended : Option (List ℕ) → List ℕ → Option (List ℕ)
appended None bytes = None
appended (Some written) bytes = Some (written ++ bytes)

-- What was left before these bytes were taken, where it is told.
abbrev pub prepended : List ℕ → Option (List ℕ) → Option (List ℕ)
prepended bytes None = None
prepended bytes (Some left) = Some (bytes ++ left)

-- some bytes were taken from the front of what was left
abbrev pub IsFrontTaken : Option (List ℕ) → Option (List ℕ) → Type 0
IsFrontTaken before after = (bytes : List ℕ) × (before ≡ prepended bytes after)

-- Where it is told what is left, that is nothing.
abbrev pub IsAtEnd : Option (List ℕ) → Type 0
IsAtEnd None = Unit {0}
IsAtEnd (Some left) = left ≡ []

-- how many bytes a call took
abbrev pub count_of : {E : Type 0} → Result ℕ E → ℕ
count_of (Ok n) = n
count_of (Err e) = 0

-- These are the bytes of a source, up to the first one past the limit, where it tells.
abbrev pub IsInput : Option (List ℕ) → ℕ → List ℕ → Type 0
IsInput None limit bytes = Unit {0}
IsInput (Some left) limit bytes = bytes ≡ take (limit + 1) left

-- a read fails for the source only where its count rose
abbrev pub HasReadCause : {T : Type 0} → ℕ → ℕ → Result T ReadErr → Type 0
HasReadCause before now (Ok x) = Unit {0}
HasReadCause before now (Err Memory) = Unit {0}
HasReadCause before now (Err Failed) = Rose before now
