-- Rows as slots spell them, and the stash after they were read.
use Rattle.std.specs.Prelude.{ℕ, ◌==◌, nat_le, List, [], ◌∷◌, ◌++◌, take, drop, replicate, Option, if◌then◌else◌, slice_index}
use Rattle.std.specs.declared.option.Option.TheVariants.{None, Some}
use Rattle.std.specs.Int.{w32, to_le_bytes}
use Rattle.std.specs.Ordering.{nat_cmp}
use Rattle.std.specs.FinMap as finite
use Rattle.ob_base.specs.declared.fault.Damaged.{Damaged}
use Rattle.ob_base.specs.declared.fault.Check.TheVariants.{Form}
use Rattle.ob_base.specs.declared.job.Job.{Job}
use Rattle.ob_base.specs.LittleEndian.{field_at}

-- a slot that holds a row has the key's number, the value's length and the value
abbrev pub key_field : List ℕ → ℕ
key_field plain = field_at w32 plain 0

abbrev pub len_field : List ℕ → ℕ
len_field plain = slice_index plain 4

abbrev pub row_value : List ℕ → List ℕ
row_value plain = take (len_field plain) (drop 5 plain)

-- the slot holds another key's number: told are that and the expected one
abbrev pub other_key : ℕ → ℕ → List ℕ → Damaged
other_key cell key plain = record { cell = cell; check = Form; kept = take 4 plain ++ replicate 12 0; computed = to_le_bytes w32 key ++ replicate 12 0 }

-- the length is above 64: told are that and 0, the least length
abbrev pub long_row : ℕ → List ℕ → Damaged
long_row cell plain = record { cell = cell; check = Form; kept = len_field plain ∷ replicate 15 0; computed = replicate 16 0 }

-- the first of a row's fields that breaks its rule
abbrev pub row_fault : ℕ → ℕ → List ℕ → Option Damaged
row_fault cell key plain = if key_field plain == key then (if nat_le (len_field plain) 64 then None else Some (long_row cell plain)) else Some (other_key cell key plain)

abbrev pub fault_at : ℕ → Option ℕ → Option (List ℕ) → Option Damaged
fault_at cell None plain = None
fault_at cell (Some key) None = None
fault_at cell (Some key) (Some plain) = row_fault cell key plain

-- a job that expects a key, and was read
abbrev pub job_damage : Job → Option Damaged
job_damage job = fault_at job.cell job.key job.result

abbrev pub or_else : Option Damaged → Option Damaged → Option Damaged
or_else None other = other
or_else (Some d) other = Some d

-- the first fault of the jobs
abbrev pub first_fault : List Job → Option Damaged
first_fault [] = None
first_fault (j ∷ js) = or_else (job_damage j) (first_fault js)

abbrev pub Rows : Type 0
Rows = finite.FinMap nat_cmp (List ℕ)

abbrev pub with_row : Rows → Option ℕ → Option (List ℕ) → Rows
with_row rows None plain = rows
with_row rows (Some key) None = rows
with_row rows (Some key) (Some plain) = finite.insert rows key (row_value plain)

-- the rows of the stash with those that the jobs read
abbrev pub rows_after : Rows → List Job → Rows
rows_after rows [] = rows
rows_after rows (j ∷ js) = rows_after (with_row rows j.key j.result) js
