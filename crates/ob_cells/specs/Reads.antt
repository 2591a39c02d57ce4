-- What reads of sealed cells answer.
use Rattle.std.specs.Prelude.{◌≡◌, ◌<◌, ℕ, zero, suc, ◌+◌, ◌^◌, List, length, Option, Some, None, Result, Ok, Err, IfErr}
use Rattle.ob_base.specs.declared.fault.Damaged.{Damaged}
use Rattle.ob_base.specs.declared.fault.Fault.{Fault}
use Rattle.ob_base.specs.declared.fault.Fault.TheVariants.{Damaged as Broken, StoreFault}
use Rattle.ob_store.specs.declared.event.Event.{Event}
use Rattle.ob_store.specs.Disk.{Disk}
use Rattle.ob_store.specs.Lines.{Trace}
use Rattle.ob_store.specs.Told.{Does}
use Rattle.ob_seal.specs.declared.keys.Keys.{Keys}
use Rattle.ob_seal.specs.declared.sealer.Opened.{Opened}
use Rattle.ob_seal.specs.Damage.{IsExpected, IsDamage}
use Rattle.ob_seal.specs.Pieces.{onward, piece}
use Rattle.ob_seal.specs.Seals.{sealed}
use Rattle.ob_cells.specs.declared.run.Identity.{Identity}
use Rattle.ob_cells.specs.Orders.{IsRunFault, run_reads, reads_of}
use Rattle.ob_cells.specs.Runs.{IsRun, run_at}

-- A cell that has this seal and these plain bytes.
pub record IsOpenedCell (keys : Keys) (cell : ℕ) (bytes : List ℕ) (opened : Opened) : Type 0 where
  pub generation_fits : opened.generation < 2 ^ 64
  pub number_fits : opened.number < 2 ^ 64
  pub whole : length opened.plain ≡ 96
  pub spelled : bytes ≡ sealed keys cell opened.generation opened.number opened.plain

-- the faults of a read of cells
abbrev pub IsCellFault : Fault → Type 0
IsCellFault (Broken cell check kept computed) = Unit {0}
IsCellFault (StoreFault unsure) = unsure ≡ None
IsCellFault _ = ⊥

-- what a read of one cell answers: what it holds, under the seal that is expected; or first of its tag, then of its seal, what
-- is wrong
abbrev pub IsNextRead : Keys → ℕ → Option (ℕ × ℕ) → List ℕ → Result Opened Fault → Type 0
IsNextRead keys cell expected bytes (Ok opened) = IsExpected expected opened.generation opened.number × IsOpenedCell keys cell bytes opened
IsNextRead keys cell expected bytes (Err (Broken at check kept computed)) = IsDamage keys cell expected bytes (record { cell = at; check = check; kept = kept; computed = computed })
IsNextRead keys cell expected bytes (Err _) = Unit {0}

-- The first cell of a run may have any seal; each next one has the first one's generation, and the next number.
abbrev pub expected_at : ℕ → ℕ → ℕ → Option (ℕ × ℕ)
expected_at generation first zero = None
expected_at generation first (suc i) = Some (generation, onward first (suc i))

-- The first of so many cells that breaks a rule, where the cells before it begin with this seal.
pub record IsFirstDamage (keys : Keys) (base many : ℕ) (cells : ℕ → List ℕ) (damaged : Damaged) : Type 0 where
  pub at : ℕ
  pub within : at < many
  pub first : Identity
  pub plain : ℕ → List ℕ
  pub whole : (i : ℕ) → i < at → length (plain i) ≡ 96
  pub earlier : IsRun keys base at first plain cells
  pub breaks : IsDamage keys (base + at) (expected_at first.generation first.number at) (cells at) damaged

-- what a run of cells opens to: the first cell's identity and all plain bytes, or the first that breaks a rule
abbrev pub IsRunOpened : Keys → ℕ → ℕ → (ℕ → List ℕ) → List ℕ → Result Identity Damaged → Type 0
IsRunOpened keys base many cells plain (Ok first) = IsRun keys base many first (λ i. piece i plain) cells
IsRunOpened keys base many cells plain (Err damaged) = IsFirstDamage keys base many cells damaged

-- what a read of a run answers
abbrev pub IsRunRead : Keys → ℕ → ℕ → (ℕ → List ℕ) → List ℕ → Result Identity Fault → Type 0
IsRunRead keys base many cells plain (Ok first) = IsRun keys base many first (λ i. piece i plain) cells
IsRunRead keys base many cells plain (Err (Broken cell check kept computed)) =
    IsFirstDamage keys base many cells (record { cell = cell; check = check; kept = kept; computed = computed })
IsRunRead keys base many cells plain (Err _) = Unit {0}

-- So many cells of a store from a cell on were read, up to the first that breaks a rule: the plain bytes are those of all, or that
-- cell is told. The events and the trace are those before and after it.
pub record ReadsRun (keys : Keys) (base many : ℕ) (disk : Disk) (plain : List ℕ) (seen seen' : Option (List Event)) (before after : Trace) (result : Result Identity Fault) : Type 0 where
  pub value : disk.tells → IsRunRead keys base many (run_at base disk.cells) plain result
  pub faults : IfErr result (IsRunFault base many)
  pub does : Does (run_reads base many result) seen seen' before after (reads_of result)

-- ---- the law

-- What was written is read again, and is no damage.
abbrev pub ReadsBack : Type 0
ReadsBack =
    (keys : Keys) (base many generation number : ℕ) (written cells : ℕ → List ℕ) (read : List ℕ) (result : Result Identity Damaged) → generation < 2 ^ 64 → number < 2 ^ 64
    → 0 < many → ((i : ℕ) → i < many → length (written i) ≡ 96)
    → ((i : ℕ) → i < many → cells i ≡ sealed keys (base + i) generation (onward number i) (written i))
    → IsRunOpened keys base many cells read result
    → (result ≡ Ok (record { generation = generation; number = number })) × ((i : ℕ) → i < many → piece i read ≡ written i)
