-- What a call did, as every vault's clause has it.
use Rattle.std.specs.Prelude.{ℕ, ◌+◌, List, map, Option, Result, Ok, Err, OnOk}
use Rattle.std.proofs.Common.{arith, inl, sym, subst}
use Rattle.ob_base.specs.declared.fault.Fault.{Fault}
use Rattle.ob_base.specs.declared.fault.Fault.TheVariants as fault
use Rattle.ob_base.specs.declared.params.Params.{Params}
use Rattle.ob_base.specs.declared.value.Write.{Write}
use Rattle.ob_base.specs.Layout.{log_cell, record_cells}
use Rattle.ob_cells.specs.Writes.{WritesWithin}
use Rattle.ob_end.specs.Closings.{SameGeneration}
use Rattle.ob_end.specs.EndWrites.{SameFirst}
use Rattle.ob_end.specs.Lifts.{IsUndamaged}
use Rattle.ob_fetch.specs.declared.run.Run.{Run}
use Rattle.ob_fetch.specs.Fetches.{FetchDoes, FetchStands, RunIsAt}
use Rattle.ob_log.specs.Logs.{BatchRecord}
use Rattle.ob_seal.specs.declared.keys.Keys.{Keys}
use Rattle.ob_serial.specs.declared.vault.EndErr.{EndErr}
use Rattle.ob_serial.specs.declared.vault.EndErr.TheVariants as end
use Rattle.ob_serial.specs.Vaults.{End, Fetch}
use Rattle.ob_serial.specs.VaultViews.{end_answer, fetch_answer, writes_of}
use Rattle.ob_stand.specs.Stands.{RingStanding, with_record}
use Rattle.ob_store.specs.Disk.{Disk}
use Rattle.ob_store.specs.Images.{Passes, SameOff}
use Rattle.ob_store.proofs.Moments.{passes_so}
use Rattle.ob_store.specs.Lines.{Trace}
use Rattle.ob_store.specs.declared.watch.Note.{Note}
use Rattle.ob_vault.specs.RingVaults.{EndCalled, FetchCalled, IfRead, IsOpenFirst, RingCalled, Running, write_from}
use Rattle.ob_vault.proofs.Written.{writes_back}

-- ---- a record that is open before its batch is read

module _ {S : Type 0} (disk : S → Disk) (most : ℕ) (keys : Keys) (p : Params) (epoch : ℕ) (r : BatchRecord) (cells : List ℕ) (notes : List Note) (old new : S) (before later : Trace) where
  pub open_first : (x : Result (Unit {0}) Fault) → FetchDoes disk most keys p epoch r cells notes old new before later x → IfRead (IsOpenFirst disk most keys p epoch r cells old new) x
  open_first (Ok done) log = record { between = log.between; appended = (log.appended).seen; logged = log.logged; behind = log.behind; read = (log.read).0 }
  open_first (Err fault.Memory) log = tt
  open_first (Err fault.Usage) log = tt
  open_first (Err (fault.BadScript line)) log = tt
  open_first (Err (fault.BadParams what)) log = tt
  open_first (Err fault.NotStore) log = tt
  open_first (Err (fault.Damaged cell what kept computed)) log = record { between = log.between; appended = (log.appended).seen; logged = log.logged; behind = log.behind; read = (log.read).0 }
  open_first (Err (fault.StoreFault unsure)) log = tt
  open_first (Err (fault.StashFull rows)) log = tt
  open_first (Err (fault.Worn number)) log = tt
  open_first (Err fault.SourceFault) log = tt
  open_first (Err fault.SinkFault) log = tt

-- ---- what is told of a fetch and of an end

pub first_of : {T E : Type 0} (A B : Type 0) (x : Result T E) → OnOk x (A × B) → OnOk x A
first_of A B (Ok done) both = both.0
first_of A B (Err e) both = tt

pub first_of_three : {T E : Type 0} (A B C : Type 0) (x : Result T E) → OnOk x (A × B × C) → OnOk x A
first_of_three A B C (Ok done) all = all.0
first_of_three A B C (Err e) all = tt

pub second_of_three : {T E : Type 0} (A B C : Type 0) (x : Result T E) → OnOk x (A × B × C) → OnOk x B
second_of_three A B C (Ok done) all = all.1
second_of_three A B C (Err e) all = tt

-- a record is written behind the registers
pub fetch_moments : (p : Params) (area batch : ℕ) (old new : Disk) → WritesWithin (log_cell p area batch 0) (record_cells p + 1) old new → Passes SameGeneration old new
fetch_moments p area batch old new within =
    passes_so (SameOff (log_cell p area batch 0) (record_cells p + 1)) SameGeneration old new (λ c d same k lt. same k (inl (omega (arith, lt)))) within.passes

pub fetch_registers : (p : Params) (area batch : ℕ) (old new : Disk) → WritesWithin (log_cell p area batch 0) (record_cells p + 1) old new → Passes SameFirst old new
fetch_registers p area batch old new within =
    passes_so (SameOff (log_cell p area batch 0) (record_cells p + 1)) SameFirst old new (λ c d same k lt. same k (inl (omega (arith, lt)))) within.passes

-- where the store stood, a fetch is not refused for damage
pub fetch_undamaged : (s : RingStanding) (r : BatchRecord) (asks : List (Option ℕ)) (disk : Disk) (run : Run) (out : List (Option (List ℕ))) (x : Result (Unit {0}) Fault) → FetchStands s r asks disk run out x → IsUndamaged x
fetch_undamaged s r asks disk run out (Ok done) is = tt
fetch_undamaged s r asks disk run out (Err fault.Memory) is = tt
fetch_undamaged s r asks disk run out (Err fault.Usage) is = tt
fetch_undamaged s r asks disk run out (Err (fault.BadScript line)) is = tt
fetch_undamaged s r asks disk run out (Err (fault.BadParams what)) is = tt
fetch_undamaged s r asks disk run out (Err fault.NotStore) is = tt
fetch_undamaged s r asks disk run out (Err (fault.Damaged cell what kept computed)) is = is
fetch_undamaged s r asks disk run out (Err (fault.StoreFault unsure)) is = tt
fetch_undamaged s r asks disk run out (Err (fault.StashFull rows)) is = tt
fetch_undamaged s r asks disk run out (Err (fault.Worn number)) is = tt
fetch_undamaged s r asks disk run out (Err fault.SourceFault) is = tt
fetch_undamaged s r asks disk run out (Err fault.SinkFault) is = tt

-- and stands with its record
pub fetch_stood : (s : RingStanding) (r : BatchRecord) (asks : List (Option ℕ)) (disk : Disk) (run : Run) (out : List (Option (List ℕ))) (x : Result (Unit {0}) Fault) → FetchStands s r asks disk run out x → OnOk x (RunIsAt run (with_record s r) disk)
fetch_stood s r asks disk run out (Ok done) is = is.0
fetch_stood s r asks disk run out (Err f) is = tt

-- ---- calls

module _ {S : Type 0} (disk : S → Disk) (old new : Running S) (notes : List Note) where
  pub fetch_called : (asks : List (Option ℕ)) (out : List (Option (List ℕ))) (x : Result (Unit {0}) Fault) → FetchCalled disk old new notes asks x → RingCalled disk old new notes (Fetch asks) (fetch_answer out x)
  fetch_called asks out (Ok done) is = is
  fetch_called asks out (Err f) is = is

  end_by : (writes : List (ℕ × Option (List ℕ))) (x : Result (Unit {0}) EndErr) → EndCalled disk old new notes (map write_from writes) x → RingCalled disk old new notes (End writes) (end_answer x)
  end_by writes (Ok done) is = is
  end_by writes (Err (end.Before f)) is = is
  end_by writes (Err (end.Unsure f)) is = is

  pub end_called : (ws : List Write) (x : Result (Unit {0}) EndErr) → EndCalled disk old new notes ws x → RingCalled disk old new notes (End (writes_of ws)) (end_answer x)
  end_called ws x is = end_by (writes_of ws) x (subst (λ (l : List Write). EndCalled disk old new notes l x) (sym (writes_back ws)) is)
