-- What a vault holds and what stands in the output behind records.
use Rattle.std.specs.Prelude.{ℕ, ◌≡◌, ◌≤◌, not, List, [], ◌∷◌, ◌++◌, Option, decimal}
use Rattle.std.specs.List.{count_by}
use Rattle.std.specs.Ordering.{nat_cmp}
use Rattle.ob_base.specs.Causes.{Rose}
use Rattle.ob_io.specs.Flows.{appended}
use Rattle.ob_io.specs.Streams.{Flow}
use Rattle.ob_report.specs.Printed.{IsPrinted}
use Rattle.ob_report.specs.Report.{report, record_text}
use Rattle.ob_serial.specs.Serial.{EpochRecord, TxnRecord, Map, after_ops, committed_of}
use Rattle.ob_serial.specs.Vaults.{VaultCall, Fetch, End, VaultAnswer, Values, Ended, VaultState, with_writes}
use Rattle.ob_serial.specs.VaultKinds.{Kind}
use Rattle.ob_desk.specs.Desk.{DeskState}
use Rattle.ob_session.specs.Records.{IsAtRest}

-- the map with the writes of these transactions, in order
abbrev pub after_txns : Map nat_cmp → List (TxnRecord ℕ) → Map nat_cmp
after_txns m [] = m
after_txns m (t ∷ txns) = after_txns (after_ops nat_cmp m t.ops) txns

-- the map behind the committed transactions of records
abbrev pub contents : Map nat_cmp → List (EpochRecord ℕ) → Map nat_cmp
contents m told = after_txns m (committed_of told)

-- it holds this map
abbrev pub HoldsMap : {V : Type 0} → Kind V → V → Map nat_cmp → Type 0
HoldsMap k vault m = (v : VaultState) × k.holds vault v × (v.content ≡ m)

-- These writes make of any map what the record's committed transactions make of it.
abbrev pub Makes : List (ℕ × Option (List ℕ)) → EpochRecord ℕ → Type 0
Makes writes told = (m : Map nat_cmp) → with_writes m writes ≡ contents m (told ∷ [])

-- The epochs that ended had their records' writes, one by one.
abbrev pub AreWritten : List (List (ℕ × Option (List ℕ))) → List (EpochRecord ℕ) → Type 0
AreWritten [] [] = Unit {0}
AreWritten (writes ∷ more) (told ∷ behind) = Makes writes told × AreWritten more behind
AreWritten _ _ = ⊥

-- none of these calls was refused
abbrev pub AreAnswered : List (VaultCall × VaultAnswer) → Type 0
AreAnswered [] = Unit {0}
AreAnswered ((Fetch keys, Values values) ∷ steps) = AreAnswered steps
AreAnswered ((End writes, Ended) ∷ steps) = AreAnswered steps
AreAnswered (_ ∷ steps) = ⊥

-- each client has signed off, no transaction waits for its epoch's end, and none was given up
pub record IsOver (d : DeskState) : Type 0 where
  pub at_rest : IsAtRest d
  pub signed_off : count_by (λ c. not c.signed_off) d.clients ≡ 0

-- the whole text was written
pub record IsWritten (text : List ℕ) (before after : Flow) : Type 0 where
  pub bytes : after.bytes ≡ appended before.bytes text
  pub later : before.faults ≤ after.faults

-- The lines of all records but the last one are written, and a front of its lines, at which the output failed.
pub record IsCutShort (told : List (EpochRecord ℕ)) (before after : Flow) : Type 0 where
  pub whole : List (EpochRecord ℕ)
  pub last : EpochRecord ℕ
  pub told_are : told ≡ whole ++ last ∷ []
  pub mid : Flow
  pub written : IsWritten (report decimal whole) before mid
  pub printed : IsPrinted mid after (record_text decimal last)
  pub rose : Rose mid.faults after.faults
