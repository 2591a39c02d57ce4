-- What a log area holds is told by its cells.
use Rattle.std.specs.Prelude.{◌≡◌, ℕ, List}
use Rattle.ob_base.specs.declared.params.Params.{Params}
use Rattle.ob_seal.specs.declared.keys.Keys.{Keys}
use Rattle.ob_store.specs.Disk.{Image}
use Rattle.ob_log.specs.Logs.{BatchRecord, RecordObeys, OpenRecords, SpellsRecord}

-- a body spells one record
abbrev pub RecordSame : Type 0
RecordSame =
    (keys : Keys) (p : Params) (epoch b : ℕ) (r q : BatchRecord) (image : Image) → RecordObeys p b r → RecordObeys p b q → SpellsRecord keys p epoch b r image → SpellsRecord keys p epoch b q image → r ≡ q

-- an area has one list of open records
abbrev pub RecordsSame : Type 0
RecordsSame = (keys : Keys) (p : Params) (epoch : ℕ) (rs qs : List BatchRecord) (image : Image) → OpenRecords keys p epoch rs image → OpenRecords keys p epoch qs image → rs ≡ qs
