-- What a self-test does to the store that it is given: an empty store is made, opened, served the script as `run` serves one, and read.
use Rattle.std.specs.Prelude.{ℕ, true, ◌≡◌, ◌≤◌, ◌*◌, All, List, ◌++◌, length, map, None}
use Rattle.std.specs.FinMap.{empty}
use Rattle.ob_base.specs.declared.params.Params.{Params}
use Rattle.ob_seal.specs.declared.keys.Keys.{Keys}
use Rattle.ob_start.specs.Heads.{numbers_of}
use Rattle.ob_store.specs.Disk.{Disk}
use Rattle.ob_schedule.specs.Schedule.{Fills}
use Rattle.ob_serial.specs.Serial.{EpochRecord, committed_of}
use Rattle.ob_serial.specs.Vaults.{VaultAnswer, VaultCall}
use Rattle.ob_recover.specs.Telling.{ArePhasesMade}
use Rattle.ob_twin.specs.declared.gates.Gates.{Gates}
use Rattle.ob_vault.specs.Hidden.{RingHidden}
use Rattle.ob_vault.specs.KindShown.{AreDrawn, steps_phases}
use Rattle.ob_vault.specs.Shapes.{Shape, answered, shapes}
use Rattle.ob_vault.specs.RingLives.{ring_lives}
use Rattle.ob_top.specs.Audited.{ring_audits}
use Rattle.ob_vault.specs.RingKind.{IsRingMap, RingFound, ring_hidden, ring_kind, ring_public}
use Rattle.ob_script.specs.Drill.{drill_script}
use Rattle.ob_shares.specs.Shares.{no_shares}
use Rattle.ob_desk.specs.Beats.{BeatKind}
use Rattle.ob_conduct.specs.Acts.{calls}
use Rattle.ob_drill.specs.Reading.{IsReading}
use Rattle.ob_outcomes.specs.Lone.{HasOneCommitted}
use Rattle.ob_outcomes.specs.Served.{IsPatient}
use Rattle.ob_top.specs.Drilling.{no_output}
use Rattle.ob_top.specs.Drills.{drill_numbers}
use Rattle.ob_top.specs.Formats.{IsFormatted}
use Rattle.ob_top.specs.Outside.{Given, blind}
use Rattle.ob_top.specs.Runs.{ServedOver}
use Rattle.ob_top.specs.Parts.{manner}

-- Each of so many transactions is committed, in an epoch of its own.
pub record AllCommitted (n : ℕ) (records : List (EpochRecord ℕ)) : Type 0 where
  pub epochs : length records ≡ n
  pub each : All HasOneCommitted records
  pub committed : length (committed_of records) ≡ n

module _ {S : Type 0} (disk : S → Disk) (beat : BeatKind) (keys : Keys) (p : Params) (n : ℕ) where
  -- Behind these calls, from an opening on, came those of a reading, which change no value and were answered. Seen of all of them are the
  -- phases that the public schedule has for their shapes, filled by what they drew.
  pub record IsReadBehind (found : RingFound) (asked : List (VaultCall × VaultAnswer)) (old new : S) : Type 0 where
    pub reads : List (VaultCall × VaultAnswer)
    pub few : length reads ≤ 2 * p.keys
    pub reading : All IsReading reads
    pub steps : List (Shape × Fills)
    pub shapes_are : map (λ s. s.0) steps ≡ shapes (asked ++ reads)
    pub behind : RingHidden
    pub drawn : AreDrawn ring_kind p (ring_hidden found) (answered (asked ++ reads)) steps behind
    pub seen : ArePhasesMade 4 (steps_phases ring_kind p (ring_public p found) steps) (disk old).seen (disk new).seen

  -- The script was served by threads over the store that was opened, to no output and no watch; and then its map was read.
  pub record IsServedAndRead (found : RingFound) (old new : S) : Type 0 where
    pub between : S
    -- what the tape has given until then
    pub tape : Given
    pub served : ServedOver ring_kind ring_lives ring_audits disk (manner beat true 4 no_shares) keys p found (found.run).sealer (drill_script n) tape old between no_output no_output blind blind None
    pub committed : IsPatient beat → AllCommitted n served.records
    pub read : IsReadBehind found (calls served.is_served.served.evidence.acts) old new

-- An empty store of the self-test's parameters was made, with the words that this tape gave, and opened at its first epoch, with no key; then
-- that was done.
pub record IsDrilled {S : Type 0} (disk : S → Disk) (beat : BeatKind) (n : ℕ) (tape : Given) (old new : S) : Type 0 where
  pub keys : Keys
  pub p : Params
  pub numbers : numbers_of p ≡ drill_numbers
  pub made : S
  pub formatted : IsFormatted ring_kind ring_lives ring_audits disk tape keys p old made
  pub opened : S
  pub found : RingFound
  pub start : Gates
  pub seen : ArePhasesMade 4 (ring_kind.opens p found start) (disk made).seen (disk opened).seen
  pub first : (found.run).epoch ≡ 0
  pub none_there : IsRingMap keys p (disk opened) found empty
  pub served : IsServedAndRead disk beat keys p n found opened new
