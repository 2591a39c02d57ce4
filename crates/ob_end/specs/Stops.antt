-- What an end that was refused leaves of the epoch's register, by how many of its notes weren't shown.
use Rattle.std.specs.Prelude.{ℕ, suc, ◌-◌, Bool, List, ◌++◌, length, Result, Ok, Err}
use Rattle.ob_seal.specs.declared.keys.Keys.{Keys}
use Rattle.ob_serial.specs.declared.vault.EndErr.{EndErr}
use Rattle.ob_store.specs.declared.watch.Note.{Note}
use Rattle.ob_store.specs.Disk.{Disk, Image}
use Rattle.ob_store.specs.Lines.{Trace}
use Rattle.ob_twin.specs.declared.gates.Gates.{Gates}
use Rattle.ob_twin.specs.declared.set_err.SetErr.{SetErr}
use Rattle.ob_twin.specs.declared.set_err.SetErr.TheVariants as set
use Rattle.ob_twin.specs.Keyed.{tagging}
use Rattle.ob_twin.specs.Opening.{is_closed_first}
use Rattle.ob_twin.specs.Orders.{prepare_notes, set_notes}
use Rattle.ob_twin.specs.Register.{place_of}
use Rattle.ob_twin.specs.Stops.{IsSettingLeft, StopsShort}

-- From that store on the epoch's register was to be set, and so many notes lack: an image is left so.
abbrev pub IsEpochLeft : Keys → (closed_first : Bool) → (epoch : ℕ) → (old : Disk) → (lacking : ℕ) → Image → Type 0
IsEpochLeft keys closed_first epoch old lacking image = IsSettingLeft (tagging keys) closed_first 5 epoch old lacking image

-- These writes, and then the set of the epoch's register: refused before its gate's write it stops so; where it is unsure, a note lacks.
abbrev pub CloseStops : Keys → List Note → (closed_first : Bool) → (epoch : ℕ) → (old new : Disk) → (before after : Trace) → Result (Unit {0}) SetErr → Type 0
CloseStops keys writes closed_first epoch old new before after (Ok done) = Unit {0}
CloseStops keys writes closed_first epoch old new before after (Err (set.Before fault)) =
    StopsShort (writes ++ set_notes closed_first 5 epoch) (writes ++ prepare_notes closed_first 5 epoch) (IsEpochLeft keys closed_first epoch old) old new before after
CloseStops keys writes closed_first epoch old new before after (Err (set.Unsure fault)) = (c : Image) → new.may_leave c → IsEpochLeft keys closed_first epoch old 1 c

-- Of its row of notes these were shown. Refused, it leaves each image so by how many lack.
abbrev pub EndStops : Keys → Gates → (epoch : ℕ) → (old new : Disk) → (row shown : List Note) → Result (Unit {0}) EndErr → Type 0
EndStops keys gates epoch old new row shown (Ok done) = Unit {0}
EndStops keys gates epoch old new row shown (Err refused) =
    (c : Image) → new.may_leave c → IsEpochLeft keys (is_closed_first gates.epoch (place_of (suc epoch))) (suc epoch) old (length row - length shown) c
