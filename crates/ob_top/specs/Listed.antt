-- What a run did, as a list of the world's events.
use Rattle.std.specs.Prelude.{ℕ, List}
use Rattle.ob_base.specs.declared.params.Params.{Params}
use Rattle.ob_conduct.specs.Acts.{Act}
use Rattle.ob_seal.specs.declared.keys.Keys.{Keys}
use Rattle.ob_serial.specs.Vaults.{Standing}
use Rattle.ob_vault.specs.Kinds.{Stands, StoreKind}
use Rattle.ob_world.specs.Courses.{Course}
use Rattle.ob_desk.specs.Desk.{Setup}
use Rattle.ob_world.specs.Headlines.{HeadlineHolds}
use Rattle.ob_world.specs.Weaves.{reports_of, woven}
use Rattle.ob_world.specs.Worlds.{IsWorld, World, first_world}

-- The course of a store of which an image's standing is known, and nothing of its past.
abbrev pub store_course : StoreKind → Keys → Params → Course
store_course store keys p = record {
  Past = Unit {0};
  stands = λ past image at. Stands store keys p image at;
  called = λ old call answer new. Unit {0};
  cut = λ old inside image new. Unit {0};
  opened = λ old found new. Unit {0};
  IsSound = λ past. Unit {0};
  goes_on_called = λ old call answer new step sound. sound;
  goes_on_cut = λ old inside image new step sound. sound;
  goes_on_opened = λ old found new step sound. sound;
  IsPublic = λ past. Unit {0};
  IsFresh = λ past. Unit {0};
  ArePadsOnce = λ past. Unit {0};
  public = λ past sound. sound;
  fresh = λ past sound. sound;
  pads_once = λ past sound. sound;
}

-- The acts are a list of the world's events, from the opening at this epoch and map on, with so many batches left: the clients' and the
-- driver's calls of the desk, the vault's calls right behind the batches and closes that they are made for, and the reports.
abbrev pub AreListed : StoreKind → Keys → Setup → Standing → (left : ℕ) → (clients : List ℕ) → List Act → Type 0
AreListed store keys setup at left clients acts = (last : World (Unit {0})) × IsWorld (store_course store keys setup.params) (first_world setup clients at left tt) (woven acts (reports_of acts)) last

-- What holds of every list of events holds of theirs.
abbrev pub ListsHold : StoreKind → Type 0
ListsHold store = (keys : Keys) (p : Params) → HeadlineHolds (store_course store keys p)
