-- What holds of every list of events: what was told, what is acknowledged, and what every later image holds.
use Rattle.std.specs.Prelude.{ℕ, ◌≡◌, ◌≤◌, List, [], ◌∷◌, ◌++◌, flat_map, Option, Some}
use Rattle.std.specs.Ordering.{nat_cmp}
use Rattle.ob_base.specs.Repeats.{Has}
use Rattle.ob_store.specs.Disk.{Image}
use Rattle.ob_serial.specs.Serial.{EpochRecord, Map, OneByOne, committed_of}
use Rattle.ob_serial.specs.Vaults.{VaultCall, Standing}
use Rattle.ob_desk.specs.Desk.{Setup, Call, Settled, Reply, IsSettled, Committed, records_told}
use Rattle.ob_world.specs.Courses.{Course}
use Rattle.ob_world.specs.Drivers.{IsInsideCall}
use Rattle.ob_world.specs.Worlds.{WorldEvent, Desk, Vault, Report, Crash, Open, World, IsWorld, first_world, MayStandInside, records_up_to, ended_with}

-- the records that an event publishes
abbrev pub published_by : WorldEvent → List (EpochRecord ℕ)
published_by (Desk caller call reply) = records_told reply
published_by (Vault call answer) = []
published_by (Report told) = []
published_by (Crash inside image) = []
published_by (Open clients) = []

-- all the records published, over all openings
abbrev pub published_in : List WorldEvent → List (EpochRecord ℕ)
published_in events = flat_map published_by events

-- those published since the last opening, where these were before
abbrev pub told_behind : List (EpochRecord ℕ) → WorldEvent → List (EpochRecord ℕ)
told_behind told (Open clients) = []
told_behind told (Desk caller call reply) = told ++ records_told reply
told_behind told (Vault call answer) = told
told_behind told (Report r) = told
told_behind told (Crash inside image) = told

abbrev pub told_since : List (EpochRecord ℕ) → List WorldEvent → List (EpochRecord ℕ)
told_since told [] = told
told_since told (e ∷ events) = told_since (told_behind told e) events

-- the epoch of which a client was told that its transaction was committed
abbrev pub told_committed : Call → Reply → List ℕ
told_committed (Settled txn) (IsSettled (Some Committed)) = txn.epoch ∷ []
told_committed _ _ = []

-- An epoch is acknowledged where its lines were written, or a client was told that it committed in it.
abbrev pub acknowledged_by : WorldEvent → List ℕ
acknowledged_by (Desk caller call reply) = told_committed call reply
acknowledged_by (Report told) = told.epoch ∷ []
acknowledged_by (Vault call answer) = []
acknowledged_by (Crash inside image) = []
acknowledged_by (Open clients) = []

abbrev pub acknowledged : List WorldEvent → List ℕ
acknowledged events = flat_map acknowledged_by events

-- each of these epochs is at most this one
abbrev pub AreUpTo : ℕ → List ℕ → Type 0
AreUpTo epoch [] = Unit {0}
AreUpTo epoch (one ∷ more) = (one ≤ epoch) × AreUpTo epoch more

-- What stands is what the committed transactions of the epochs up to its own make of the first map, one by one; and each epoch that was
-- acknowledged is among these.
pub record IsPrefix (first : Map nat_cmp) (ended : List (EpochRecord ℕ)) (told : List ℕ) (at : Standing) : Type 0 where
  pub one_by_one : OneByOne nat_cmp first (committed_of (records_up_to at.epoch ended)) at.content
  pub holds : AreUpTo at.epoch told

module _ (c : Course) where
  -- A crash at this place: the image that it left stands for a prefix, and goes on to.
  pub record LeftByCrash (first : World c.Past) (before : List WorldEvent) (image : Image) (last : World c.Past) : Type 0 where
    pub mid : World c.Past
    pub leads : IsWorld c first before mid
    pub at : Standing
    pub stands : c.stands mid.past image at
    pub prefix : IsPrefix first.found last.ended (acknowledged before) at

  -- What holds of a list of events that leads from the world of an opening to another.
  pub record Headline (first : World c.Past) (events : List WorldEvent) (last : World c.Past) : Type 0 where
    -- the committed transactions of the records published since the last opening ran one by one from what it found
    pub serial : (m : Map nat_cmp) × OneByOne nat_cmp last.found (committed_of (told_since [] events)) m
    -- each record ever published is among those of the epochs that every later image has to hold
    pub published : (r : EpochRecord ℕ) → Has (published_in events) r → Has (records_up_to last.vault.epoch last.ended) r
    -- whatever may stand here, between calls or inside the next one, is a prefix of what ended
    pub prefix : (inside : Option VaultCall) → IsInsideCall last.driver inside → (at : Standing) → MayStandInside last.vault inside at
        → IsPrefix first.found (ended_with inside last.desk last.vault last.ended) (acknowledged events) at
    -- and so is what each crash left
    pub crashes : (before after : List WorldEvent) (inside : Option VaultCall) (image : Image) → events ≡ before ++ Crash inside image ∷ after → LeftByCrash first before image last
    -- what the course promises
    pub trace : c.IsPublic last.past
    pub fills : c.IsFresh last.past
    pub pads : c.ArePadsOnce last.past

  -- so it is of every list of events from an opening of a sound past
  abbrev pub HeadlineHolds : Type 0
  HeadlineHolds = (setup : Setup) (clients : List ℕ) (found : Standing) (left : ℕ) (past : c.Past) (events : List WorldEvent) (last : World c.Past)
      → c.IsSound past → IsWorld c (first_world setup clients found left past) events last → Headline (first_world setup clients found left past) events last
