-- The world: calls of the desk, calls of the vault, reports, crashes and openings, in one list.
use Rattle.std.specs.Prelude.{ℕ, suc, ◌≡◌, ◌≤◌, nat_le, true, false, List, [], ◌∷◌, ◌++◌, filter, Option, Some, None}
use Rattle.std.specs.Ordering.{nat_cmp}
use Rattle.ob_store.specs.Disk.{Image}
use Rattle.ob_serial.specs.Serial.{EpochRecord, Map}
use Rattle.ob_serial.specs.Vaults.{VaultCall, Fetch, End, VaultAnswer, VaultState, Standing, VaultStep, MayStand, MayStandIn}
use Rattle.ob_desk.specs.Desk.{Part, Setup, DeskState, new_desk, record_of, Call, Reply, DeskStep, MayCall}
use Rattle.ob_world.specs.Courses.{Course}
use Rattle.ob_world.specs.Drivers.{DriverAt, AtRest, HasTold, IsDown, IsUp, MovesDriver, IsInsideCall, IsCallOf, before_call, behind_call}

pub data WorldEvent : Type 0 where
  -- the desk was called, and replied
  Desk : (caller : ℕ) (call : Call) (reply : Reply) → WorldEvent
  -- the vault was called, and answered
  Vault : (call : VaultCall) (answer : VaultAnswer) → WorldEvent
  -- the lines of a record were written
  Report : (told : EpochRecord ℕ) → WorldEvent
  -- a crash, between calls or inside one of the vault, left this image
  Crash : (inside : Option VaultCall) (image : Image) → WorldEvent
  -- the store was opened for these clients, behind a crash or a return
  Open : (clients : List ℕ) → WorldEvent

pub record World (Past : Type 0) : Type 0 where
  pub desk : DeskState
  pub vault : VaultState
  pub past : Past
  pub driver : DriverAt
  -- the map that the last opening found
  pub found : Map nat_cmp
  -- the record of each epoch, of its last attempt whose end was called
  pub ended : List (EpochRecord ℕ)

-- what may stand between calls, or inside one
abbrev pub MayStandInside : VaultState → Option VaultCall → Standing → Type 0
MayStandInside v None at = MayStand v at
MayStandInside v (Some call) at = MayStandIn v call at

-- the records of the epochs up to this one
abbrev pub records_up_to : ℕ → List (EpochRecord ℕ) → List (EpochRecord ℕ)
records_up_to epoch records = filter (λ r. nat_le r.epoch epoch) records

abbrev pub closed_records : Option Part → List (EpochRecord ℕ)
closed_records None = []
closed_records (Some part) = record_of part ∷ []

-- An end that is called takes the place of earlier attempts of its epoch.
abbrev pub ended_with : Option VaultCall → DeskState → VaultState → List (EpochRecord ℕ) → List (EpochRecord ℕ)
ended_with (Some (End writes)) d v ended = records_up_to v.epoch ended ++ closed_records d.closed
ended_with (Some (Fetch keys)) d v ended = ended
ended_with None d v ended = ended

-- a vault as it was opened at this standing, with batches left
abbrev pub opened_vault : ℕ → Standing → ℕ → VaultState
opened_vault batches found left = record { batches = batches; epoch = found.epoch; content = found.content; left = left; spent = false; doubt = None }

-- what a crash leaves of a vault
abbrev pub cut_vault : VaultState → Standing → VaultState
cut_vault v at = record v { epoch = at.epoch; content = at.content; spent = true; doubt = None }

module _ (c : Course) where
  pub record DeskEvent (w : World c.Past) (caller : ℕ) (call : Call) (reply : Reply) (new : World c.Past) : Type 0 where
    pub up : IsUp w.driver
    pub own : IsCallOf caller call reply
    pub desk : DeskState
    pub driver : DriverAt
    pub may : MayCall w.desk call
    pub step : DeskStep w.desk call reply desk
    pub moves : MovesDriver w.driver call reply driver
    pub state : new ≡ record w { desk = desk; driver = driver }

  pub record VaultEvent (w : World c.Past) (call : VaultCall) (answer : VaultAnswer) (new : World c.Past) : Type 0 where
    pub vault : VaultState
    pub past : c.Past
    pub law : VaultStep w.vault call answer vault
    pub called : c.called w.past call answer past
    pub was : w.driver ≡ before_call call
    pub state : new ≡ record w { vault = vault; past = past; driver = behind_call call answer; ended = ended_with (Some call) w.desk w.vault w.ended }

  pub record ReportEvent (w : World c.Past) (told : EpochRecord ℕ) (new : World c.Past) : Type 0 where
    pub was : w.driver ≡ HasTold told
    pub state : new ≡ record w { driver = AtRest }

  -- The image that is left stands for what may stand then.
  pub record CrashEvent (w : World c.Past) (inside : Option VaultCall) (image : Image) (new : World c.Past) : Type 0 where
    pub was : IsInsideCall w.driver inside
    pub left : Standing
    pub may : MayStandInside w.vault inside left
    pub stands : c.stands w.past image left
    pub past : c.Past
    pub cut : c.cut w.past inside image past
    pub state : new ≡ record w { vault = cut_vault w.vault left; past = past; driver = IsDown; ended = ended_with inside w.desk w.vault w.ended }

  -- An opening makes a new desk behind the epoch that it found, with the batches that are left of the next.
  pub record OpenEvent (w : World c.Past) (clients : List ℕ) (new : World c.Past) : Type 0 where
    pub found : Standing
    pub left : ℕ
    pub may : MayStand w.vault found
    pub past : c.Past
    pub opened : c.opened w.past found past
    pub few : left ≤ w.vault.batches
    pub state : new ≡ record w {
      desk = new_desk w.desk.setup (suc found.epoch) left clients;
      vault = opened_vault w.vault.batches found left;
      past = past;
      driver = AtRest;
      found = found.content;
    }

  abbrev pub WorldStep : World c.Past → WorldEvent → World c.Past → Type 0
  WorldStep w (Desk caller call reply) new = DeskEvent w caller call reply new
  WorldStep w (Vault call answer) new = VaultEvent w call answer new
  WorldStep w (Report told) new = ReportEvent w told new
  WorldStep w (Crash inside image) new = CrashEvent w inside image new
  WorldStep w (Open clients) new = OpenEvent w clients new

  -- the events lead from one world to another
  abbrev pub IsWorld : World c.Past → List WorldEvent → World c.Past → Type 0
  IsWorld w [] last = w ≡ last
  IsWorld w (e ∷ events) last = (mid : World c.Past) × WorldStep w e mid × IsWorld mid events last

-- what an opening makes
abbrev pub first_world : {Past : Type 0} → Setup → List ℕ → Standing → ℕ → Past → World Past
first_world setup clients found left past = record {
  desk = new_desk setup (suc found.epoch) left clients;
  vault = opened_vault setup.params.batches found left;
  past = past;
  driver = AtRest;
  found = found.content;
  ended = [];
}
