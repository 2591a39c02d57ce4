-- What is done in the rounds of a run: the clients' calls, and what the driver of epochs does at its looks.
use Rattle.std.specs.Prelude.{ℕ, suc, ◌≡◌, ◌<◌, ◌⊎◌, true, All, List, [], ◌∷◌, ◌++◌, map, flat_map, Option, Some, None, Err}
use Rattle.ob_base.specs.declared.fault.Fault.{Fault}
use Rattle.ob_base.specs.declared.fault.Fault.TheVariants.{SinkFault}
use Rattle.ob_serial.specs.Serial.{EpochRecord}
use Rattle.ob_serial.specs.Vaults.{VaultCall, Fetch, End, VaultAnswer, Values, Ended, RefusedBy}
use Rattle.ob_serial.specs.VaultViews.{end_answer}
use Rattle.ob_serial.specs.declared.vault.EndErr.{EndErr}
use Rattle.ob_serial.specs.declared.vault.EndErr.TheVariants.{Before, Unsure}
use Rattle.ob_desk.specs.Desk as desk
use Rattle.ob_desk.specs.Desk.{Call, Reply}
use Rattle.ob_desk.specs.declared.calls.Look.{Look}
use Rattle.ob_desk.specs.Beats.{BeatKind}
use Rattle.ob_session.specs.Steps.{IsOwn}
use Rattle.ob_conduct.specs.declared.run_err.RunErr.{RunErr}
use Rattle.ob_conduct.specs.declared.run_err.RunErr.TheVariants as failed

-- A batch that was fetched and delivered: keys in their places, none for a pad, and their values.
pub record Batch : Type 0 where
  pub keys : List (Option ℕ)
  pub values : List (Option (List ℕ))

-- What was done, act by act. All but the first are the driver's; a look is what it saw before.
pub data Act : Type 0 where
  -- a client made these calls in a step
  Says : (client : ℕ) (steps : List (Call × Reply)) → Act
  -- the desk was found stopped
  Halts : (fault : Fault) → Act
  -- nothing was done at this look
  Rests : (look : Look) → Act
  -- a batch was taken, with these keys,
  Takes : (look : Look) (keys : List (Option ℕ)) → Act
  -- and the vault read it, and it was delivered,
  Delivers : (batch : Batch) → Act
  -- or the vault refused it, and the desk was stopped
  DeliverFails : (keys : List (Option ℕ)) (fault : Fault) → Act
  -- to end the epoch batches were fetched, and the vault refused one more with these keys
  FetchFails : (look : Look) (batches : List Batch) (keys : List (Option ℕ)) (fault : Fault) → Act
  -- or in the last of these the watch broke: they were delivered, the epoch wasn't closed, and the desk was stopped
  RestUnwatched : (look : Look) (batches : List Batch) → Act
  -- To end the epoch the batches that were left were fetched, and it was closed with these writes;
  Closes : (look : Look) (batches : List Batch) (writes : List (ℕ × Option (List ℕ))) → Act
  -- the vault ended it with them, and it was published as this record: the next epoch has so many batches left;
  Publishes : (writes : List (ℕ × Option (List ℕ))) (left : ℕ) (told : EpochRecord ℕ) → Act
  -- or the vault refused its end, or left it in doubt, and the desk was told
  Refuses : (writes : List (ℕ × Option (List ℕ))) (refused : EndErr) → Act
  -- the output failed at the lines of the record that was published last, and the desk was stopped
  Unprinted : Act
  -- The watch broke in the vault's last call, a batch that was delivered, or an end behind which its epoch's lines are written; and the desk was stopped.
  Unwatched : Act

-- the calls of a look
abbrev pub look_calls : Look → List (Call × Reply)
look_calls look = (desk.IsStopped, desk.StoppedBy None) ∷ (desk.Looks, desk.Seen look) ∷ []

abbrev pub batch_calls : Batch → List (Call × Reply)
batch_calls batch = (desk.TakeBatch, desk.Batch batch.keys) ∷ (desk.Deliver batch.keys batch.values, desk.Done) ∷ []

abbrev pub rest_calls : List Batch → List (Call × Reply)
rest_calls batches = flat_map batch_calls batches

-- what a desk is asked to close an epoch
abbrev pub close_calls : List (ℕ × Option (List ℕ)) → List (Call × Reply)
close_calls writes = (desk.Close, desk.Writes writes) ∷ []

-- A publish names the epoch that runs.
abbrev pub publish_calls : ℕ → EpochRecord ℕ → List (Call × Reply)
publish_calls left told = (desk.Publish (suc told.epoch) left, desk.Published told) ∷ []

-- what the desk is told of an end that was refused
abbrev pub stop_for : EndErr → Call
stop_for (Before fault) = desk.Stop fault
stop_for (Unsure fault) = desk.Unsure fault

-- what the desk is told of a fault
abbrev pub stop_calls : Fault → List (Call × Reply)
stop_calls fault = (desk.Stop fault, desk.Done) ∷ []

-- the fault of an end that was refused
abbrev pub fault_in : EndErr → Fault
fault_in (Before fault) = fault
fault_in (Unsure fault) = fault

-- the calls of the desk, with their replies
abbrev pub desk_calls : Act → List (Call × Reply)
desk_calls (Says client steps) = steps
desk_calls (Halts fault) = (desk.IsStopped, desk.StoppedBy (Some fault)) ∷ []
desk_calls (Rests look) = look_calls look
desk_calls (Takes look keys) = look_calls look ++ (desk.TakeBatch, desk.Batch keys) ∷ []
desk_calls (Delivers batch) = (desk.Deliver batch.keys batch.values, desk.Done) ∷ []
desk_calls (DeliverFails keys fault) = stop_calls fault
desk_calls (FetchFails look batches keys fault) = look_calls look ++ (rest_calls batches ++ (desk.TakeBatch, desk.Batch keys) ∷ (desk.Stop fault, desk.Done) ∷ [])
desk_calls (Closes look batches writes) = look_calls look ++ (rest_calls batches ++ close_calls writes)
desk_calls (Publishes writes left told) = publish_calls left told
desk_calls (Refuses writes refused) = (stop_for refused, desk.Done) ∷ []
desk_calls (RestUnwatched look batches) = look_calls look ++ (rest_calls batches ++ stop_calls SinkFault)
desk_calls Unprinted = stop_calls SinkFault
desk_calls Unwatched = stop_calls SinkFault

abbrev pub batch_fetch : Batch → VaultCall × VaultAnswer
batch_fetch batch = (Fetch batch.keys, Values batch.values)

abbrev pub rest_fetches : List Batch → List (VaultCall × VaultAnswer)
rest_fetches batches = map batch_fetch batches

-- The calls of the vault, with their answers: a read stands with its delivery, and an end with what came of it.
abbrev pub vault_calls : Act → List (VaultCall × VaultAnswer)
vault_calls (Says client steps) = []
vault_calls (Halts fault) = []
vault_calls (Rests look) = []
vault_calls (Takes look keys) = []
vault_calls (Delivers batch) = batch_fetch batch ∷ []
vault_calls (DeliverFails keys fault) = (Fetch keys, RefusedBy fault) ∷ []
vault_calls (FetchFails look batches keys fault) = rest_fetches batches ++ (Fetch keys, RefusedBy fault) ∷ []
vault_calls (Closes look batches writes) = rest_fetches batches
vault_calls (Publishes writes left told) = (End writes, Ended) ∷ []
vault_calls (Refuses writes refused) = (End writes, end_answer (Err refused)) ∷ []
vault_calls (RestUnwatched look batches) = rest_fetches batches
vault_calls Unprinted = []
vault_calls Unwatched = []

-- all calls of the desk, in order
abbrev pub history : List Act → List (Call × Reply)
history acts = flat_map desk_calls acts

-- all calls of the vault, in order
abbrev pub calls : List Act → List (VaultCall × VaultAnswer)
calls acts = flat_map vault_calls acts

-- the records that were published, in order
abbrev pub records : List Act → List (EpochRecord ℕ)
records acts = desk.published (history acts)

-- the look passes the beat's test
abbrev pub PassesTest : BeatKind → Look → Type 0
PassesTest beat look = beat.passes look.waiting look.live look.queued look.left ≡ true

-- The driver may act at this look: no client is left, or the look passes the beat's test.
abbrev pub MayAct : BeatKind → Look → Type 0
MayAct beat look = (look.clients ≡ 0) ⊎ PassesTest beat look

-- to act is to fetch a batch,
abbrev pub IsToFetch : Look → Type 0
IsToFetch look = (0 < look.queued) × (0 < look.left)

-- or else to end the epoch, where it has transactions
abbrev pub IsToEnd : Look → Type 0
IsToEnd look = ((look.queued ≡ 0) ⊎ (look.left ≡ 0)) × (0 < look.txns)

-- nothing is to be done: no key is queued that a batch is left for, and the epoch has no transactions
abbrev pub HasNoWork : Look → Type 0
HasNoWork look = ((look.queued ≡ 0) ⊎ (look.left ≡ 0)) × (look.txns ≡ 0)

-- The driver may rest at this look: no client and no transaction is left; or a client is, and where the beat acts at each look that
-- passes its test, and this one does, nothing is to be done.
abbrev pub MayRest : BeatKind → Look → Type 0
MayRest beat look = ((look.clients ≡ 0) × (look.txns ≡ 0)) ⊎ ((0 < look.clients) × (beat.exact ≡ true → PassesTest beat look → HasNoWork look))

-- What may be done: by a client, its own calls; by the driver, what its look allows.
abbrev pub IsAllowed : BeatKind → Act → Type 0
IsAllowed beat (Says client steps) = All (IsOwn client) steps
IsAllowed beat (Rests look) = MayRest beat look
IsAllowed beat (Takes look keys) = MayAct beat look × IsToFetch look
IsAllowed beat (FetchFails look batches keys fault) = MayAct beat look × IsToEnd look
IsAllowed beat (Closes look batches writes) = MayAct beat look × IsToEnd look
IsAllowed beat (Halts fault) = Unit {0}
IsAllowed beat (Delivers batch) = Unit {0}
IsAllowed beat (DeliverFails keys fault) = Unit {0}
IsAllowed beat (Publishes writes left told) = Unit {0}
IsAllowed beat (Refuses writes refused) = Unit {0}
IsAllowed beat (RestUnwatched look batches) = MayAct beat look × IsToEnd look
IsAllowed beat Unprinted = Unit {0}
IsAllowed beat Unwatched = Unit {0}

-- the fault that the desk is stopped with where a run is cut off so
abbrev pub fault_of : RunErr → Fault
fault_of (failed.Fault fault) = fault
fault_of failed.Unwatched = SinkFault

-- what an act tells to have cut the run off
abbrev pub fault_told : Act → Option RunErr
fault_told (Halts fault) = Some (failed.Fault fault)
fault_told (DeliverFails keys fault) = Some (failed.Fault fault)
fault_told (FetchFails look batches keys fault) = Some (failed.Fault fault)
fault_told (Refuses writes refused) = Some (failed.Fault (fault_in refused))
fault_told Unprinted = Some (failed.Fault SinkFault)
fault_told (RestUnwatched look batches) = Some failed.Unwatched
fault_told Unwatched = Some failed.Unwatched
fault_told (Says client steps) = None
fault_told (Rests look) = None
fault_told (Takes look keys) = None
fault_told (Delivers batch) = None
fault_told (Closes look batches writes) = None
fault_told (Publishes writes left told) = None
