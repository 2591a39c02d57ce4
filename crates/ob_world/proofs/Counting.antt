-- A run publishes as many records as acts of its publish.
use Rattle.std.proofs.Common.{◌≡◌, ℕ, suc, List, [], ◌∷◌, ◌++◌, length, refl, sym, ap, ◌∙◌, subst}
use Rattle.std.specs.Prelude.{All}
use Rattle.std.proofs.lemmas.List.Elements.{All-head, All-tail}
use Rattle.ob_base.specs.declared.fault.Fault.TheVariants.{SinkFault}
use Rattle.ob_serial.specs.Serial.{EpochRecord}
use Rattle.ob_serial.specs.declared.vault.EndErr.TheVariants as refused
use Rattle.ob_desk.specs.Desk as desk
use Rattle.ob_desk.specs.Desk.{DeskState, Call, Reply, published, records_told}
use Rattle.ob_session.specs.Steps.{Leads, IsOwn}
use Rattle.ob_conduct.specs.Acts.{Act, Says, Halts, Rests, Takes, Delivers, DeliverFails, FetchFails, RestUnwatched, Closes, Publishes, Refuses, Unprinted, Unwatched, Batch, IsAllowed, desk_calls, history, records, rest_calls, close_calls}
use Rattle.ob_conduct.proofs.Behind.{leads_split}
use Rattle.ob_world.specs.Drivers.{AtRest}
use Rattle.ob_world.specs.Weaves.{Due, publishes_in}
use Rattle.ob_world.specs.Laws.{PublishesAreRecords}
use Rattle.ob_world.proofs.Telling.{records_due, told_due}
use Rattle.ob_world.proofs.Weaving.{own_step}

-- a client's calls publish nothing
own_silent : (client : ℕ) (steps more : List (Call × Reply)) (d mid : DeskState) → All (IsOwn client) steps → Leads d steps mid → published (steps ++ more) ≡ published more
own_silent client [] more d mid own led = refl
own_silent client (step ∷ steps) more d mid own (next, may, one, led) =
    let none : [] ≡ records_told step.1 = subst (λ (due : Due). records_due due ≡ records_told step.1) (own_step client step.0 step.1 AtRest (All-head (IsOwn client) step steps own)).1 (told_due d step.0 step.1 next one) in
    ap (λ (rs : List (EpochRecord ℕ)). rs ++ published (steps ++ more)) (sym none) ∙ own_silent client steps more next mid (All-tail (IsOwn client) step steps own) led

batches_silent : (batches : List Batch) (tail more : List (Call × Reply)) → published ((rest_calls batches ++ tail) ++ more) ≡ published (tail ++ more)
batches_silent [] tail more = refl
batches_silent (batch ∷ batches) tail more = batches_silent batches tail more

pub publishes_are_records : PublishesAreRecords
publishes_are_records beat [] d new allowed led = refl
publishes_are_records beat (act ∷ acts) d new allowed led =
    let (mid, first, rest) = leads_split d (desk_calls act) (history acts) new led in
    let more : publishes_in acts ≡ length (records acts) = publishes_are_records beat acts mid new (All-tail (IsAllowed beat) act acts allowed) rest in
    counted act acts d mid (All-head (IsAllowed beat) act acts allowed) first more
  where
    counted : (act : Act) (acts : List Act) (d mid : DeskState) → IsAllowed beat act → Leads d (desk_calls act) mid → publishes_in acts ≡ length (records acts) → publishes_in (act ∷ acts) ≡ length (records (act ∷ acts))
    counted (Says client steps) acts d mid own led more = more ∙ ap length (sym (own_silent client steps (history acts) d mid own led))
    counted (Halts fault) acts d mid own led more = more
    counted (Rests look) acts d mid own led more = more
    counted (Takes look keys) acts d mid own led more = more
    counted (Delivers batch) acts d mid own led more = more
    counted (DeliverFails keys fault) acts d mid own led more = more
    counted (FetchFails look batches keys fault) acts d mid own led more =
        more ∙ ap length (sym (batches_silent batches ((desk.TakeBatch, desk.Batch keys) ∷ (desk.Stop fault, desk.Done) ∷ []) (history acts)))
    counted (RestUnwatched look batches) acts d mid own led more = more ∙ ap length (sym (batches_silent batches ((desk.Stop SinkFault, desk.Done) ∷ []) (history acts)))
    counted (Closes look batches writes) acts d mid own led more = more ∙ ap length (sym (batches_silent batches (close_calls writes) (history acts)))
    counted (Publishes writes left told) acts d mid own led more = ap suc more
    counted (Refuses writes (refused.Before fault)) acts d mid own led more = more
    counted (Refuses writes (refused.Unsure fault)) acts d mid own led more = more
    counted Unprinted acts d mid own led more = more
    counted Unwatched acts d mid own led more = more
