-- Clients' turns, and what stands before them.
use Rattle.std.proofs.Common.{◌≡◌, ◌∙◌, ℕ, All, List, [], ◌∷◌, ◌++◌, refl, ap, ap₂, subst, nat_cmp}
use Rattle.std.proofs.lemmas.List.{append-nil}
use Rattle.std.proofs.lemmas.List.Elements.{All-head, All-tail}
use Rattle.std.specs.FinMap.{empty}
use Rattle.ob_serial.specs.Serial.{EpochRecord, Map}
use Rattle.ob_serial.specs.Vaults.{VaultCall, VaultAnswer}
use Rattle.ob_desk.specs.Desk.{DeskState, Call, Reply, Run, published}
use Rattle.ob_session.specs.Steps.{Leads}
use Rattle.ob_conduct.specs.Acts.{Act, Says, Halts, Rests, Takes, Delivers, DeliverFails, FetchFails, RestUnwatched, Closes, Publishes, Refuses, Unprinted, Unwatched, history, calls, records, desk_calls, vault_calls}
use Rattle.ob_conduct.specs.Moves.{IsSaid}
use Rattle.ob_conduct.proofs.Ready.{own_run}
use Rattle.ob_conduct.proofs.Moving.{run_join}
use Rattle.ob_conduct.proofs.Going.{history_append, calls_append, records_append, published_append, own_tells}

pub leads_split : (a : DeskState) (xs ys : List (Call × Reply)) (c : DeskState) → Leads a (xs ++ ys) c → (b : DeskState) × Leads a xs b × Leads b ys c
leads_split a [] ys c leads = (a, refl, leads)
leads_split a (x ∷ xs) ys c (mid, may, one, rest) = let (b, first, last) = leads_split mid xs ys c rest in (b, (mid, may, one, first), last)

-- one client's calls ask the vault nothing, publish nothing, and leave its map
one_run : (m : Map nat_cmp) (act : Act) (d new : DeskState) → IsSaid act → Leads d (desk_calls act) new → Run m d (desk_calls act) m new × (vault_calls act ≡ []) × (published (desk_calls act) ≡ [])
one_run m (Says client steps) d new said leads = (own_run m client d steps new said leads, refl, own_tells client steps d new said leads)
one_run m (Halts fault) d new said leads = absurd said
one_run m (Rests look) d new said leads = absurd said
one_run m (Takes look keys) d new said leads = absurd said
one_run m (Delivers batch) d new said leads = absurd said
one_run m (DeliverFails keys fault) d new said leads = absurd said
one_run m (FetchFails look batches keys fault) d new said leads = absurd said
one_run m (RestUnwatched look batches) d new said leads = absurd said
one_run m (Closes look batches writes) d new said leads = absurd said
one_run m (Publishes writes left told) d new said leads = absurd said
one_run m (Refuses writes refused) d new said leads = absurd said
one_run m Unprinted d new said leads = absurd said
one_run m Unwatched d new said leads = absurd said

pub said_run : (m : Map nat_cmp) (acts : List Act) (d new : DeskState) → All IsSaid acts → Leads d (history acts) new → Run m d (history acts) m new × (calls acts ≡ []) × (records acts ≡ [])
said_run m [] d new said leads = ((refl, leads), refl, refl)
said_run m (act ∷ acts) d new said leads =
    let (mid, first, rest) = leads_split d (desk_calls act) (history acts) new leads in
    let (run, asks, tells) = one_run m act d mid (All-head IsSaid act acts said) first in
    let (runs, ask, tell) = said_run m acts mid new (All-tail IsSaid act acts said) rest in (
      run_join m d (desk_calls act) m mid (history acts) m new run runs,
      ap₂ (λ (x y : List (VaultCall × VaultAnswer)). x ++ y) asks ask,
      published_append (desk_calls act) (history acts) ∙ ap₂ (λ (x y : List (EpochRecord ℕ)). x ++ y) tells tell,
    )

pub empty_map : Map nat_cmp
empty_map = empty

-- ---- an act behind which clients alone have their turns

asks_none : (act : Act) → IsSaid act → vault_calls act ≡ []
asks_none (Says client steps) says = refl
asks_none (Halts fault) says = absurd says
asks_none (Rests look) says = absurd says
asks_none (Takes look keys) says = absurd says
asks_none (Delivers batch) says = absurd says
asks_none (DeliverFails keys fault) says = absurd says
asks_none (FetchFails look batches keys fault) says = absurd says
asks_none (RestUnwatched look batches) says = absurd says
asks_none (Closes look batches writes) says = absurd says
asks_none (Publishes writes left told) says = absurd says
asks_none (Refuses writes refused) says = absurd says
asks_none Unprinted says = absurd says
asks_none Unwatched says = absurd says

pub said_asks : (acts : List Act) → All IsSaid acts → calls acts ≡ []
said_asks [] says = refl
said_asks (act ∷ acts) says = ap₂ (λ (x y : List (VaultCall × VaultAnswer)). x ++ y) (asks_none act (All-head IsSaid act acts says)) (said_asks acts (All-tail IsSaid act acts says))

module _ (acts front : List Act) (act : Act) (behind : List Act) (is : acts ≡ front ++ act ∷ behind) (says : All IsSaid behind) where
  -- the calls of the vault end with its own,
  pub asks_before : calls acts ≡ calls front ++ vault_calls act
  asks_before = ap calls is ∙ (calls_append front (act ∷ behind) ∙ ap (λ (x : List (VaultCall × VaultAnswer)). calls front ++ x)
      (ap (λ (x : List (VaultCall × VaultAnswer)). vault_calls act ++ x) (said_asks behind says) ∙ append-nil (vault_calls act)))

  -- and the records with what it publishes
  pub tells_before : (a b : DeskState) → Leads a (history acts) b → records acts ≡ records front ++ published (desk_calls act)
  tells_before a b leads =
      let (c, before, after) = leads_split a (history front) (history (act ∷ behind)) b (subst (λ (h : List (Call × Reply)). Leads a h b) (ap history is ∙ history_append front (act ∷ behind)) leads) in
      let (d, its, rest) = leads_split c (desk_calls act) (history behind) b after in
      ap records is ∙ (records_append front (act ∷ behind) ∙ ap (λ (x : List (EpochRecord ℕ)). records front ++ x)
      (published_append (desk_calls act) (history behind) ∙ (ap (λ (x : List (EpochRecord ℕ)). published (desk_calls act) ++ x) (said_run empty_map behind d b says rest).2 ∙ append-nil (published (desk_calls act)))))
