-- The epoch that is closed behind a front of the acts, and whose end was refused or left in doubt.
use Rattle.std.proofs.Common.{◌≡◌, ◌∙◌, ◌⊎◌, ◌+◌, ℕ, All, List, [], ◌∷◌, ◌++◌, length, Option, None, Some, Err, refl, sym, ap, ap₂, subst, inl, inr, append-nil, append_assoc}
use Rattle.std.proofs.lemmas.List.Elements.{All-head, All-tail}
use Rattle.std.proofs.lemmas.Option.{none-some, same_Some}
use Rattle.ob_store.specs.declared.watch.Note.{Note}
use Rattle.ob_store.specs.Lines.{Trace}
use Rattle.ob_serial.specs.Serial.{EpochRecord}
use Rattle.ob_serial.specs.Vaults.{VaultCall, VaultAnswer, End}
use Rattle.ob_serial.specs.VaultViews.{IsEndFault, end_answer}
use Rattle.ob_serial.specs.VaultKinds.{Kind}
use Rattle.ob_serial.specs.declared.vault.EndErr.{EndErr}
use Rattle.ob_desk.specs.Desk.{DeskState, closing, record_of, published}
use Rattle.ob_desk.specs.declared.calls.Look.{Look}
use Rattle.ob_session.specs.Steps.{Leads}
use Rattle.ob_session.proofs.Saying.{leads_join}
use Rattle.ob_turn.specs.declared.turn.Entry.{Entry}
use Rattle.ob_turn.specs.History.{LeadsByTurns}
use Rattle.ob_hall.specs.Turns.{client_numbers, IsTurn}
use Rattle.ob_hall.specs.Passes.{Steps, IsNew}
use Rattle.ob_hall.proofs.Staying.{own_closed}
use Rattle.ob_conduct.specs.Acts.{Act, Batch, Says, Halts, Rests, Takes, Delivers, DeliverFails, FetchFails, RestUnwatched, Closes, Publishes, Refuses, Unprinted, Unwatched, history, calls, records, desk_calls, look_calls, rest_calls, close_calls}
use Rattle.ob_conduct.specs.Scenes.{scene, AllNoted}
use Rattle.ob_conduct.specs.Ready.{IsDueRecord}
use Rattle.ob_conduct.specs.Moves.{IsSaid, IsUnended}
use Rattle.ob_conduct.proofs.Behind.{leads_split, tells_before}
use Rattle.ob_conduct.proofs.Moving.{called, all_shown}
use Rattle.ob_conduct.proofs.Going.{history_append, calls_append as vault_append, records_append, published_append}
use Rattle.ob_driver.specs.Resting.{IsMild}
use Rattle.ob_driver.specs.Turning.{IsOneTurn}
use Rattle.ob_driver.proofs.Dues.{due_closed}
use Rattle.ob_run.specs.Woven.{AreWoven}
use Rattle.ob_run.proofs.Chains.{noted_split}
use Rattle.ob_run.proofs.MapServing.{Serves, Writes, next_due, due_behind, AreEnded}
use Rattle.ob_run.proofs.Entries.{serves}
use Rattle.ob_run.proofs.Stops.{was_calm, told_so_far}
use Rattle.ob_run.proofs.Cutting.{lone_turn}

-- ---- the driver's turn that closed it

-- These acts end with a close that told these writes.
pub record EndsClosed (acts : List Act) (writes : List (ℕ × Option (List ℕ))) : Type 0 where
  pub init : List Act
  pub look : Look
  pub batches : List Batch
  pub are : acts ≡ init ++ Closes look batches writes ∷ []

-- so it is where these are due
abbrev DueFrom : Option Writes → List Act → Writes → Type 0
DueFrom due acts writes = ((acts ≡ []) × (due ≡ Some writes)) ⊎ EndsClosed acts writes

due_closes : (act : Act) (acts : List Act) (writes : Writes) → acts ≡ [] → next_due act ≡ Some writes → EndsClosed (act ∷ acts) writes
due_closes (Closes look batches ws) acts writes none is =
    let same : ws ≡ writes = same_Some ws writes is in
    record { init = []; look = look; batches = batches; are = ap₂ (λ (zs : Writes) (xs : List Act). Closes look batches zs ∷ xs) same none }
due_closes (Says client steps) acts writes none is = absurd (none-some writes is)
due_closes (Halts fault) acts writes none is = absurd (none-some writes is)
due_closes (Rests look) acts writes none is = absurd (none-some writes is)
due_closes (Takes look keys) acts writes none is = absurd (none-some writes is)
due_closes (Delivers batch) acts writes none is = absurd (none-some writes is)
due_closes (DeliverFails keys fault) acts writes none is = absurd (none-some writes is)
due_closes (FetchFails look batches keys fault) acts writes none is = absurd (none-some writes is)
due_closes (RestUnwatched look batches) acts writes none is = absurd (none-some writes is)
due_closes (Publishes ended left told) acts writes none is = absurd (none-some writes is)
due_closes (Refuses asked refused) acts writes none is = absurd (none-some writes is)
due_closes Unprinted acts writes none is = absurd (none-some writes is)
due_closes Unwatched acts writes none is = absurd (none-some writes is)

due_from : (due : Option Writes) (acts : List Act) (writes : Writes) → due_behind due acts ≡ Some writes → DueFrom due acts writes
due_from due [] writes is = inl (refl, is)
due_from due (act ∷ acts) writes is = by (due_from (next_due act) acts writes is)
  where
    by : DueFrom (next_due act) acts writes → DueFrom due (act ∷ acts) writes
    by (inl (none, here)) = inr (due_closes act acts writes none here)
    by (inr e) = inr (record { init = act ∷ e.init; look = e.look; batches = e.batches; are = ap (λ (xs : List Act). act ∷ xs) e.are })

pub closed_before : (acts : List Act) (writes : Writes) → due_behind None acts ≡ Some writes → EndsClosed acts writes
closed_before acts writes is = by (due_from None acts writes is)
  where
    by : DueFrom None acts writes → EndsClosed acts writes
    by (inl (none, due)) = absurd (none-some writes due)
    by (inr e) = e

-- a turn that ends with a close is nothing else
pub closes_turn : (these : List Act) (look : Look) (batches : List Batch) (writes : Writes) → IsOneTurn these → ((zs : List Act) (z : Act) → these ≡ zs ++ z ∷ [] → z ≡ Closes look batches writes) → these ≡ Closes look batches writes ∷ []
closes_turn [] look batches writes one ends = absurd one
closes_turn (z ∷ []) look batches writes one ends = ap (λ (y : Act). y ∷ []) (ends [] z refl)
closes_turn (z ∷ x ∷ xs) look batches writes one ends = absurd (lone_turn z x xs one)

-- clients' turns leave it closed
said_closed : (acts : List Act) (d new : DeskState) → All IsSaid acts → Leads d (history acts) new → new.closed ≡ d.closed
said_closed [] d new said leads = ap (λ (x : DeskState). x.closed) leads
said_closed (act ∷ acts) d new said leads =
    let (mid, first, rest) = leads_split d (desk_calls act) (history acts) new leads in
    said_closed acts mid new (All-tail IsSaid act acts said) rest ∙ one act (All-head IsSaid act acts said) d mid first
  where
    one : (x : Act) → IsSaid x → (a b : DeskState) → Leads a (desk_calls x) b → b.closed ≡ a.closed
    one (Says client steps) own a b its = own_closed client a steps b its own
    one (Halts fault) own a b its = absurd own
    one (Rests look) own a b its = absurd own
    one (Takes look keys) own a b its = absurd own
    one (Delivers batch) own a b its = absurd own
    one (DeliverFails keys fault) own a b its = absurd own
    one (FetchFails look batches keys fault) own a b its = absurd own
    one (RestUnwatched look batches) own a b its = absurd own
    one (Closes look batches writes) own a b its = absurd own
    one (Publishes ended left told) own a b its = absurd own
    one (Refuses asked refused) own a b its = absurd own
    one Unprinted own a b its = absurd own
    one Unwatched own a b its = absurd own

-- the calls before the close, the close, and what was told by them
module _ (front : List Act) (look : Look) (batches : List Batch) (writes : List (ℕ × Option (List ℕ))) where
  abbrev before_close : Steps
  before_close = history front ++ (look_calls look ++ rest_calls batches)

  front_is : history (front ++ Closes look batches writes ∷ []) ≡ history front ++ desk_calls (Closes look batches writes)
  front_is = history_append front (Closes look batches writes ∷ []) ∙ ap (λ (s : Steps). history front ++ s) (append-nil (desk_calls (Closes look batches writes)))

  told_is : records (front ++ Closes look batches writes ∷ []) ≡ published (history front ++ (look_calls look ++ rest_calls batches))
  told_is =
      ap published (front_is ∙ (ap (λ (s : Steps). history front ++ s) (sym (append_assoc (look_calls look) (rest_calls batches) (close_calls writes))) ∙ sym (append_assoc (history front) (look_calls look ++ rest_calls batches) (close_calls writes))))
      ∙ (published_append (history front ++ (look_calls look ++ rest_calls batches)) (close_calls writes) ∙ append-nil (published (history front ++ (look_calls look ++ rest_calls batches))))

-- ---- where it was closed in a turn before, behind which clients had theirs

-- Among these acts is the close, and clients' turns alone stand behind it.
pub record IsShut (front : List Act) (writes : List (ℕ × Option (List ℕ))) : Type 0 where
  pub first : List Act
  pub look : Look
  pub batches : List Batch
  pub behind : List Act
  pub front_is : front ≡ first ++ Closes look batches writes ∷ behind
  pub said : All IsSaid behind

module _ {V : Type 0} (k : Kind V) (opened x : DeskState) (before : List (Entry Steps)) (earlier front : List Act) (old new : V) (trace after : Trace) (notes : List Note) (asked : List (ℕ × Option (List ℕ))) (refused : EndErr) where
  pub unended : IsNew opened → LeadsByTurns IsTurn opened before x → AreWoven (client_numbers opened) before earlier front → AreEnded None earlier → Leads opened (history front) x
      → AllNoted k old trace (calls (earlier ++ Refuses asked refused ∷ [])) notes new after → calls front ≡ calls earlier
      → IsShut front asked → (next : ℕ) → next ≡ opened.running.epoch + length (records front) → IsEndFault next refused
      → IsUnended k (scene opened old trace) front asked refused
  unended fresh legal woven kept leads chain front_calls s next next_is is_fault =
      let (x0, firsts, more) = leads_split opened (history s.first) (history (Closes s.look s.batches asked ∷ s.behind)) x (subst (λ (h : Steps). Leads opened h x) (ap history s.front_is ∙ history_append s.first (Closes s.look s.batches asked ∷ s.behind)) leads) in
      let (y0, shuts, later) = leads_split x0 (desk_calls (Closes s.look s.batches asked)) (history s.behind) x more in
      let (at, looked, closes) = leads_split x0 (look_calls s.look ++ rest_calls s.batches) (close_calls asked) y0 (subst (λ (h : Steps). Leads x0 h y0) (sym (append_assoc (look_calls s.look) (rest_calls s.batches) (close_calls asked))) shuts) in
      let (there, may, e, is_there) = closes in
      let up_to : Leads opened (history s.first ++ (look_calls s.look ++ rest_calls s.batches)) at = leads_join opened (history s.first) x0 (look_calls s.look ++ rest_calls s.batches) at firsts looked in
      let mild : All IsMild (history s.first ++ (look_calls s.look ++ rest_calls s.batches)) = (was_calm opened (history s.first ++ (look_calls s.look ++ rest_calls s.batches)) at up_to may.3).1 in
      let told : records front ≡ published (history s.first ++ (look_calls s.look ++ rest_calls s.batches)) =
      tells_before front s.first (Closes s.look s.batches asked) s.behind s.front_is s.said opened x leads
      ∙ (ap (λ (h : Steps). records s.first ++ published h) (sym (append-nil (desk_calls (Closes s.look s.batches asked))))
      ∙ (sym (records_append s.first (Closes s.look s.batches asked ∷ [])) ∙ told_is s.first s.look s.batches asked)) in
      let epoch : at.running.epoch ≡ opened.running.epoch + length (records front) =
      told_so_far opened (history s.first ++ (look_calls s.look ++ rest_calls s.batches)) at up_to mild (ap (λ (d : DeskState). d.closed) fresh.is) may.0 ∙ ap (λ (rs : List (EpochRecord ℕ)). opened.running.epoch + length rs) (sym told) in
      let due : IsDueRecord at.running.epoch asked (record_of (closing at.running)) = due_closed opened at there (history s.first ++ (look_calls s.look ++ rest_calls s.batches)) [] asked fresh mild up_to (there, may, e, refl) in
      let (v, between, begun, ended, early, last) = noted_split k old trace (calls earlier) ((End asked, end_answer (Err refused)) ∷ []) notes new after
      (subst (λ (xs : List (VaultCall × VaultAnswer)). AllNoted k old trace xs notes new after) (vault_append earlier (Refuses asked refused ∷ [])) chain) in
      record {
        mid = scene x v between;
        moves = record {
          leads = leads;
          notes = begun;
          chain = subst (λ (xs : List (VaultCall × VaultAnswer)). AllNoted k old trace xs begun v between) (sym front_calls) early;
          shown = all_shown k old trace (calls earlier) begun v between early;
          run = λ m held.
              let r : Serves k m opened (history front) x v = serves k (client_numbers opened) before opened x old v m earlier front None refl legal woven kept tt (called k old trace (calls earlier) begun v between early) held in
              (r.next, r.run, r.holds);
        };
        closed = closing at.running;
        is_closed = said_closed s.behind y0 x s.said later ∙ ap (λ (d : DeskState). d.closed) (is_there ∙ e.state);
        due = subst (λ (n : ℕ). IsDueRecord n asked (record_of (closing at.running))) epoch due;
        is_fault = subst (λ (n : ℕ). IsEndFault n refused) next_is is_fault;
      }
