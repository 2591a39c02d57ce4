-- Each epoch that a run publishes ends well.
use Rattle.std.proofs.Common.{◌∙◌, ◌++◌, ℕ, List, [], ◌∷◌, Option, Some, None, sym, subst, refl, ap}
use Rattle.std.specs.List.{All}
use Rattle.std.proofs.lemmas.Option.{none-some}
use Rattle.std.proofs.lemmas.List.Elements.{All-head, All-tail}
use Rattle.ob_serial.specs.Serial.{EpochRecord}
use Rattle.ob_desk.specs.Desk.{DeskState, MayOpen, Call, Reply, Setup}
use Rattle.ob_desk.specs.declared.calls.Look.{Look}
use Rattle.ob_desk.specs.Beats.{BeatKind}
use Rattle.ob_session.specs.Steps.{Leads}
use Rattle.ob_conduct.specs.Acts.{Act, Says, Halts, Rests, Takes, Delivers, DeliverFails, FetchFails, RestUnwatched, Closes, Publishes, Refuses, Unprinted, Unwatched, desk_calls, history, IsAllowed}
use Rattle.ob_outcomes.proofs.Walk.{leads_split, leads_on, NotClose, closed_before, act_closes_none}
use Rattle.ob_outcomes.proofs.EndsWell.{EndsWell, AreWell, EndsAtLook, base, closes_well}

module _ (setup : Setup) (epoch left : ℕ) (clients : List ℕ) (may : MayOpen setup epoch left clients) (beat : BeatKind) where
  -- what an act leaves, and what follows it
  record Behind (h : List (Call × Reply)) (d : DeskState) (act : Act) (acts : List Act) (new : DeskState) : Type 0 where
    pub mid : DeskState
    pub first : Leads d (desk_calls act) mid
    pub reached : Leads (base setup epoch left clients may beat) (h ++ desk_calls act) mid
    pub rest : Leads mid (history acts) new

  behind : (h : List (Call × Reply)) (d : DeskState) (act : Act) (acts : List Act) (new : DeskState) → Leads (base setup epoch left clients may beat) h d → Leads d (history (act ∷ acts)) new → Behind h d act acts new
  behind h d act acts new reached run =
      let (mid, first, rest) = leads_split d (desk_calls act) (history acts) new run in
      record { mid = mid; first = first; reached = leads_on (base setup epoch left clients may beat) h (desk_calls act) d mid reached first; rest = rest }

  keeps : (closed : Option Look) (act : Act) (d mid : DeskState) → All NotClose (desk_calls act) → Leads d (desk_calls act) mid → EndsAtLook beat closed d → EndsAtLook beat closed mid
  keeps closed act d mid other first known part is = known part (closed_before d (desk_calls act) mid first other part is)

  well_from : (h : List (Call × Reply)) (d : DeskState) (closed : Option Look) → Leads (base setup epoch left clients may beat) h d → EndsAtLook beat closed d → (acts : List Act) → All (IsAllowed beat) acts → (new : DeskState) → Leads d (history acts) new → AreWell beat closed acts
  well_from h d closed reached known [] allowed new run = tt
  well_from h d closed reached known (Closes look batches writes ∷ acts) allowed new run =
      let b = behind h d (Closes look batches writes) acts new reached run in
      let (act, to_end) = All-head (IsAllowed beat) (Closes look batches writes) acts allowed in
      well_from (h ++ desk_calls (Closes look batches writes)) b.mid (Some look) b.reached (closes_well setup epoch left clients may beat h d reached look batches writes b.mid act to_end b.first) acts (All-tail (IsAllowed beat) (Closes look batches writes) acts allowed) new b.rest
  well_from h d closed reached known (Publishes writes left_now told ∷ acts) allowed new run =
      let b = behind h d (Publishes writes left_now told) acts new reached run in
      let (last, may_publish, publishes, is) = b.first in
      let (look, at, well) = known publishes.part publishes.is_closed in (
        look,
        at,
        subst (λ (r : EpochRecord ℕ). EndsWell beat look r) (sym publishes.record_is) well,
        well_from (h ++ desk_calls (Publishes writes left_now told)) b.mid None b.reached (λ part shut. absurd (none-some part (sym (ap (λ (x : DeskState). x.closed) (is ∙ publishes.state)) ∙ shut))) acts (All-tail (IsAllowed beat) (Publishes writes left_now told) acts allowed) new b.rest,
      )
  well_from h d closed reached known (Says client steps ∷ acts) allowed new run =
      let b = behind h d (Says client steps) acts new reached run in
      well_from (h ++ desk_calls (Says client steps)) b.mid closed b.reached (keeps closed (Says client steps) d b.mid (act_closes_none beat (Says client steps) (All-head (IsAllowed beat) (Says client steps) acts allowed) tt) b.first known) acts
      (All-tail (IsAllowed beat) (Says client steps) acts allowed) new b.rest
  well_from h d closed reached known (Halts fault ∷ acts) allowed new run =
      let b = behind h d (Halts fault) acts new reached run in
      well_from (h ++ desk_calls (Halts fault)) b.mid closed b.reached (keeps closed (Halts fault) d b.mid (act_closes_none beat (Halts fault) (All-head (IsAllowed beat) (Halts fault) acts allowed) tt) b.first known) acts (All-tail (IsAllowed beat) (Halts fault) acts allowed) new b.rest
  well_from h d closed reached known (Rests look ∷ acts) allowed new run =
      let b = behind h d (Rests look) acts new reached run in
      well_from (h ++ desk_calls (Rests look)) b.mid closed b.reached (keeps closed (Rests look) d b.mid (act_closes_none beat (Rests look) (All-head (IsAllowed beat) (Rests look) acts allowed) tt) b.first known) acts (All-tail (IsAllowed beat) (Rests look) acts allowed) new b.rest
  well_from h d closed reached known (Takes look keys ∷ acts) allowed new run =
      let b = behind h d (Takes look keys) acts new reached run in
      well_from (h ++ desk_calls (Takes look keys)) b.mid closed b.reached (keeps closed (Takes look keys) d b.mid (act_closes_none beat (Takes look keys) (All-head (IsAllowed beat) (Takes look keys) acts allowed) tt) b.first known) acts
      (All-tail (IsAllowed beat) (Takes look keys) acts allowed) new b.rest
  well_from h d closed reached known (Delivers batch ∷ acts) allowed new run =
      let b = behind h d (Delivers batch) acts new reached run in
      well_from (h ++ desk_calls (Delivers batch)) b.mid closed b.reached (keeps closed (Delivers batch) d b.mid (act_closes_none beat (Delivers batch) (All-head (IsAllowed beat) (Delivers batch) acts allowed) tt) b.first known) acts
      (All-tail (IsAllowed beat) (Delivers batch) acts allowed) new b.rest
  well_from h d closed reached known (DeliverFails keys fault ∷ acts) allowed new run =
      let b = behind h d (DeliverFails keys fault) acts new reached run in
      well_from (h ++ desk_calls (DeliverFails keys fault)) b.mid closed b.reached
      (keeps closed (DeliverFails keys fault) d b.mid (act_closes_none beat (DeliverFails keys fault) (All-head (IsAllowed beat) (DeliverFails keys fault) acts allowed) tt) b.first known) acts (All-tail (IsAllowed beat) (DeliverFails keys fault) acts allowed) new b.rest
  well_from h d closed reached known (FetchFails look batches keys fault ∷ acts) allowed new run =
      let b = behind h d (FetchFails look batches keys fault) acts new reached run in
      well_from (h ++ desk_calls (FetchFails look batches keys fault)) b.mid closed b.reached
      (keeps closed (FetchFails look batches keys fault) d b.mid (act_closes_none beat (FetchFails look batches keys fault) (All-head (IsAllowed beat) (FetchFails look batches keys fault) acts allowed) tt) b.first known) acts
      (All-tail (IsAllowed beat) (FetchFails look batches keys fault) acts allowed) new b.rest
  well_from h d closed reached known (RestUnwatched look batches ∷ acts) allowed new run =
      let b = behind h d (RestUnwatched look batches) acts new reached run in
      well_from (h ++ desk_calls (RestUnwatched look batches)) b.mid closed b.reached
      (keeps closed (RestUnwatched look batches) d b.mid (act_closes_none beat (RestUnwatched look batches) (All-head (IsAllowed beat) (RestUnwatched look batches) acts allowed) tt) b.first known) acts
      (All-tail (IsAllowed beat) (RestUnwatched look batches) acts allowed) new b.rest
  well_from h d closed reached known (Refuses writes refused ∷ acts) allowed new run =
      let b = behind h d (Refuses writes refused) acts new reached run in
      well_from (h ++ desk_calls (Refuses writes refused)) b.mid closed b.reached (keeps closed (Refuses writes refused) d b.mid (act_closes_none beat (Refuses writes refused) (All-head (IsAllowed beat) (Refuses writes refused) acts allowed) tt) b.first known)
      acts (All-tail (IsAllowed beat) (Refuses writes refused) acts allowed) new b.rest
  well_from h d closed reached known (Unprinted ∷ acts) allowed new run =
      let b = behind h d Unprinted acts new reached run in
      well_from (h ++ desk_calls Unprinted) b.mid closed b.reached (keeps closed Unprinted d b.mid (act_closes_none beat Unprinted (All-head (IsAllowed beat) Unprinted acts allowed) tt) b.first known) acts (All-tail (IsAllowed beat) Unprinted acts allowed) new b.rest
  well_from h d closed reached known (Unwatched ∷ acts) allowed new run =
      let b = behind h d Unwatched acts new reached run in
      well_from (h ++ desk_calls Unwatched) b.mid closed b.reached (keeps closed Unwatched d b.mid (act_closes_none beat Unwatched (All-head (IsAllowed beat) Unwatched acts allowed) tt) b.first known) acts (All-tail (IsAllowed beat) Unwatched acts allowed) new b.rest

  pub all_well : (acts : List Act) → All (IsAllowed beat) acts → (new : DeskState) → Leads (base setup epoch left clients may beat) (history acts) new → AreWell beat None acts
  all_well acts allowed new run = well_from [] (base setup epoch left clients may beat) None refl (λ part is. absurd (none-some part is)) acts allowed new run
