-- A client's call in one turn: what it may rest on, and what it tells.
use Rattle.std.proofs.Common.{◌≡◌, ◌<◌, ℕ, suc, List, [], ◌∷◌, ◌++◌, Option, Some, None, refl, sym, ap, subst, ◌∙◌}
use Rattle.std.specs.List.{All, slice_get}
use Rattle.std.proofs.lemmas.List.Elements.{All-nil, All-cons}
use Rattle.std.proofs.lemmas.Option.{none-some, same_Some}
use Rattle.ob_desk.specs.Desk as desk
use Rattle.ob_desk.specs.Desk.{Call, Reply, DeskState, Setup, MayCall, DeskStep}
use Rattle.ob_desk.specs.declared.calls.Txn.{Txn}
use Rattle.ob_session.specs.Steps as steps
use Rattle.ob_session.specs.Steps.{IsOwn}
use Rattle.ob_session.specs.Clients.{said_by}
use Rattle.ob_session.specs.Agreeing.{Agrees}
use Rattle.ob_turn.specs.declared.turn.Entry.{Entry}
use Rattle.ob_turn.specs.declared.bell.Heard.{Heard}
use Rattle.ob_turn.specs.History.{entries_of, IsAt}
use Rattle.atomic_table.specs.declared.shared.Seat.{Seat}
use Rattle.ob_hall.specs.Turns.{client_numbers, IsBy, IsTurn}
use Rattle.ob_hall.specs.Passes.{Steps, Hall, Pass, opening_of, pass_place, history_of, entries_by, calls_in, said_of, IsPassOf, IsEarOf, EntersTurn, LeavesTurn}
use Rattle.ob_hall.specs.Calling.{IsReady, IsBetween, IsIn, TellsCalls}
use Rattle.ob_session.proofs.Numbers.{numbers_run}
use Rattle.ob_hall.proofs.Numbers.{setup_run}
use Rattle.ob_hall.proofs.Histories.{history_leads}
use Rattle.ob_hall.proofs.Agreeing.{agrees}
use Rattle.ob_session.proofs.Between.{may_begin, may_sign_off}
use Rattle.ob_hall.proofs.Allowed.{last_is, is_free, not_asked}
use Rattle.ob_hall.proofs.Making.{entered_legal, one_note, one_turn, still_own}

-- one call is a chain
pub one_step : (d : DeskState) (call : Call) (reply : Reply) (new : DeskState) → MayCall d call → DeskStep d call reply new → steps.Leads d ((call, reply) ∷ []) new
one_step d call reply new may step = (new, may, step, refl)

pub one_own : (number : ℕ) (s : Call × Reply) → IsOwn number s → All (IsOwn number) (s ∷ [])
one_own number s own = All-cons (IsOwn number) s [] own (All-nil (IsOwn number))

pub none_own : (number : ℕ) → All (IsOwn number) []
none_own number = All-nil (IsOwn number)

module _ (hall : Hall) (before mid : Pass) (d : DeskState) (ready : IsReady hall before) (entered : EntersTurn hall before mid d) where
  -- it still is one of this hall
  pub mid_own : IsPassOf hall mid
  mid_own = record {
    seat = entered.enters.same.table ∙ ready.own.seat;
    ear = subst (λ (ear : Seat (Unit {0}) Heard). IsEarOf hall ear) (sym entered.beside.ear) ready.own.ear;
    opening = (λ i. (entered.enters.knows i).opening) ∙ ready.own.opening;
    opens = ready.own.opens;
    own = entered.enters.own;
    one_part = (λ i. (entered.enters.knows i).parts) ∙ ready.own.one_part;
  }

  place_is : pass_place mid ≡ suc ready.clients.at
  place_is = (λ i. (entered.enters.knows i).by) ∙ ready.clients.place

  chain : steps.Leads (opening_of hall) (calls_in (history_of mid)) d
  chain = history_leads (opening_of hall) (history_of mid) d (entered_legal hall before mid d ready.own entered)

  pub setup_is : d.setup ≡ (opening_of hall).setup
  unfolding chain
  setup_is = setup_run (opening_of hall) (calls_in (history_of mid)) d chain

  -- The desk agrees with what the client was told.
  pub desk_agrees : Agrees d before.client (said_of before)
  unfolding place_is
  desk_agrees =
      let mine : entries_of (suc ready.clients.at) (history_of mid) ≡ entries_by before =
      ap (λ (n : ℕ). entries_of n (history_of mid)) (sym place_is) ∙ (entered.enters.own ∙ (λ i. (entered.enters.knows i).mine)) in
      subst (λ (es : List (Entry Steps)). Agrees d before.client (said_by before.client (calls_in es))) mine
      (agrees (opening_of hall) d (history_of mid) ready.clients.at before.client ready.own.opens (entered_legal hall before mid d ready.own entered) ready.clients.named)

  -- Its calls are its own.
  pub are_by : (calls : Steps) → All (IsOwn before.client) calls → IsBy (pass_place mid) d calls
  unfolding place_is chain
  are_by calls own =
      let same : client_numbers d ≡ client_numbers (opening_of hall) = numbers_run (opening_of hall) (calls_in (history_of mid)) d chain in
      subst (λ (n : ℕ). IsBy n d calls) (sym place_is)
      (before.client, subst (λ (ns : List ℕ). slice_get ns ready.clients.at ≡ Some before.client) (sym same) ready.clients.named, own)

  -- ---- the calls that it may make

  pub begin_allowed : IsBetween before → MayCall d (desk.Begin before.client)
  begin_allowed between = may_begin d before.client (said_of before) desk_agrees between.here between.over

  pub sign_off_allowed : IsBetween before → MayCall d (desk.SignOff before.client)
  sign_off_allowed between = may_sign_off d before.client (said_of before) desk_agrees between.here between.over

  pub write_allowed : (x : Txn) (key : ℕ) (value : Option (List ℕ)) → IsIn before x → key < (opening_of hall).setup.params.keys → MayCall d (desk.Write x key value)
  write_allowed x key value i below = (
    last_is d before.client (said_of before) x i.told desk_agrees i.last i.named i.client,
    is_free d before.client (said_of before) x i.told desk_agrees i.last i.named i.open_is,
    subst (λ (s : Setup). key < s.params.keys) (sym setup_is) below,
  )

  pub get_allowed : (x : Txn) (key : ℕ) → IsIn before x → key < (opening_of hall).setup.params.keys → MayCall d (desk.GetKey x key)
  get_allowed x key i below = write_allowed x key None i below

  pub commit_allowed : (x : Txn) → IsIn before x → MayCall d (desk.Commit x)
  commit_allowed x i = (
    last_is d before.client (said_of before) x i.told desk_agrees i.last i.named i.client,
    is_free d before.client (said_of before) x i.told desk_agrees i.last i.named i.open_is,
  )

  pub abort_allowed : (x : Txn) → IsIn before x → MayCall d (desk.Abort x)
  abort_allowed x i = ((commit_allowed x i).0, not_asked d x (commit_allowed x i).1)

  -- ---- the end of the turn

  pub may_leave : (new : DeskState) (calls : Steps) → steps.Leads d calls new → All (IsOwn before.client) calls → IsAt IsTurn mid.seat.me.0 (mid.seat.me.0.noted ++ calls ∷ []) new
  may_leave new calls led own = one_note hall before mid d new calls entered led (are_by calls own)

  pub tells : (after : Pass) (new : DeskState) (calls : Steps) (Says : Steps → Type 0) → steps.Leads d calls new → All (IsOwn before.client) calls → LeavesTurn mid after calls → Says calls → TellsCalls hall before after Says
  tells after new calls Says led own l says = record { calls = calls; says = says; made = one_turn hall before mid after d new calls ready.own entered led (are_by calls own) l }

  -- The turn noted one call.
  pub leave_one : (new : DeskState) (note : Steps) (call : Call) (reply : Reply) → note ≡ (call, reply) ∷ [] → MayCall d call → DeskStep d call reply new → IsOwn before.client (call, reply) → IsAt IsTurn mid.seat.me.0 (mid.seat.me.0.noted ++ note ∷ []) new
  leave_one new note call reply is may step own =
      may_leave new note (subst (λ (l : Steps). steps.Leads d l new) (sym is) (one_step d call reply new may step)) (subst (All (IsOwn before.client)) (sym is) (one_own before.client (call, reply) own))

  pub tells_one : (after : Pass) (new : DeskState) (note : Steps) (call : Call) (reply : Reply) (Says : Steps → Type 0) → note ≡ (call, reply) ∷ [] → MayCall d call → DeskStep d call reply new → IsOwn before.client (call, reply)
      → LeavesTurn mid after note → Says ((call, reply) ∷ []) → TellsCalls hall before after Says
  tells_one after new note call reply Says is may step own l says =
      tells after new note Says (subst (λ (l : Steps). steps.Leads d l new) (sym is) (one_step d call reply new may step)) (subst (All (IsOwn before.client)) (sym is) (one_own before.client (call, reply) own)) l (subst Says (sym is) says)

  -- It noted none: memory was wanting.
  pub leave_none : (new : DeskState) (note : Steps) → note ≡ [] → new ≡ d → IsAt IsTurn mid.seat.me.0 (mid.seat.me.0.noted ++ note ∷ []) new
  leave_none new note is same = may_leave new note (subst (λ (l : Steps). steps.Leads d l new) (sym is) same) (subst (All (IsOwn before.client)) (sym is) (none_own before.client))

  pub tells_none : (after : Pass) (new : DeskState) (note : Steps) (Says : Steps → Type 0) → note ≡ [] → new ≡ d → LeavesTurn mid after note → Says [] → TellsCalls hall before after Says
  tells_none after new note Says is same l says =
      tells after new note Says (subst (λ (l : Steps). steps.Leads d l new) (sym is) same) (subst (All (IsOwn before.client)) (sym is) (none_own before.client)) l (subst Says (sym is) says)

  pub ready_after : (after : Pass) (calls : Steps) → LeavesTurn mid after calls → IsReady hall after
  ready_after after calls l = record {
    own = still_own hall before mid after d calls ready.own entered l;
    idle = record {
      stage = λ i. (l.ends.knows i).0.stage;
      some_part = subst (λ (n : ℕ). 0 < n) (sym ((λ i. (l.ends.knows i).0.parts) ∙ (λ i. (entered.enters.knows i).parts))) ready.idle.some_part;
      empty = λ i. (l.ends.knows i).1;
    };
    clients = record {
      at = ready.clients.at;
      place = (λ i. (l.ends.knows i).0.by) ∙ ((λ i. (entered.enters.knows i).by) ∙ ready.clients.place);
      named = ready.clients.named ∙ ap (λ (n : ℕ). Some n) (sym (l.beside.client ∙ entered.beside.client));
    };
  }

-- The transaction that the pass keeps is the one that its client is in.
pub is_in : (before : Pass) (txn : Txn) → before.last ≡ Some txn → ((x : Txn) × IsIn before x) → IsIn before txn
is_in before txn kept inside = subst (IsIn before) (same_Some inside.0 txn (sym inside.1.kept ∙ kept)) inside.1

pub not_none : (before : Pass) → before.last ≡ None → ((x : Txn) × IsIn before x) → ⊥
not_none before none inside = none-some inside.0 (sym none ∙ inside.1.kept)

-- So what is said of the one is said of the other.
pub of_any : (before : Pass) (txn : Txn) (P : Txn → Type 0) → before.last ≡ Some txn → P txn → (x : Txn) → IsIn before x → P x
of_any before txn P kept p x i = subst P (same_Some txn x (sym kept ∙ i.kept)) p

-- Another transaction is kept as the last one.
pub tells_last : (hall : Hall) (before after : Pass) (last : Option Txn) (Says : Steps → Type 0) → TellsCalls hall before after Says → TellsCalls hall before (record after { last = last }) Says
tells_last hall before after last Says t = record {
  calls = t.calls;
  says = t.says;
  made = record { goes_on = t.made.goes_on; legal = t.made.legal; new = t.made.new; made = t.made.made; calls_are = t.made.calls_are; own = t.made.own; last = t.made.last; place = t.made.place; client = t.made.client };
}

pub ready_last : (hall : Hall) (after : Pass) (last : Option Txn) → IsReady hall after → IsReady hall (record after { last = last })
ready_last hall after last r = record {
  own = record { seat = r.own.seat; ear = r.own.ear; opening = r.own.opening; opens = r.own.opens; own = r.own.own; one_part = r.own.one_part };
  idle = r.idle;
  clients = record { at = r.clients.at; place = r.clients.place; named = r.clients.named };
}
