-- What is said of acts, without one of its premises: for each a case that keeps all the others, and of which it isn't so.
use Rattle.std.specs.Prelude.{ℕ, ◌≡◌, true, false, All, List, [], ◌∷◌, Option, None, Some}
use Rattle.std.proofs.Common.{refl, sym, ap, subst, ◌∙◌, inl, inr, ⊎_elim, arith}
use Rattle.std.proofs.lemmas.Option.{none-some, same_Some}
use Rattle.std.proofs.lemmas.List.Elements.{All-nil, All-cons}
use Rattle.ob_base.specs.declared.fault.Fault.TheVariants.{SinkFault}
use Rattle.ob_store.specs.Disk.{silent}
use Rattle.ob_serial.specs.Vaults.{VaultCall, Fetch, VaultAnswer, Values, VaultState, VaultStep, IsAnswer, vault_next}
use Rattle.ob_serial.specs.VaultKinds.{Kind, Called, AllCalled}
use Rattle.ob_order.specs.Order.{after_take, after_deliver}
use Rattle.ob_desk.specs.Beats.{BeatKind}
use Rattle.ob_desk.specs.Desk.{DeskState, Begin, Commit, TakeBatch, Begun, Done, Batch, look_at, new_client, stopped_by, with_order}
use Rattle.ob_desk.specs.declared.calls.Look.{Look}
use Rattle.ob_desk.specs.declared.clients.Client.{Client}
use Rattle.ob_session.specs.Steps.{Leads, IsOwn}
use Rattle.ob_conduct.specs.Acts.{Act, Says, Delivers, RestUnwatched, IsAllowed, history, calls}
use Rattle.ob_conduct.specs.Rounds.{IsOneThing}
use Rattle.ob_driver.specs.Drives.{AreThings}
use Rattle.ob_run.specs.Threaded.{driven}
use Rattle.ob_world.specs.Drivers.{AtRest, HasFetched}
use Rattle.ob_world.specs.Laws.{AreActsFrom, IsWovenWorld}
use Rattle.ob_world.specs.Worlds.{World, opened_vault}
use Rattle.ob_world.proofs.Rows.{asked, at_zero, d0, d1, keys, pads, setup, small, values, x}

-- ---- vaults, in words of their own

-- a vault that is what it holds, over a store that tells nothing
abbrev pub plain : Kind VaultState
plain = record { holds = λ v u. v ≡ u; sound = λ v u. v ≡ u; stands = λ v image at. Unit {0}; disk = λ v. silent 0; called = λ old call answer notes new. VaultStep old call answer new }

-- one that can't be called, and one that may hold anything and answers what it likes
abbrev pub deaf : Kind VaultState
deaf = record plain { called = λ old call answer notes new. ⊥ }

abbrev pub loose : Kind VaultState
loose = record plain { holds = λ v u. ⊥; called = λ old call answer notes new. Unit {0} }

plain_called : (old new : VaultState) (call : VaultCall) (answer : VaultAnswer) → VaultStep old call answer new → Called plain old call answer new
plain_called old new call answer s = record {
  notes = [];
  called = s;
  answered = λ v is. subst (λ (u : VaultState). IsAnswer u.content call answer) is s.answered;
  holds = λ v is. s.state ∙ ap (λ u. vault_next u call answer) is;
  sound = λ v is. s.state ∙ ap (λ u. vault_next u call answer) is;
  images = λ v is. record { later = λ part. omega arith; each = λ c none. absurd none; before = λ t c le left. inl left; told = λ none. absurd none };
  alike = λ image at. (λ is. is, λ is. is);
  goes = record { anchors = refl; faults = omega arith; later = λ part. omega arith; kept = λ t c le left. left; told = λ t. t; leaves = (λ t. t, λ t. t); seen = tt };
}

abbrev pub eager : BeatKind
eager = record { passes = λ waiting live queued left. true; exact = false }

abbrev pub v0 : VaultState
v0 = opened_vault 1 at_zero 1

-- ---- acts that make no world

-- these acts are of that run, but for their order
pub things_are_wanted : (d : DeskState) → d ≡ record d0 { running = with_order d0.running (after_deliver d0.running.order keys values) }
    → AreActsFrom plain setup (1 ∷ []) v0 v0 (record v0 { left = 0 }) (Delivers (record { keys = keys; values = values }) ∷ []) d
    × (IsWovenWorld plain setup (1 ∷ []) v0 v0 (record v0 { left = 0 }) (Delivers (record { keys = keys; values = values }) ∷ []) d → ⊥)
things_are_wanted d is = (
  record {
    beat = eager;
    allowed = All-cons (IsAllowed eager) (Delivers (record { keys = keys; values = values })) [] tt (All-nil (IsAllowed eager));
    leads = (record d0 { running = with_order d0.running (after_deliver d0.running.order keys values) }, (refl, refl, refl), record { state = refl }, is);
    chain = (record v0 { left = 0 }, plain_called v0 (record v0 { left = 0 }) (Fetch keys) (Values values) (record { serves = refl; answered = record { whole = refl; asked = asked; pads = pads }; state = refl }), refl);
    holds = refl;
    fresh = refl;
  },
  λ w. (let e : AtRest ≡ HasFetched keys values = w.leads.1.moves.was in cc),
)

-- a client makes one of the driver's calls
abbrev pub taken_by_client : List Act
taken_by_client = Says 1 ((TakeBatch, Batch keys) ∷ []) ∷ []

abbrev pub d_taken : DeskState
d_taken = record d0 { running = with_order d0.running (after_take small d0.running.order) }

none_driven : AreThings []
none_driven = record { things = []; acts_are = refl; each = All-nil IsOneThing }

pub own_calls_are_wanted : Leads d0 (history taken_by_client) d_taken × AllCalled plain v0 (calls taken_by_client) v0 × AreThings (driven taken_by_client) × (IsWovenWorld plain setup (1 ∷ []) v0 v0 v0 taken_by_client d_taken → ⊥)
own_calls_are_wanted = (
  (d_taken, (refl, omega arith, refl), record { taken = refl; state = refl }, refl),
  refl,
  none_driven,
  λ w. ⊎_elim (λ driver. (let e : 1 ≡ 0 = driver.0 in cc)) (λ own. own) w.leads.1.own,
)

-- a client's own call, that it may not make
abbrev pub early_commit : List Act
early_commit = Says 1 ((Commit x, Done) ∷ []) ∷ []

pub permission_is_wanted : (d : DeskState) → All (IsAllowed eager) early_commit × AllCalled plain v0 (calls early_commit) v0 × AreThings (driven early_commit) × (IsWovenWorld plain setup (1 ∷ []) v0 v0 v0 early_commit d → ⊥)
permission_is_wanted d = (
  All-cons (IsAllowed eager) (Says 1 ((Commit x, Done) ∷ [])) [] (All-cons (IsOwn 1) (Commit x, Done) [] refl (All-nil (IsOwn 1))) (All-nil (IsAllowed eager)),
  refl,
  none_driven,
  λ w.
      let is : new_client 1 ≡ w.leads.1.may.0.client = same_Some (new_client 1) w.leads.1.may.0.client w.leads.1.may.0.found in
      none-some x (ap (λ (c : Client). c.last) is ∙ w.leads.1.may.0.last),
)

-- A batch is read to end the epoch, behind which the driver stops.
abbrev pub seen : Look
seen = look_at d1

abbrev pub stopped : List (Option (List ℕ)) → List Act
stopped out = Says 1 ((Begin 1, Begun x) ∷ []) ∷ RestUnwatched seen (record { keys = keys; values = out } ∷ []) ∷ []

abbrev pub t2 : DeskState
t2 = record d1 { running = with_order d1.running (after_take small d1.running.order) }

abbrev pub t3 : List (Option (List ℕ)) → DeskState
t3 out = record t2 { running = with_order t2.running (after_deliver t2.running.order keys out) }

pub stopped_allowed : (out : List (Option (List ℕ))) → All (IsAllowed eager) (stopped out)
stopped_allowed out = All-cons (IsAllowed eager) (Says 1 ((Begin 1, Begun x) ∷ [])) (RestUnwatched seen (record { keys = keys; values = out } ∷ []) ∷ []) (All-cons (IsOwn 1) (Begin 1, Begun x) [] refl (All-nil (IsOwn 1)))
    (All-cons (IsAllowed eager) (RestUnwatched seen (record { keys = keys; values = out } ∷ [])) [] (inr refl, (inl refl, omega arith)) (All-nil (IsAllowed eager)))

pub stopped_leads : (a b : Option (List ℕ)) → Leads d0 (history (stopped (a ∷ b ∷ []))) (stopped_by SinkFault (t3 (a ∷ b ∷ [])))
stopped_leads a b = (
  d1,
  (record { client = new_client 1; found = refl; not_signed_off = refl }, λ c y found last. absurd (none-some y (ap (λ (c : Client). c.last) (same_Some (new_client 1) c found) ∙ last))),
  record { not_stopped = refl; next = refl; state = refl },
  (d1, tt, (refl, refl), (d1, refl, (refl, refl), (t2, (refl, omega arith, refl), record { taken = refl; state = refl }, (t3 (a ∷ b ∷ []), (refl, refl, refl), record { state = refl }, (stopped_by SinkFault (t3 (a ∷ b ∷ [])), tt, record { state = refl }, refl))))),
)

stopped_things : (out : List (Option (List ℕ))) → AreThings (driven (stopped out))
stopped_things out = record { things = (RestUnwatched seen (record { keys = keys; values = out } ∷ []) ∷ []) ∷ []; acts_are = refl; each = All-cons IsOneThing (RestUnwatched seen (record { keys = keys; values = out } ∷ []) ∷ []) [] tt (All-nil IsOneThing) }

abbrev pub d_stopped : List (Option (List ℕ)) → DeskState
d_stopped out = stopped_by SinkFault (t3 out)

-- of calls of the vault that were never made
pub chain_is_wanted : All (IsAllowed eager) (stopped values) × Leads d0 (history (stopped values)) (stopped_by SinkFault (t3 values)) × AreThings (driven (stopped values)) × deaf.holds v0 v0
    × (IsWovenWorld deaf setup (1 ∷ []) v0 v0 (record v0 { left = 0 }) (stopped values) (stopped_by SinkFault (t3 values)) → ⊥)
chain_is_wanted = (stopped_allowed values, stopped_leads None None, stopped_things values, refl, λ w. w.leads.2.2.2.2.1.called.called)

-- of a vault that doesn't hold what it is taken to hold, and gives a pad a value
abbrev pub odd : List (Option (List ℕ))
odd = Some (9 ∷ []) ∷ None ∷ []

abbrev pub v_read : VaultState
v_read = record v0 { left = 0 }

loose_called : Called loose v0 (Fetch keys) (Values odd) v_read
loose_called = record {
  notes = [];
  called = tt;
  answered = λ v none. absurd none;
  holds = λ v none. none;
  sound = λ v is. ap (λ u. vault_next u (Fetch keys) (Values odd)) is;
  images = λ v is. record { later = λ part. omega arith; each = λ c none. absurd none; before = λ t c le left. inl left; told = λ none. absurd none };
  alike = λ image at. (λ is. is, λ is. is);
  goes = record { anchors = refl; faults = omega arith; later = λ part. omega arith; kept = λ t c le left. left; told = λ t. t; leaves = (λ t. t, λ t. t); seen = tt };
}

pub holding_is_wanted : All (IsAllowed eager) (stopped odd) × Leads d0 (history (stopped odd)) (stopped_by SinkFault (t3 odd)) × AllCalled loose v0 (calls (stopped odd)) v_read × AreThings (driven (stopped odd))
    × (IsWovenWorld loose setup (1 ∷ []) v0 v0 v_read (stopped odd) (stopped_by SinkFault (t3 odd)) → ⊥)
holding_is_wanted = (
  stopped_allowed odd,
  stopped_leads (Some (9 ∷ [])) None,
  (v_read, loose_called, refl),
  stopped_things odd,
  λ w. (let wrong : ◌≡◌ {A = Option (Option (List ℕ))} (Some (Some (9 ∷ []))) (Some None) = w.leads.2.2.2.2.1.law.answered.pads 0 refl in none-some (9 ∷ []) (sym (same_Some (Some (9 ∷ [])) None wrong))),
)

-- of a vault of other parameters
pub opening_is_wanted : Leads d0 (history []) d0 × AllCalled plain (record v0 { batches = 2 }) (calls []) (record v0 { batches = 2 }) × AreThings (driven []) × plain.holds (record v0 { batches = 2 }) (record v0 { batches = 2 })
    × (IsWovenWorld plain setup (1 ∷ []) (record v0 { batches = 2 }) (record v0 { batches = 2 }) (record v0 { batches = 2 }) [] d0 → ⊥)
opening_is_wanted = (refl, refl, none_driven, refl, λ w. (let e : 1 ≡ 2 = ap (λ (u : VaultState). u.batches) (ap (λ (m : World VaultState). m.vault) w.leads ∙ w.vault_is) in omega (arith, e)))
