-- The steps of a runner that is in no transaction.
use Rattle.std.proofs.Common.{◌≡◌, ◌<◌, ◌≤◌, ℕ, zero, suc, true, false, ◌==◌, List, Option, Some, [], ◌∷◌, ◌++◌, length, take, refl, sym, ap, subst, ◌∙◌, append-nil, arith, eq-eqb, ⊎_elim, inl, inr}
use Rattle.std.specs.Prelude.{slice_get, All, is_some}
use Rattle.std.proofs.lemmas.Bool.{false≢true}
use Rattle.std.proofs.lemmas.List.Elements.{All-nil, All-filter}
use Rattle.ob_base.specs.declared.fault.Fault.{Fault}
use Rattle.ob_desk.specs.Desk as desk
use Rattle.ob_desk.specs.Desk.{Call, Reply, DeskState, MayCall, DeskStep}
use Rattle.ob_desk.specs.Calls.{begun_reply}
use Rattle.ob_desk.specs.declared.calls.Txn.{Txn}
use Rattle.ob_desk.specs.declared.calls.Begun.{Begun}
use Rattle.ob_desk.specs.declared.calls.Begun.TheVariants as begun_as
use Rattle.ob_session.specs.declared.runner.Step.{Step}
use Rattle.ob_session.specs.declared.runner.Step.TheVariants as stands
use Rattle.ob_session.specs.Steps.{IsOwn}
use Rattle.ob_session.specs.Clients.{Told, told_of, told_next, begun, has_signed_off, was_refused, stands_after}
use Rattle.ob_script.specs.declared.line.Ask.{Ask}
use Rattle.ob_script.specs.Script.{ScriptTxn, AreOpsBelow, asks_by, key_of}
use Rattle.ob_runner.specs.declared.place.Place.{Place}
use Rattle.ob_runner.specs.declared.place.Place.TheVariants as place
use Rattle.ob_runner.specs.Places.{RunnerState, new_runner, at_place, after_begun, IsInScript, IsDone, ArePast, Fits, MayStep, Halts, calls_at, takes_memory, is_stopped, StepsTo}
use Rattle.ob_runner.specs.Turns.{script_next, MakesCall}
use Rattle.ob_runner.proofs.Tellings.{told_more, on_last_same, signed_same, signed_now, refused_same, refused_now}
use Rattle.ob_runner.proofs.Works.{placed_as}
use Rattle.ob_runner.proofs.Nexts.{begin_next, sign_off_next, over_next}
use Rattle.ob_runner.proofs.Moves.{standing_as}
use Rattle.ob_runner.proofs.Allowed.{may_begin, may_sign_off}
use Rattle.ob_runner.proofs.Steps.{made_one, steps_as, halts, one_as}

-- In no transaction, not signed off: all that it was told of is over.
record IsFree (r : RunnerState) (said : List (Call × Reply)) : Type 0 where
  past : ArePast (take r.at r.script) (told_of said)
  ran : stands_after said ≡ stands.Ran
  not_signed : has_signed_off said ≡ false
  refused : was_refused said ≡ is_stopped r.place
  below : AreOpsBelow r.keys r.script

free_as : (r : RunnerState) (said : List (Call × Reply)) (p : Place) (before now : List Told) → told_of said ≡ before ++ now → now ≡ [] → ArePast (take r.at r.script) before → ArePast (take r.at r.script) (told_of said)
free_as r said p before now told_is none past = subst (λ (told : List Told). ArePast (take r.at r.script) told) (sym (told_is ∙ ap (λ (ts : List Told). before ++ ts) none ∙ append-nil before)) past

between : (r : RunnerState) (said : List (Call × Reply)) → r.place ≡ place.Between → Fits r said → IsFree r said
between r said e fits = let f = placed_as r place.Between said e fits in record {
  past = free_as r said place.Between f.before f.now f.told_is f.placed f.past;
  ran = f.standing;
  not_signed = f.signed_off;
  refused = f.refused refl ∙ ap (λ (p : Place). is_stopped p) (sym e);
  below = f.below;
}

stopped : (r : RunnerState) (said : List (Call × Reply)) → r.place ≡ place.Stopped → Fits r said → IsFree r said
stopped r said e fits = let f = placed_as r place.Stopped said e fits in record {
  past = free_as r said place.Stopped f.before f.now f.told_is f.placed f.past;
  ran = f.standing;
  not_signed = f.signed_off;
  refused = f.refused refl ∙ ap (λ (p : Place). is_stopped p) (sym e);
  below = f.below;
}

was_stopped : (r : RunnerState) (said : List (Call × Reply)) → r.place ≡ place.Stopped → Fits r said → was_refused said ≡ true
was_stopped r said e fits = (placed_as r place.Stopped said e fits).refused refl

has_item : {A : Type 0} (xs : List A) (i : ℕ) → i < length xs → (x : A) × (slice_get xs i ≡ Some x)
has_item [] i within = absurd (omega arith)
has_item (x ∷ xs) zero within = (x, refl)
has_item (x ∷ xs) (suc i) within = has_item xs i (omega arith)

same_client : (client : ℕ) → (client == client) ≡ true
same_client client = eq-eqb client client refl

module _ (r : RunnerState) (d new : DeskState) (may : MayStep r d) where
  -- ---- it begins its next transaction
  module _ (at : r.place ≡ place.Between) (more : IsInScript r) where
    pub may_begin_it : MayCall d (desk.Begin r.client)
    may_begin_it = let free = between r may.said at may.fits in may_begin r d may.said (take r.at r.script) may.agrees free.not_signed free.past

    takes_begin : takes_memory r.place (slice_get r.script r.at) ≡ true
    takes_begin = let item = has_item r.script r.at more in ap (λ (p : Place). takes_memory p (slice_get r.script r.at)) at ∙ ap (λ (o : Option ScriptTxn). is_some o) item.1

    pub begin_halts : (mid : DeskState) (last : DeskState) (stand : Step) (made : List (Call × Reply)) → mid ≡ d → Halts mid stand made last → StepsTo r d stand made r last
    begin_halts mid last stand made same halt = halts r d mid last stand made (one_as r.place place.Between at refl) takes_begin (λ said f. (between r said at f).ran) same halt

    not_refused : (said : List (Call × Reply)) → Fits r said → was_refused said ≡ false
    not_refused said fits = (between r said at fits).refused ∙ ap (λ (p : Place). is_stopped p) at

    begun_fits : (x : Txn) → x.client ≡ r.client → (said : List (Call × Reply)) → Fits r said → Fits (at_place (place.Next x 0) r) (said ++ (desk.Begin r.client, desk.Begun x) ∷ [])
    begun_fits x named said fits = let free = between r said at fits in let item = has_item r.script r.at more in record {
      before = told_of said;
      now = begun x ∷ [];
      below = free.below;
      told_is = told_more said (desk.Begin r.client, desk.Begun x);
      past = free.past;
      placed = record {
        txn = item.0;
        one = begun x;
        txn_is = item.1;
        told_is = refl;
        placed = (record { txn_is = refl; waiting_is = refl; asked_is = refl; not_ended = refl }, refl);
      };
      named = named;
      standing = standing_as (place.Next x 0) said (desk.Begin r.client, desk.Begun x) refl;
      signed_off = signed_same said (desk.Begin r.client, desk.Begun x) refl ∙ free.not_signed;
      refused = λ e. refused_same said (desk.Begin r.client, desk.Begun x) refl ∙ not_refused said fits;
      whole = λ e. absurd (false≢true e);
    }

    begin_next_it : (said : List (Call × Reply)) → Fits r said → script_next r.client r.script said ≡ Some (desk.Begin r.client)
    begin_next_it said fits = let free = between r said at fits in let item = has_item r.script r.at more in begin_next r said item.0 item.1 free.not_signed (not_refused said fits) free.past

    begun_steps : (x : Txn) (made : List (Call × Reply)) (next : RunnerState) → DeskStep d (desk.Begin r.client) (desk.Begun x) new → made ≡ (desk.Begin r.client, desk.Begun x) ∷ [] → next ≡ at_place (place.Next x 0) r
        → StepsTo r d stands.Ran made next new
    begun_steps x made next does e f = let named : x.client ≡ r.client = ap (λ (y : Txn). y.client) does.next in
        steps_as r d new stands.Ran stands.Ran made _ next _ refl e f
        (made_one r (at_place (place.Next x 0) r) d new stands.Ran (desk.Begin r.client, desk.Begun x) (one_as r.place place.Between at refl) begin_next_it refl refl refl may_begin_it does refl (same_client r.client) (begun_fits x named) refl)

    refused_fits : (fault : Fault) → (said : List (Call × Reply)) → Fits r said → Fits (at_place place.Stopped r) (said ++ (desk.Begin r.client, desk.Refused fault) ∷ [])
    refused_fits fault said fits = let free = between r said at fits in record {
      before = told_of said;
      now = [];
      below = free.below;
      told_is = told_more said (desk.Begin r.client, desk.Refused fault) ∙ on_last_same (told_next (desk.Begin r.client) (desk.Refused fault)) (λ t. refl) (told_of said) ∙ sym (append-nil (told_of said));
      past = free.past;
      placed = refl;
      named = tt;
      standing = standing_as place.Stopped said (desk.Begin r.client, desk.Refused fault) refl;
      signed_off = signed_same said (desk.Begin r.client, desk.Refused fault) refl ∙ free.not_signed;
      refused = λ e. refused_now said (desk.Begin r.client, desk.Refused fault) refl;
      whole = λ e. absurd (false≢true e);
    }

    refused_steps : (fault : Fault) (made : List (Call × Reply)) (next : RunnerState) → DeskStep d (desk.Begin r.client) (desk.Refused fault) new → made ≡ (desk.Begin r.client, desk.Refused fault) ∷ [] → next ≡ at_place place.Stopped r
        → StepsTo r d stands.Ran made next new
    refused_steps fault made next does e f = steps_as r d new stands.Ran stands.Ran made _ next _ refl e f
        (made_one r (at_place place.Stopped r) d new stands.Ran (desk.Begin r.client, desk.Refused fault) (one_as r.place place.Between at refl) begin_next_it refl refl refl may_begin_it does refl (same_client r.client) (refused_fits fault) refl)

    pub begin_steps : (reply : Begun) (made : List (Call × Reply)) (next : RunnerState) → DeskStep d (desk.Begin r.client) (begun_reply reply) new → made ≡ (desk.Begin r.client, begun_reply reply) ∷ [] → next ≡ after_begun (begun_reply reply) r
        → StepsTo r d stands.Ran made next new
    begin_steps (begun_as.Txn x) made next does e f = begun_steps x made next does e f
    begin_steps (begun_as.Stopped fault) made next does e f = refused_steps fault made next does e f

  -- ---- it signs off
  module _ (done : IsDone r) where
    free_done : (said : List (Call × Reply)) → Fits r said → IsFree r said
    free_done said fits = ⊎_elim (λ one. between r said one.0 fits) (λ other. stopped r said other fits) done

    whole_done : (said : List (Call × Reply)) → Fits r said → was_refused said ≡ false → length r.script ≤ r.at
    whole_done said fits none = ⊎_elim (λ one. one.1) (λ other. absurd (false≢true (sym none ∙ was_stopped r said other fits))) done

    sign_off_next_it : (said : List (Call × Reply)) → Fits r said → script_next r.client r.script said ≡ Some (desk.SignOff r.client)
    sign_off_next_it said fits = let free = free_done said fits in sign_off_next r said free.not_signed free.past
        (⊎_elim (λ one. inr (free.refused ∙ ap (λ (p : Place). is_stopped p) one.0, one.1)) (λ other. inl (was_stopped r said other fits)) done)

    one_done : calls_at r.place ≡ 1
    one_done = ⊎_elim (λ one. one_as r.place place.Between one.0 refl) (λ other. one_as r.place place.Stopped other refl) done

    pub may_sign_off_it : MayCall d (desk.SignOff r.client)
    may_sign_off_it = let free = free_done may.said may.fits in may_sign_off r d may.said (take r.at r.script) may.agrees free.not_signed free.past

    signed_fits : (said : List (Call × Reply)) → Fits r said → Fits (at_place place.Over r) (said ++ (desk.SignOff r.client, desk.Done) ∷ [])
    signed_fits said fits = let free = free_done said fits in record {
      before = told_of said;
      now = [];
      below = free.below;
      told_is = told_more said (desk.SignOff r.client, desk.Done) ∙ on_last_same (told_next (desk.SignOff r.client) desk.Done) (λ t. refl) (told_of said) ∙ sym (append-nil (told_of said));
      past = free.past;
      placed = refl;
      named = tt;
      standing = standing_as place.Over said (desk.SignOff r.client, desk.Done) refl;
      signed_off = signed_now said (desk.SignOff r.client, desk.Done) refl;
      refused = λ e. absurd (false≢true (sym e));
      whole = λ e none. whole_done said fits (sym (refused_same said (desk.SignOff r.client, desk.Done) refl) ∙ none);
    }

    pub sign_off_steps : (made : List (Call × Reply)) (next : RunnerState) → DeskStep d (desk.SignOff r.client) desk.Done new → made ≡ (desk.SignOff r.client, desk.Done) ∷ [] → next ≡ at_place place.Over r
        → StepsTo r d stands.Done made next new
    sign_off_steps made next does e f = steps_as r d new stands.Done stands.Done made _ next _ refl e f
        (made_one r (at_place place.Over r) d new stands.Done (desk.SignOff r.client, desk.Done) one_done sign_off_next_it refl refl refl may_sign_off_it does refl (same_client r.client) signed_fits refl)

-- behind its sign-off it makes no call
pub over_steps : (r : RunnerState) (d : DeskState) → r.place ≡ place.Over → StepsTo r d stands.Done [] r d
over_steps r d at = record {
  one = sym (ap (λ (p : Place). calls_at p) at);
  turn = λ said f. subst (λ (o : Option Call). MakesCall o []) (sym (over_next r.client r.script said (placed_as r place.Over said at f).signed_off)) refl;
  client = refl;
  keys = refl;
  script = refl;
  made_of = refl;
  own = All-nil (IsOwn r.client);
  fits = λ said f. subst (λ (s : List (Call × Reply)). Fits r s) (sym (append-nil said)) f;
  standing = λ said f. sym (ap (λ (s : List (Call × Reply)). stands_after s) (append-nil said) ∙ (placed_as r place.Over said at f).standing);
}

-- one that has made no call fits
pub new_fits : (client keys : ℕ) (script : List ScriptTxn) → AreOpsBelow keys script → Fits (new_runner client keys script) []
new_fits client keys script below = record {
  before = [];
  now = [];
  below = below;
  told_is = refl;
  past = tt;
  placed = refl;
  named = tt;
  standing = refl;
  signed_off = refl;
  refused = λ e. refl;
  whole = λ e. absurd (false≢true e);
}

-- and so does one with a client's transactions of a script
pub client_fits : (client keys k : ℕ) (own txns all : List ScriptTxn) → k ≡ keys → own ≡ asks_by client txns → txns ≡ all → AreOpsBelow keys all → Fits (new_runner client k own) []
client_fits client keys k own txns all same_keys same_own same below = new_fits client k own
    (rw (same_keys, same_own, same) (All-filter (λ (t : ScriptTxn). t.client == client) (λ (t : ScriptTxn). All (λ (a : Ask). key_of a < keys) t.asks) all below))
