-- What a call's answer leaves still fits.
use Rattle.std.proofs.Common.{◌≡◌, ℕ, Bool, true, false, List, [], ◌∷◌, ◌++◌, take, Option, Some, refl, sym, ap, subst, ◌∙◌, append-nil}
use Rattle.std.specs.Prelude.{◌⊎◌, slice_get}
use Rattle.std.proofs.lemmas.Bool.{false≢true}
use Rattle.std.proofs.lemmas.Option.{same_Some}
use Rattle.ob_serial.specs.declared.records.Why.TheVariants.{Asked}
use Rattle.ob_serial.specs.declared.records.Outcome.{Outcome}
use Rattle.ob_serial.specs.declared.records.Outcome.TheVariants.{Aborted as AbortedBy}
use Rattle.ob_desk.specs.Desk.{Call, Reply}
use Rattle.ob_desk.specs.declared.calls.Txn.{Txn}
use Rattle.ob_session.specs.declared.runner.Step.TheVariants as stands
use Rattle.ob_session.specs.Clients.{Told, told_of, told_after, told_next, over, on_last, is_sign_off, is_refusal, stands_behind, stands_after}
use Rattle.ob_script.specs.declared.line.Ending.TheVariants as ending
use Rattle.ob_runner.specs.declared.place.Place.{Place}
use Rattle.ob_script.specs.Script.{ScriptTxn}
use Rattle.ob_runner.specs.Meaning.{IsMeant, Meets, MeetsFront, MeetsNoSum}
use Rattle.ob_runner.specs.Places.{RunnerState, Fits, at_place, finished, IsPlaced, IsClientOfPlace, IsStanding, ArePast, HasEnded, is_over, is_stopped}
use Rattle.ob_runner.proofs.Tellings.{told_more, last_more, on_last_more, signed_same, refused_same}
use Rattle.ob_runner.proofs.Meetings.{take_next}
use Rattle.ob_runner.proofs.Works.{Works}

past_more : (txns : List ScriptTxn) (told : List Told) (s : ScriptTxn) (t : Told) → ArePast txns told → IsMeant s t → HasEnded t → ArePast (txns ++ s ∷ []) (told ++ t ∷ [])
past_more [] [] s t past meant ended = (meant, ended, tt)
past_more [] (u ∷ told) s t past meant ended = absurd past
past_more (q ∷ txns) [] s t past meant ended = absurd past
past_more (q ∷ txns) (u ∷ told) s t (first, first_ended, past) meant ended = (first, first_ended, past_more txns told s t past meant ended)

-- how the last call stands
pub standing_as : (p : Place) (said : List (Call × Reply)) (step : Call × Reply) → IsStanding p (stands_behind (Some step)) → IsStanding p (stands_after (said ++ step ∷ []))
standing_as p said step h = subst (λ (o : Option (Call × Reply)). IsStanding p (stands_behind o)) (sym (last_more said step)) h

-- a call that the last transaction is told of
pub record Tells (step : Call × Reply) : Type 0 where
  pub is : (told : List Told) → told_after told step ≡ on_last (told_next step.0 step.1) told
  pub no_sign_off : is_sign_off step ≡ false
  pub no_refusal : is_refusal step ≡ false

module _ (r : RunnerState) (said : List (Call × Reply)) (x : Txn) (waiting : Option ℕ) (asked : Bool) (P : ScriptTxn → Told → Type 0) (fits : Fits r said) (w : Works r said x waiting asked P) (step : Call × Reply) (tells : Tells step) where
  told_then : told_of (said ++ step ∷ []) ≡ w.before ++ told_next step.0 step.1 w.t ∷ []
  told_then = told_more said step ∙ ap (λ (ts : List Told). told_after ts step) w.told_is ∙ tells.is (w.before ++ w.t ∷ []) ∙ on_last_more (told_next step.0 step.1) w.before w.t

  -- it goes on in its transaction
  pub goes : (p : Place) → IsPlaced p (slice_get r.script r.at) (told_next step.0 step.1 w.t ∷ []) → IsClientOfPlace r.client p → IsStanding p (stands_behind (Some step)) → is_over p ≡ false → is_stopped p ≡ false → Fits (at_place p r) (said ++ step ∷ [])
  goes p placed named standing not_over not_stopped = record {
    before = w.before;
    now = told_next step.0 step.1 w.t ∷ [];
    below = fits.below;
    told_is = told_then;
    past = w.past;
    placed = placed;
    named = named;
    standing = standing_as p said step standing;
    signed_off = signed_same said step tells.no_sign_off ∙ w.not_signed ∙ sym not_over;
    refused = λ e. refused_same said step tells.no_refusal ∙ w.not_refused ∙ sym not_stopped;
    whole = λ e. absurd (false≢true (sym not_over ∙ e));
  }

  -- its transaction is over
  pub finishes : IsMeant w.s (told_next step.0 step.1 w.t) → HasEnded (told_next step.0 step.1 w.t) → stands_behind (Some step) ≡ stands.Ran → Fits (finished r) (said ++ step ∷ [])
  finishes meant ended standing = record {
    before = w.before ++ told_next step.0 step.1 w.t ∷ [];
    now = [];
    below = fits.below;
    told_is = told_then ∙ sym (append-nil (w.before ++ told_next step.0 step.1 w.t ∷ []));
    past = rw (take_next r.script r.at w.s w.txn_is) (past_more (take r.at r.script) w.before w.s (told_next step.0 step.1 w.t) w.past meant ended);
    placed = refl;
    named = tt;
    standing = standing_as (finished r).place said step standing;
    signed_off = signed_same said step tells.no_sign_off ∙ w.not_signed;
    refused = λ e. refused_same said step tells.no_refusal ∙ w.not_refused;
    whole = λ e. absurd (false≢true e);
  }

-- one that ended is meant
pub ended_meant : (s : ScriptTxn) (t : Told) (outcome : Outcome ℕ) → MeetsFront s.asks t.ops → (t.asked ≡ true → Meets s.asks t.ops × (s.ending ≡ ending.Commit))
    → (outcome ≡ AbortedBy Asked → (Meets s.asks t.ops × (s.ending ≡ ending.Abort)) ⊎ MeetsNoSum s.asks t.ops) → IsMeant s (over outcome t)
ended_meant s t outcome front committed asked = record { front = front; committed = committed; asked = λ e. asked (same_Some outcome (AbortedBy Asked) e) }
