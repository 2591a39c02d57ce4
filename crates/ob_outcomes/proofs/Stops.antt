-- A desk that was stopped stays so, and a begin is refused at such a desk alone.
use Rattle.std.proofs.Common.{◌≡◌, ◌∙◌, ℕ, Bool, true, false, if◌then◌else◌, List, [], ◌∷◌, Option, Some, None, sym, refl, ap, inl, inr}
use Rattle.std.specs.Option.{option_or}
use Rattle.std.proofs.lemmas.Option.{none-some}
use Rattle.ob_base.specs.declared.fault.Fault.{Fault}
use Rattle.ob_desk.specs.Desk.{DeskState, DeskStep, Call, Begin, GetKey, Poll, Write, Commit, Abort, Settled, Looks, SignOff, Stop, Unsure, IsStopped, TakeBatch, Deliver, Close, Publish, Reply}
use Rattle.ob_desk.specs.Desk.{Begun, Refused, Value, Waits, Aborted, Done, IsSettled, Seen, StoppedBy, Batch, Writes, Published, is_memory, stop_part, stop_closed}
use Rattle.ob_session.specs.Steps.{Leads}
use Rattle.ob_session.specs.Clients.{is_of, said_by, is_refusal, was_refused}

none_or : (a : Option Fault) (f : Fault) → option_or a (Some f) ≡ None → a ≡ None
none_or None f e = refl
none_or (Some g) f e = e

pub stop_back : (d : DeskState) (call : Call) (reply : Reply) (new : DeskState) → DeskStep d call reply new → new.stop ≡ None → d.stop ≡ None
stop_back d (Begin client) (Begun x) new step none = step.not_stopped
stop_back d (Begin client) (Refused f) new step none = ap (λ (s : DeskState). s.stop) (sym step.same) ∙ none
stop_back d (GetKey x k) (Value value) new step none = ap (λ (s : DeskState). s.stop) (sym step.state) ∙ none
stop_back d (GetKey x k) Waits new step none = ap (λ (s : DeskState). s.stop) (sym step.state) ∙ none
stop_back d (GetKey x k) (Aborted why) new (inl step) none = ap (λ (s : DeskState). s.stop) (sym step.same) ∙ none
stop_back d (GetKey x k) (Aborted why) new (inr (inl step)) none = ap (λ (s : DeskState). s.stop) (sym step.state) ∙ none
stop_back d (GetKey x k) (Aborted why) new (inr (inr step)) none = ap (λ (s : DeskState). s.stop) (sym step.state) ∙ none
stop_back d (Poll x) (Value value) new step none = ap (λ (s : DeskState). s.stop) (sym step.state) ∙ none
stop_back d (Poll x) Waits new step none = ap (λ (s : DeskState). s.stop) (sym step.same) ∙ none
stop_back d (Poll x) (Aborted why) new step none = ap (λ (s : DeskState). s.stop) (sym step.same) ∙ none
stop_back d (Write x k value) Done new step none = ap (λ (s : DeskState). s.stop) (sym step.state) ∙ none
stop_back d (Write x k value) (Aborted why) new (inl step) none = ap (λ (s : DeskState). s.stop) (sym step.same) ∙ none
stop_back d (Write x k value) (Aborted why) new (inr (inl step)) none = ap (λ (s : DeskState). s.stop) (sym step.state) ∙ none
stop_back d (Write x k value) (Aborted why) new (inr (inr step)) none = ap (λ (s : DeskState). s.stop) (sym step.state) ∙ none
stop_back d (Commit x) Done new step none = ap (λ (s : DeskState). s.stop) (sym step.state) ∙ none
stop_back d (Commit x) (Aborted why) new step none = ap (λ (s : DeskState). s.stop) (sym step.same) ∙ none
stop_back d (Abort x) (Aborted why) new (inl step) none = ap (λ (s : DeskState). s.stop) (sym step.same) ∙ none
stop_back d (Abort x) (Aborted why) new (inr step) none = ap (λ (s : DeskState). s.stop) (sym step.state) ∙ none
stop_back d (Settled x) (IsSettled outcome) new step none = ap (λ (s : DeskState). s.stop) (sym step.1) ∙ none
stop_back d Looks (Seen look) new step none = ap (λ (s : DeskState). s.stop) (sym step.1) ∙ none
stop_back d (SignOff client) Done new step none = ap (λ (s : DeskState). s.stop) (sym step.state) ∙ none
stop_back d (Stop f) Done new step none = none_or d.stop f (halted (is_memory f) (ap (λ (s : DeskState). s.stop) (sym step.state) ∙ none))
  where
    halted : (b : Bool) → (if b then record d { stop = option_or d.stop (Some f); running = stop_part f d.running } else stop_closed f (record d { stop = option_or d.stop (Some f); running = stop_part f d.running })).stop ≡ None → option_or d.stop (Some f) ≡ None
    halted true e = e
    halted false e = e
stop_back d (Unsure f) Done new step none = none_or d.stop f (ap (λ (s : DeskState). s.stop) (sym step.state) ∙ none)
stop_back d IsStopped (StoppedBy fault) new step none = ap (λ (s : DeskState). s.stop) (sym step.1) ∙ none
stop_back d TakeBatch (Batch keys) new step none = ap (λ (s : DeskState). s.stop) (sym step.state) ∙ none
stop_back d (Deliver keys values) Done new step none = ap (λ (s : DeskState). s.stop) (sym step.state) ∙ none
stop_back d Close (Writes writes) new step none = ap (λ (s : DeskState). s.stop) (sym step.state) ∙ none
stop_back d (Publish epoch left) (Published told) new step none = ap (λ (s : DeskState). s.stop) (sym step.state) ∙ none
stop_back d _ _ new step none = absurd step

pub stops_back : (d : DeskState) (steps : List (Call × Reply)) (new : DeskState) → Leads d steps new → new.stop ≡ None → d.stop ≡ None
stops_back d [] new run none = ap (λ (s : DeskState). s.stop) (sym run) ∙ none
stops_back d (step ∷ steps) new (mid, may, made, run) none = stop_back d step.0 step.1 mid made (stops_back mid steps new run none)

-- a step at a desk that isn't stopped refuses no begin
none_refused : (d : DeskState) (call : Call) (reply : Reply) (new : DeskState) → DeskStep d call reply new → d.stop ≡ None → is_refusal (call, reply) ≡ false
none_refused d (Begin client) (Begun x) new step none = refl
none_refused d (Begin client) (Refused f) new step none = absurd (none-some f (sym none ∙ step.stopped))
none_refused d (GetKey x k) reply new step none = refl
none_refused d (Poll x) reply new step none = refl
none_refused d (Write x k value) reply new step none = refl
none_refused d (Commit x) reply new step none = refl
none_refused d (Abort x) reply new step none = refl
none_refused d (Settled x) reply new step none = refl
none_refused d Looks reply new step none = refl
none_refused d (SignOff client) reply new step none = refl
none_refused d (Stop f) reply new step none = refl
none_refused d (Unsure f) reply new step none = refl
none_refused d IsStopped reply new step none = refl
none_refused d TakeBatch reply new step none = refl
none_refused d (Deliver keys values) reply new step none = refl
none_refused d Close reply new step none = refl
none_refused d (Publish epoch left) reply new step none = refl
none_refused d (Begin client) _ new step none = absurd step

pub not_refused : (number : ℕ) (d : DeskState) (steps : List (Call × Reply)) (new : DeskState) → Leads d steps new → new.stop ≡ None → was_refused (said_by number steps) ≡ false
not_refused number d [] new run none = refl
not_refused number d (step ∷ steps) new (mid, may, made, run) none = by (is_of number step.0) (none_refused d step.0 step.1 mid made (stop_back d step.0 step.1 mid made (stops_back mid steps new run none))) (not_refused number mid steps new run none)
  where
    by : (b : Bool) → is_refusal step ≡ false → was_refused (said_by number steps) ≡ false → was_refused (if b then step ∷ said_by number steps else said_by number steps) ≡ false
    by true one rest = rw one rest
    by false one rest = rest
