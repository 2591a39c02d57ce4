-- What a desk keeps for life stays, whatever is called. Rising numbers are each at one place.
use Rattle.std.proofs.Common.{◌≡◌, ℕ, zero, suc, ◌+◌, ◌<◌, Bool, true, false, if◌then◌else◌, List, [], ◌∷◌, length, Some, refl, sym, ap, ◌∙◌, inl, inr, get_or, arith}
use Rattle.std.specs.List.{slice_get}
use Rattle.std.specs.List.Sorted.{IsStrictlyIncreasing}
use Rattle.std.proofs.lemmas.Option.{slice_get_within, get_or_from_slice_get, slice_get-get_or}
use mathlib.Core.Logic.{dite}
use native.Mathlib.Decide.{ℕ_discrete, dec_le}
use Rattle.ob_base.specs.declared.fault.Fault.{Fault}
use Rattle.ob_desk.specs.Desk.{DeskState, is_memory, stop_closed, Call, Begin, GetKey, Poll, Write, Commit, Abort, Settled, Looks, SignOff, Stop, Unsure, IsStopped, TakeBatch, Deliver, Close, Publish}
use Rattle.ob_desk.specs.Desk.{Reply, Begun, Refused, Value, Waits, Aborted, Done, IsSettled, Seen, StoppedBy, Batch, Writes, Published, DeskStep}
use Rattle.ob_session.specs.Steps.{Leads}
use Rattle.ob_session.proofs.Epochs.{halted}

-- ---- what it keeps for life

stopped_setup : (d : DeskState) (f : Fault) (b : Bool) → (if b then halted f d else stop_closed f (halted f d)).setup ≡ d.setup
stopped_setup d f true = refl
stopped_setup d f false = refl

setup_step : (d : DeskState) (call : Call) (reply : Reply) (new : DeskState) → DeskStep d call reply new → new.setup ≡ d.setup
setup_step d (Begin client) (Begun x) new step = ap (λ (q : DeskState). q.setup) step.state
setup_step d (Begin client) (Refused f) new step = ap (λ (q : DeskState). q.setup) step.same
setup_step d (GetKey x k) (Value value) new step = ap (λ (q : DeskState). q.setup) step.state
setup_step d (GetKey x k) Waits new step = ap (λ (q : DeskState). q.setup) step.state
setup_step d (GetKey x k) (Aborted why) new (inl step) = ap (λ (q : DeskState). q.setup) step.same
setup_step d (GetKey x k) (Aborted why) new (inr (inl step)) = ap (λ (q : DeskState). q.setup) step.state
setup_step d (GetKey x k) (Aborted why) new (inr (inr step)) = ap (λ (q : DeskState). q.setup) step.state
setup_step d (Poll x) (Value value) new step = ap (λ (q : DeskState). q.setup) step.state
setup_step d (Poll x) Waits new step = ap (λ (q : DeskState). q.setup) step.same
setup_step d (Poll x) (Aborted why) new step = ap (λ (q : DeskState). q.setup) step.same
setup_step d (Write x k value) Done new step = ap (λ (q : DeskState). q.setup) step.state
setup_step d (Write x k value) (Aborted why) new (inl step) = ap (λ (q : DeskState). q.setup) step.same
setup_step d (Write x k value) (Aborted why) new (inr (inl step)) = ap (λ (q : DeskState). q.setup) step.state
setup_step d (Write x k value) (Aborted why) new (inr (inr step)) = ap (λ (q : DeskState). q.setup) step.state
setup_step d (Commit x) Done new step = ap (λ (q : DeskState). q.setup) step.state
setup_step d (Commit x) (Aborted why) new step = ap (λ (q : DeskState). q.setup) step.same
setup_step d (Abort x) (Aborted why) new (inl step) = ap (λ (q : DeskState). q.setup) step.same
setup_step d (Abort x) (Aborted why) new (inr step) = ap (λ (q : DeskState). q.setup) step.state
setup_step d (Settled x) (IsSettled outcome) new step = ap (λ (q : DeskState). q.setup) step.1
setup_step d Looks (Seen look) new step = ap (λ (q : DeskState). q.setup) step.1
setup_step d (SignOff client) Done new step = ap (λ (q : DeskState). q.setup) step.state
setup_step d (Stop f) Done new step = ap (λ (q : DeskState). q.setup) step.state ∙ stopped_setup d f (is_memory f)
setup_step d (Unsure f) Done new step = ap (λ (q : DeskState). q.setup) step.state
setup_step d IsStopped (StoppedBy fault) new step = ap (λ (q : DeskState). q.setup) step.1
setup_step d TakeBatch (Batch keys) new step = ap (λ (q : DeskState). q.setup) step.state
setup_step d (Deliver keys values) Done new step = ap (λ (q : DeskState). q.setup) step.state
setup_step d Close (Writes writes) new step = ap (λ (q : DeskState). q.setup) step.state
setup_step d (Publish epoch left) (Published told) new step = ap (λ (q : DeskState). q.setup) step.state
setup_step d _ _ new step = absurd step

pub setup_run : (d : DeskState) (steps : List (Call × Reply)) (new : DeskState) → Leads d steps new → new.setup ≡ d.setup
setup_run d [] new leads = ap (λ (q : DeskState). q.setup) leads
setup_run d (step ∷ steps) new leads = setup_run leads.0 steps new leads.3 ∙ setup_step d step.0 step.1 leads.0 leads.2

-- ---- rising numbers

rises : (ns : List ℕ) (i j a b : ℕ) → IsStrictlyIncreasing ns → i < j → slice_get ns i ≡ Some a → slice_get ns j ≡ Some b → a < b
rises ns i zero a b up less ga gb = absurd (omega (arith, less))
rises ns i (suc m) a b up less ga gb =
    let w : suc m < length ns = slice_get_within ns (suc m) b gb in
    let step : get_or ns m 0 < get_or ns (m + 1) 0 = up m (omega (arith, w)) in
    let next : m + 1 ≡ suc m = omega arith in
    let b_is : get_or ns (m + 1) 0 ≡ b = ap (λ (k : ℕ). get_or ns k 0) next ∙ get_or_from_slice_get ns (suc m) b 0 gb in
    dite (ℕ_discrete i m)
    (λ same. let a_is : get_or ns m 0 ≡ a = get_or_from_slice_get ns m a 0 (ap (slice_get ns) (sym same) ∙ ga) in omega (arith, step, a_is, b_is))
    (λ ne. let before : a < get_or ns m 0 = rises ns i m a (get_or ns m 0) up (omega (arith, less, ne)) ga (slice_get-get_or ns m 0 (omega (arith, w))) in omega (arith, step, before, b_is))

-- one number is at one place
pub one_place : (ns : List ℕ) (i j a : ℕ) → IsStrictlyIncreasing ns → slice_get ns i ≡ Some a → slice_get ns j ≡ Some a → i ≡ j
one_place ns i j a up gi gj = dite (dec_le i j)
    (λ le. dite (dec_le j i) (λ back. omega (arith, le, back)) (λ less. let no : a < a = rises ns i j a a up (omega (arith, le, less)) gi gj in absurd (omega (arith, no))))
    (λ more. let no : a < a = rises ns j i a a up (omega (arith, more)) gj gi in absurd (omega (arith, no)))
