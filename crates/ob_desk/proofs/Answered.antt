-- What each answer comes from.
use Rattle.std.proofs.Common.{◌≡◌, ℕ, zero, suc, ◌<◌, ◌≤◌, Bool, true, false, not, ◌&&◌, if◌then◌else◌, List, length, Option, None, Some, option_map, option_and_then, unwrap_or, refl, sym, ap, ap₂, ◌∙◌, subst, inl, inr, ◌⊎◌, ⊎_elim, arith}
use Rattle.std.proofs.lemmas.Bool.{cases_eq, false≢true}
use Rattle.std.proofs.lemmas.Option.{none-some, same_Some}
use Rattle.ob_order.specs.Works.{Work, is_going, at_ticket, edit, goes_on, fate_at, end_work, least_source, aborted_since, fall, cascade, aborted}
use Rattle.ob_order.specs.declared.fate.Fate.{Fate}
use Rattle.ob_order.specs.declared.fate.Fate.TheVariants.{Going, Ended, Fell}
use Rattle.ob_order.specs.Order.{read_reply, write_reply, again_reply}
use Rattle.ob_order.specs.declared.answers.Wrote.{Wrote}
use Rattle.ob_order.specs.declared.answers.Wrote.TheVariants.{Yes, Conflict as Conflicts, Full as WritesAreFull}
use Rattle.ob_order.proofs.Steps.{goes_on_range}
use Rattle.ob_order.proofs.Edits.{at_edit_same, at_edit_other}
use Rattle.ob_desk.specs.Desk.{Holder, Part, DeskState, Txn, Begin, GetKey, Poll, Write, Commit, Abort, Settled, Looks, SignOff, Stop, Unsure, IsStopped, TakeBatch, Deliver, Close, Publish, Value}
use Rattle.ob_desk.specs.Desk.{Waits, Aborted, Done, Why, Depends, EpochEnd, AbortedBy, why_refused, ShareReads, ShareWrites, read_past, write_past, outcome_at, aborted_why, waiting_at, asked_at, why_of, cause_at, why_at, note_cause, end_of}
use Rattle.ob_desk.specs.Desk.{close_to}
use Rattle.ob_desk.specs.Causes.{read_as, written_as, reply_to, RepliesAreExact, AbortedAreTold, EndsUnasked, AskedStay, UnaskedEnd}

-- ---- replies

not_aborted : {A : Type 0} (d : DeskState) (x y : Txn) (why : Why ℕ) → Some y ≡ Some x → aborted_why (outcome_at d x) ≡ None → outcome_at d y ≡ Some (AbortedBy why) → A
not_aborted d x y why e none is = absurd (none-some why (sym none ∙ (ap (λ q. aborted_why (outcome_at d q)) (sym (same_Some y x e)) ∙ ap aborted_why is)))

refused_as : (w : Wrote) (why : Why ℕ) → why_refused w ≡ Some why → Aborted why ≡ written_as w
refused_as Yes why e = absurd (none-some why e)
refused_as (Conflicts key reader) why e = ap Aborted (sym (same_Some _ why e))
refused_as (WritesAreFull keys) why e = ap Aborted (sym (same_Some _ why e))

polled : (d : DeskState) (x : Txn) (key : ℕ) → waiting_at d.running x.ticket ≡ Some key → reply_to d (Poll x) ≡ read_as (again_reply d.running.order x.ticket key)
polled d x key e = ap (λ o. unwrap_or (option_map (λ k. read_as (again_reply d.running.order x.ticket k)) o) Waits) e

-- a get and a write that keep to the share, and those that don't
kept_get : (d : DeskState) (x : Txn) (k : ℕ) → read_past d x k ≡ None → reply_to d (GetKey x k) ≡ read_as (read_reply d.setup.params d.running.order x.ticket k)
kept_get d x k e = ap (λ o. unwrap_or (option_map (λ keys. Aborted (ShareReads keys)) o) (read_as (read_reply d.setup.params d.running.order x.ticket k))) e

past_get : (d : DeskState) (x : Txn) (k keys : ℕ) → read_past d x k ≡ Some keys → reply_to d (GetKey x k) ≡ Aborted (ShareReads keys)
past_get d x k keys e = ap (λ o. unwrap_or (option_map (λ q. Aborted (ShareReads q)) o) (read_as (read_reply d.setup.params d.running.order x.ticket k))) e

kept_write : (d : DeskState) (x : Txn) (k : ℕ) (value : Option (List ℕ)) → write_past d x k ≡ None → reply_to d (Write x k value) ≡ written_as (write_reply d.setup.params d.running.order x.ticket k)
kept_write d x k value e = ap (λ o. unwrap_or (option_map (λ keys. Aborted (ShareWrites keys)) o) (written_as (write_reply d.setup.params d.running.order x.ticket k))) e

past_write : (d : DeskState) (x : Txn) (k keys : ℕ) (value : Option (List ℕ)) → write_past d x k ≡ Some keys → reply_to d (Write x k value) ≡ Aborted (ShareWrites keys)
past_write d x k keys value e = ap (λ o. unwrap_or (option_map (λ q. Aborted (ShareWrites q)) o) (written_as (write_reply d.setup.params d.running.order x.ticket k))) e

pub replies_are_exact : RepliesAreExact
replies_are_exact d (GetKey x k) y (Value value) new e none step = sym (kept_get d x k step.within ∙ ap read_as step.reply)
replies_are_exact d (GetKey x k) y Waits new e none step = sym (kept_get d x k step.within ∙ ap read_as step.reply)
replies_are_exact d (GetKey x k) y (Aborted why) new e none (inl step) = not_aborted d y x why e none step.earlier
replies_are_exact d (GetKey x k) y (Aborted why) new e none (inr (inl step)) = ap Aborted step.cause ∙ sym (kept_get d x k step.within ∙ ap read_as step.reply)
replies_are_exact d (GetKey x k) y (Aborted why) new e none (inr (inr step)) = ap Aborted step.cause ∙ sym (past_get d x k step.keys step.passes)
replies_are_exact d (Poll x) y (Value value) new e none step = sym (polled d x step.key step.waited ∙ ap read_as step.reply)
replies_are_exact d (Poll x) y Waits new e none step = sym (polled d x step.key step.waited ∙ ap read_as step.reply)
replies_are_exact d (Poll x) y (Aborted why) new e none step = not_aborted d y x why e none step.earlier
replies_are_exact d (Write x k value) y Done new e none step = sym (kept_write d x k value step.within ∙ ap written_as step.reply)
replies_are_exact d (Write x k value) y (Aborted why) new e none (inl step) = not_aborted d y x why e none step.earlier
replies_are_exact d (Write x k value) y (Aborted why) new e none (inr (inl step)) = refused_as (write_reply d.setup.params d.running.order x.ticket k) why step.cause ∙ sym (kept_write d x k value step.within)
replies_are_exact d (Write x k value) y (Aborted why) new e none (inr (inr step)) = ap Aborted step.cause ∙ sym (past_write d x k step.keys value step.passes)
replies_are_exact d (Commit x) y Done new e none step = refl
replies_are_exact d (Commit x) y (Aborted why) new e none step = not_aborted d y x why e none step.earlier
replies_are_exact d (Abort x) y (Aborted why) new e none (inl step) = not_aborted d y x why e none step.earlier
replies_are_exact d (Abort x) y (Aborted why) new e none (inr step) = ap Aborted step.cause
replies_are_exact d (Begin c) y reply new e none step = absurd (none-some y e)
replies_are_exact d (Settled x) y reply new e none step = absurd (none-some y e)
replies_are_exact d Looks y reply new e none step = absurd (none-some y e)
replies_are_exact d (SignOff c) y reply new e none step = absurd (none-some y e)
replies_are_exact d (Stop f) y reply new e none step = absurd (none-some y e)
replies_are_exact d (Unsure f) y reply new e none step = absurd (none-some y e)
replies_are_exact d IsStopped y reply new e none step = absurd (none-some y e)
replies_are_exact d TakeBatch y reply new e none step = absurd (none-some y e)
replies_are_exact d (Deliver ks vs) y reply new e none step = absurd (none-some y e)
replies_are_exact d Close y reply new e none step = absurd (none-some y e)
replies_are_exact d (Publish n l) y reply new e none step = absurd (none-some y e)
replies_are_exact d _ y reply new e none step = absurd step

idle : {A : Type 0} (d : DeskState) (x y : Txn) → Some y ≡ Some x → goes_on d.running.order.works x.ticket ≡ false → goes_on d.running.order.works y.ticket ≡ true → A
idle d x y e off on = absurd (false≢true (sym off ∙ (ap (λ q. goes_on d.running.order.works q.ticket) (sym (same_Some y x e)) ∙ on)))

told : (d : DeskState) (x y : Txn) (why : Why ℕ) (new : DeskState) → Some y ≡ Some x → outcome_at d y ≡ Some (AbortedBy why) → new ≡ d
    → (w : Why ℕ) × (Aborted why ≡ Aborted w) × (outcome_at d x ≡ Some (AbortedBy w)) × (new ≡ d)
told d x y why new e is same = (why, refl, ap (outcome_at d) (sym (same_Some y x e)) ∙ is, same)

pub aborted_are_told : AbortedAreTold
aborted_are_told d (GetKey x k) y (Value value) new e off step = idle d y x e off step.live.goes
aborted_are_told d (GetKey x k) y Waits new e off step = idle d y x e off step.live.goes
aborted_are_told d (GetKey x k) y (Aborted why) new e off (inl step) = told d y x why new e step.earlier step.same
aborted_are_told d (GetKey x k) y (Aborted why) new e off (inr (inl step)) = idle d y x e off step.live.goes
aborted_are_told d (GetKey x k) y (Aborted why) new e off (inr (inr step)) = idle d y x e off step.live.goes
aborted_are_told d (Poll x) y (Value value) new e off step = idle d y x e off step.live.goes
aborted_are_told d (Poll x) y Waits new e off step = idle d y x e off step.live.goes
aborted_are_told d (Poll x) y (Aborted why) new e off step = told d y x why new e step.earlier step.same
aborted_are_told d (Write x k value) y Done new e off step = idle d y x e off step.live.goes
aborted_are_told d (Write x k value) y (Aborted why) new e off (inl step) = told d y x why new e step.earlier step.same
aborted_are_told d (Write x k value) y (Aborted why) new e off (inr (inl step)) = idle d y x e off step.live.goes
aborted_are_told d (Write x k value) y (Aborted why) new e off (inr (inr step)) = idle d y x e off step.live.goes
aborted_are_told d (Commit x) y Done new e off step = idle d y x e off step.live.goes
aborted_are_told d (Commit x) y (Aborted why) new e off step = told d y x why new e step.earlier step.same
aborted_are_told d (Abort x) y (Aborted why) new e off (inl step) = told d y x why new e step.earlier step.same
aborted_are_told d (Abort x) y (Aborted why) new e off (inr step) = idle d y x e off step.live.goes
aborted_are_told d (Begin c) y reply new e off step = absurd (none-some y e)
aborted_are_told d (Settled x) y reply new e off step = absurd (none-some y e)
aborted_are_told d Looks y reply new e off step = absurd (none-some y e)
aborted_are_told d (SignOff c) y reply new e off step = absurd (none-some y e)
aborted_are_told d (Stop f) y reply new e off step = absurd (none-some y e)
aborted_are_told d (Unsure f) y reply new e off step = absurd (none-some y e)
aborted_are_told d IsStopped y reply new e off step = absurd (none-some y e)
aborted_are_told d TakeBatch y reply new e off step = absurd (none-some y e)
aborted_are_told d (Deliver ks vs) y reply new e off step = absurd (none-some y e)
aborted_are_told d Close y reply new e off step = absurd (none-some y e)
aborted_are_told d (Publish n l) y reply new e off step = absurd (none-some y e)
aborted_are_told d _ y reply new e off step = absurd step

-- ---- the close

-- how one stands after others were aborted: as before, or it fell
record Stands (before after : List Work) (t : ℕ) : Type 0 where
  pub either : (fate_at after t ≡ fate_at before t) ⊎ ((on : ℕ) × (fate_at after t ≡ Some (Fell on)))

fall_fate : (o : Option ℕ) (w : Work) → ((fall o w).fate ≡ w.fate) ⊎ ((on : ℕ) × ((fall o w).fate ≡ Fell on))
fall_fate None w = inl refl
fall_fate (Some on) w = step (is_going w.fate)
  where
    step : (b : Bool) → ((if b then Fell on else w.fate) ≡ w.fate) ⊎ ((s : ℕ) × ((if b then Fell on else w.fate) ≡ Fell s))
    step true = inr (on, refl)
    step false = inl refl

cascade_stands : (before now : List Work) (n t : ℕ) → Stands now (cascade before now n) t
cascade_stands before now zero t = record { either = inl refl }
cascade_stands before now (suc n) t = ⊎_elim
    (λ same. here same (cascade_stands before now n t))
    (λ other. record { either = ⊎_elim (λ kept. inl (away other ∙ kept)) (λ fell. inr (fell.0, away other ∙ fell.1)) (cascade_stands before now n t).either })
    (cases_eq t (suc n))
  where
    f : Work → Work
    f w = fall (least_source (aborted_since before (cascade before now n)) w.ops) w

    away : (t ≡ suc n → ⊥) → fate_at (cascade before now (suc n)) t ≡ fate_at (cascade before now n) t
    away other = ap (option_map (λ w. w.fate)) (at_edit_other f (cascade before now n) (suc n) t other)

    there : t ≡ suc n → fate_at (cascade before now (suc n)) t ≡ option_map (λ w. (f w).fate) (at_ticket (cascade before now n) t)
    there same = subst (λ q. fate_at (cascade before now (suc n)) q ≡ option_map (λ w. (f w).fate) (at_ticket (cascade before now n) q)) (sym same)
        (ap (option_map (λ w. w.fate)) (at_edit_same f (cascade before now n) (suc n)) ∙ twice (at_ticket (cascade before now n) (suc n)))
      where
        twice : (o : Option Work) → option_map (λ w. w.fate) (option_map f o) ≡ option_map (λ w. (f w).fate) o
        twice None = refl
        twice (Some w) = refl

    moved : (o : Option Work) → (option_map (λ w. (f w).fate) o ≡ option_map (λ w. w.fate) o) ⊎ ((on : ℕ) × (option_map (λ w. (f w).fate) o ≡ Some (Fell on)))
    moved None = inl refl
    moved (Some w) = ⊎_elim (λ kept. inl (ap Some kept)) (λ fell. inr (fell.0, ap Some fell.1)) (fall_fate (least_source (aborted_since before (cascade before now n)) w.ops) w)

    here : t ≡ suc n → Stands now (cascade before now n) t → Stands now (cascade before now (suc n)) t
    here same so_far = record {
      either = ⊎_elim
          (λ kept. ⊎_elim (λ old. inl (there same ∙ (kept ∙ old))) (λ fell. inr (fell.0, there same ∙ (kept ∙ fell.1))) so_far.either)
          (λ fell. inr (fell.0, there same ∙ fell.1))
          (moved (at_ticket (cascade before now n) t));
    }

-- another's abort leaves one as it was, or fells it
aborted_stands : (ws : List Work) (s t : ℕ) → (t ≡ s → ⊥) → Stands ws (aborted ws s) t
aborted_stands ws s t other = record { either = ⊎_elim (λ kept. inl (kept ∙ away)) (λ fell. inr fell) (cascade_stands ws (edit end_work ws s) (length ws) t).either }
  where
    away : fate_at (edit end_work ws s) t ≡ fate_at ws t
    away = ap (option_map (λ w. w.fate)) (at_edit_other end_work ws s t other)

pub asked_kept : (part : Part) (s : ℕ) (why : Why ℕ) (t : ℕ) → asked_at (end_of part s why) t ≡ asked_at part t
asked_kept part s why t = ⊎_elim
    (λ same. subst (λ q. asked_at (end_of part q why) t ≡ asked_at part t) same
    (ap (λ o. unwrap_or (option_map (λ h. h.asked) o) false) (at_edit_same (note_cause why) part.holders t) ∙ noted (at_ticket part.holders t)))
    (λ other. ap (λ o. unwrap_or (option_map (λ h. h.asked) o) false) (at_edit_other (note_cause why) part.holders s t other))
    (cases_eq t s)
  where
    noted : (o : Option Holder) → unwrap_or (option_map (λ h. h.asked) (option_map (note_cause why) o)) false ≡ unwrap_or (option_map (λ h. h.asked) o) false
    noted None = refl
    noted (Some h) = refl

not_depends : {A : Type 0} (on : ℕ) (c : Option (Why ℕ)) → why_of (Fell on) c ≡ Some EpochEnd → A
not_depends on c e = absurd (let same : Depends on ≡ EpochEnd = same_Some _ _ e in cc)

cause_kept : (part : Part) (s t : ℕ) → (t ≡ s → ⊥) → cause_at (edit (note_cause EpochEnd) part.holders s) t ≡ cause_at part.holders t
cause_kept part s t other = ap (option_and_then (λ h. h.cause)) (at_edit_other (note_cause EpochEnd) part.holders s t other)

-- another's abort doesn't end one for the epoch's end
ended_before : (part : Part) (s t : ℕ) → (t ≡ s → ⊥) → why_at (end_of part s EpochEnd) t ≡ Some EpochEnd → why_at part t ≡ Some EpochEnd
ended_before part s t other e = ⊎_elim
    (λ kept. sym (ap₂ (λ (f : Option Fate) (c : Option (Why ℕ)). option_and_then (λ x. why_of x c) f) kept (cause_kept part s t other)) ∙ e)
    (λ fell. not_depends fell.0 (cause_at (edit (note_cause EpochEnd) part.holders s) t) (sym (ap (option_and_then (λ x. why_of x (cause_at (edit (note_cause EpochEnd) part.holders s) t))) fell.1) ∙ e))
    (aborted_stands part.order.works s t other).either

pub close_asked : (part : Part) (n t : ℕ) → asked_at (close_to part n) t ≡ asked_at part t
close_asked part zero t = refl
close_asked part (suc n) t = step (goes_on (close_to part n).order.works (suc n) && not (asked_at (close_to part n) (suc n))) ∙ close_asked part n t
  where
    step : (b : Bool) → asked_at (if b then end_of (close_to part n) (suc n) EpochEnd else close_to part n) t ≡ asked_at (close_to part n) t
    step true = asked_kept (close_to part n) (suc n) EpochEnd t
    step false = refl

both_hold : (a b : Bool) → (a && not b) ≡ true → b ≡ false
both_hold true true q = absurd (false≢true q)
both_hold true false q = refl
both_hold false b q = absurd (false≢true q)

ended_unasked : (part : Part) (n t : ℕ) → why_at (close_to part n) t ≡ Some EpochEnd → (why_at part t ≡ Some EpochEnd) ⊎ (asked_at part t ≡ false)
ended_unasked part zero t e = inl e
ended_unasked part (suc n) t e = step (goes_on (close_to part n).order.works (suc n) && not (asked_at (close_to part n) (suc n))) refl (ended_unasked part n t) e
  where
    step : (b : Bool) → (goes_on (close_to part n).order.works (suc n) && not (asked_at (close_to part n) (suc n))) ≡ b
        → (why_at (close_to part n) t ≡ Some EpochEnd → (why_at part t ≡ Some EpochEnd) ⊎ (asked_at part t ≡ false))
        → why_at (if b then end_of (close_to part n) (suc n) EpochEnd else close_to part n) t ≡ Some EpochEnd → (why_at part t ≡ Some EpochEnd) ⊎ (asked_at part t ≡ false)
    step false is so_far q = so_far q
    step true is so_far q = ⊎_elim
        (λ same. inr (sym (close_asked part n t) ∙ subst (λ u. asked_at (close_to part n) u ≡ false) (sym same) (both_hold _ _ is)))
        (λ other. so_far (ended_before (close_to part n) (suc n) t other q))
        (cases_eq t (suc n))

-- who goes on wasn't aborted
pub going_why : (part : Part) (t : ℕ) → goes_on part.order.works t ≡ true → why_at part t ≡ None
going_why part t e = step (at_ticket part.order.works t) e
  where
    by_fate : (f : Fate) → is_going f ≡ true → why_of f (cause_at part.holders t) ≡ None
    by_fate Going e = refl
    by_fate Ended e = absurd (false≢true e)
    by_fate (Fell on) e = absurd (false≢true e)

    step : (o : Option Work) → unwrap_or (option_map (λ w. is_going w.fate) o) false ≡ true → option_and_then (λ f. why_of f (cause_at part.holders t)) (option_map (λ w. w.fate) o) ≡ None
    step None e = refl
    step (Some w) e = by_fate w.fate e

pub ends_unasked : EndsUnasked
ends_unasked part t going e = ⊎_elim (λ before. absurd (none-some EpochEnd (sym (going_why part t going) ∙ before))) (λ q. q) (ended_unasked part (length part.order.works) t e)

-- ---- those that asked, and those that didn't

-- another's abort leaves the cause of one, or fells it
beside : (part : Part) (s t : ℕ) → (t ≡ s → ⊥) → (why_at part t ≡ None) ⊎ ((on : ℕ) × (why_at part t ≡ Some (Depends on)))
    → (why_at (end_of part s EpochEnd) t ≡ None) ⊎ ((on : ℕ) × (why_at (end_of part s EpochEnd) t ≡ Some (Depends on)))
beside part s t other before = ⊎_elim
    (λ kept.
    let same : why_at (end_of part s EpochEnd) t ≡ why_at part t = ap₂ (λ (f : Option Fate) (c : Option (Why ℕ)). option_and_then (λ x. why_of x c) f) kept (cause_kept part s t other) in
    ⊎_elim (λ none. inl (same ∙ none)) (λ fell. inr (fell.0, same ∙ fell.1)) before)
    (λ fell. inr (fell.0, ap (option_and_then (λ x. why_of x (cause_at (edit (note_cause EpochEnd) part.holders s) t))) fell.1))
    (aborted_stands part.order.works s t other).either

asked_upto : (part : Part) (t n : ℕ) → goes_on part.order.works t ≡ true → asked_at part t ≡ true → (why_at (close_to part n) t ≡ None) ⊎ ((on : ℕ) × (why_at (close_to part n) t ≡ Some (Depends on)))
asked_upto part t zero going asked = inl (going_why part t going)
asked_upto part t (suc n) going asked = step (goes_on (close_to part n).order.works (suc n) && not (asked_at (close_to part n) (suc n))) refl (asked_upto part t n going asked)
  where
    step : (b : Bool) → (goes_on (close_to part n).order.works (suc n) && not (asked_at (close_to part n) (suc n))) ≡ b
        → (why_at (close_to part n) t ≡ None) ⊎ ((on : ℕ) × (why_at (close_to part n) t ≡ Some (Depends on)))
        → (why_at (if b then end_of (close_to part n) (suc n) EpochEnd else close_to part n) t ≡ None) ⊎ ((on : ℕ) × (why_at (if b then end_of (close_to part n) (suc n) EpochEnd else close_to part n) t ≡ Some (Depends on)))
    step false is so_far = so_far
    step true is so_far = ⊎_elim
        (λ same. absurd (false≢true (sym (subst (λ u. asked_at (close_to part n) u ≡ false) (sym same) (both_hold _ _ is)) ∙ (close_asked part n t ∙ asked))))
        (λ other. beside (close_to part n) (suc n) t other so_far)
        (cases_eq t (suc n))

-- at a close nobody that asked to commit is aborted but because of a source
pub asked_stay : AskedStay
asked_stay part t going asked = asked_upto part t (length part.order.works) going asked

fate_goes : (ws : List Work) (t : ℕ) → goes_on ws t ≡ unwrap_or (option_map is_going (fate_at ws t)) false
fate_goes ws t = step (at_ticket ws t)
  where
    step : (o : Option Work) → unwrap_or (option_map (λ w. is_going w.fate) o) false ≡ unwrap_or (option_map is_going (option_map (λ w. w.fate) o)) false
    step None = refl
    step (Some w) = refl

-- an abort revives none
stays_gone : (before after : List Work) (t : ℕ) → Stands before after t → goes_on before t ≡ false → goes_on after t ≡ false
stays_gone before after t h off = ⊎_elim
    (λ kept. fate_goes after t ∙ (ap (λ f. unwrap_or (option_map is_going f) false) kept ∙ (sym (fate_goes before t) ∙ off)))
    (λ fell. fate_goes after t ∙ ap (λ f. unwrap_or (option_map is_going f) false) fell.1)
    h.either

ended_gone : (ws : List Work) (t : ℕ) → goes_on (aborted ws t) t ≡ false
ended_gone ws t = stays_gone (edit end_work ws t) (aborted ws t) t (cascade_stands ws (edit end_work ws t) (length ws) t)
    (ap (λ o. unwrap_or (option_map (λ w. is_going w.fate) o) false) (at_edit_same end_work ws t) ∙ none_going (at_ticket ws t))
  where
    none_going : (o : Option Work) → unwrap_or (option_map (λ w. is_going w.fate) (option_map end_work o)) false ≡ false
    none_going None = refl
    none_going (Some w) = refl

gone_after : (ws : List Work) (s t : ℕ) → goes_on ws t ≡ false → goes_on (aborted ws s) t ≡ false
gone_after ws s t off = ⊎_elim
    (λ same. subst (λ q. goes_on (aborted ws q) t ≡ false) same (ended_gone ws t))
    (λ other. stays_gone ws (aborted ws s) t (aborted_stands ws s t other) off)
    (cases_eq t s)

unasked_upto : (part : Part) (t n : ℕ) → 0 < t → t ≤ n → asked_at part t ≡ false → goes_on (close_to part n).order.works t ≡ false
unasked_upto part t zero above within unasked = absurd (omega arith)
unasked_upto part t (suc n) above within unasked = ⊎_elim
    (λ same. here same (goes_on (close_to part n).order.works (suc n)) (asked_at (close_to part n) (suc n)) refl (subst (λ u. asked_at (close_to part n) u ≡ false) same (close_asked part n t ∙ unasked)))
    (λ other. away (goes_on (close_to part n).order.works (suc n) && not (asked_at (close_to part n) (suc n))) (unasked_upto part t n above (omega arith) unasked))
    (cases_eq t (suc n))
  where
    away : (b : Bool) → goes_on (close_to part n).order.works t ≡ false → goes_on (if b then end_of (close_to part n) (suc n) EpochEnd else close_to part n).order.works t ≡ false
    away true off = gone_after (close_to part n).order.works (suc n) t off
    away false off = off

    here : t ≡ suc n → (a b : Bool) → goes_on (close_to part n).order.works (suc n) ≡ a → b ≡ false → goes_on (if a && not b then end_of (close_to part n) (suc n) EpochEnd else close_to part n).order.works t ≡ false
    here same true true is off = absurd (false≢true (sym off))
    here same true false is off = subst (λ q. goes_on (aborted (close_to part n).order.works q) t ≡ false) same (ended_gone (close_to part n).order.works t)
    here same false b is off = ap (λ q. goes_on (close_to part n).order.works q) same ∙ is

-- a close leaves none that hasn't asked
pub unasked_end : UnaskedEnd
unasked_end part t going unasked = let range = goes_on_range part.order.works t going in unasked_upto part t (length part.order.works) range.0 range.1 unasked
