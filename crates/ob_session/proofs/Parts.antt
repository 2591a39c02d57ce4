-- What each change of an epoch leaves of what its clients were told.
use Rattle.std.proofs.Common.{◌≡◌, ℕ, zero, suc, ◌+◌, Bool, true, false, not, ◌&&◌, if◌then◌else◌, List, [], ◌∷◌, length, Some, option_map, unwrap_or, refl, sym, ap, ◌∙◌, subst, arith}
use Rattle.std.proofs.lemmas.Bool.{false≢true}
use Rattle.ob_base.specs.declared.fault.Fault.{Fault}
use Rattle.ob_serial.specs.declared.records.Why.{Why}
use Rattle.ob_serial.specs.declared.records.Why.TheVariants.{EpochEnd}
use Rattle.ob_order.specs.Works.{Work, is_going, at_ticket, edit, edit_index, goes_on, end_work, stop_work, least_source, aborted_since, fall, cascade}
use Rattle.ob_order.proofs.Falls.{fallen_aborted}
use Rattle.ob_desk.specs.declared.clients.Holder.{Holder}
use Rattle.ob_desk.specs.Desk.{Part, asked_at, note_cause, end_of, close_to, closing, stop_holder, stop_part}
use Rattle.ob_desk.proofs.Answered.{unasked_end, close_asked}
use Rattle.ob_session.specs.Clients.{Told, on_last, last_of}
use Rattle.ob_session.proofs.Mirrors.{Mirrors, found_last, edited, last_edited, mapped, weakened}
use Rattle.ob_session.proofs.Fits.{Fits, fits_closed, fits_stopped, fits_fell}

pub edit_same : {A : Type 0} (xs : List A) (t : ℕ) → edit (λ x. x) xs t ≡ xs
edit_same xs zero = refl
edit_same xs (suc n) = at_index xs n
  where
    at_index : {B : Type 0} (ys : List B) (i : ℕ) → edit_index (λ y. y) ys i ≡ ys
    at_index [] i = refl
    at_index (y ∷ ys) zero = refl
    at_index (y ∷ ys) (suc i) = ap (λ zs. y ∷ zs) (at_index ys i)

-- the last one's ticket is edited, and what was told of it
pub told_at : (P : ℕ → Work → Holder → Told → Type 0) (n : ℕ) → ((u : ℕ) (w : Work) (h : Holder) (x : Told) → P u w h x → x.txn.ticket ≡ u)
    → (f : Work → Work) (g : Holder → Holder) (k : Told → Told) (t : ℕ) (ws : List Work) (hs : List Holder) (told : List Told) (one : Told) → ((h : Holder) → (g h).client ≡ h.client)
    → one.txn.ticket ≡ t → last_of told ≡ Some one
    → ((w : Work) (h : Holder) → at_ticket ws t ≡ Some w → at_ticket hs t ≡ Some h → P t w h one → P t (f w) (g h) (k one))
    → Mirrors P n 1 ws hs told → Mirrors P n 1 (edit f ws t) (edit g hs t) (on_last k told)
told_at P n named f g k zero ws hs told one keeps ticket last fit m =
    let found = found_last P n 1 ws hs told one m last in
    let at : one.txn.ticket ≡ 1 + found.index = named (1 + found.index) found.work found.holder one found.fits in
    absurd (omega (arith, at, ticket))
told_at P n named f g k (suc i) ws hs told one keeps ticket last fit m = last_edited P n f g k 1 i (suc i) ws hs told one named keeps (omega arith) ticket last fit m

-- what was told of the last one changes alone
pub retold : (P : ℕ → Work → Holder → Told → Type 0) (n : ℕ) → ((u : ℕ) (w : Work) (h : Holder) (x : Told) → P u w h x → x.txn.ticket ≡ u)
    → (k : Told → Told) (ws : List Work) (hs : List Holder) (told : List Told) (one : Told) → last_of told ≡ Some one
    → ((w : Work) (h : Holder) → at_ticket ws one.txn.ticket ≡ Some w → at_ticket hs one.txn.ticket ≡ Some h → P one.txn.ticket w h one → P one.txn.ticket w h (k one))
    → Mirrors P n 1 ws hs told → Mirrors P n 1 ws hs (on_last k told)
retold P n named k ws hs told one last fit m =
    subst (λ (vs : List Work). Mirrors P n 1 vs hs (on_last k told)) (edit_same ws one.txn.ticket)
    (subst (λ (gs : List Holder). Mirrors P n 1 (edit (λ w. w) ws one.txn.ticket) gs (on_last k told)) (edit_same hs one.txn.ticket)
    (told_at P n named (λ w. w) (λ h. h) k one.txn.ticket ws hs told one (λ h. refl) refl last fit m))

module _ (n epoch : ℕ) where
  abbrev pub Tells : List Work → List Holder → List Told → Type 0
  Tells ws hs told = Mirrors (Fits n epoch) n 1 ws hs told

  -- one ticket is edited
  pub edited_at : (f : Work → Work) (g : Holder → Holder) (t : ℕ) (ws : List Work) (hs : List Holder) (told : List Told) → ((h : Holder) → (g h).client ≡ h.client)
      → ((u : ℕ) (w : Work) (h : Holder) (one : Told) → at_ticket ws t ≡ Some w → at_ticket hs t ≡ Some h → h.client ≡ n → Fits n epoch u w h one → Fits n epoch u (f w) (g h) one)
      → Tells ws hs told → Tells (edit f ws t) (edit g hs t) told
  edited_at f g zero ws hs told keeps fit m = m
  edited_at f g (suc i) ws hs told keeps fit m = edited (Fits n epoch) n f g 1 i ws hs told keeps fit m

  -- works alone
  pub worked_at : (f : Work → Work) (t : ℕ) (ws : List Work) (hs : List Holder) (told : List Told)
      → ((u : ℕ) (w : Work) (h : Holder) (one : Told) → at_ticket ws t ≡ Some w → at_ticket hs t ≡ Some h → h.client ≡ n → Fits n epoch u w h one → Fits n epoch u (f w) h one)
      → Tells ws hs told → Tells (edit f ws t) hs told
  worked_at f t ws hs told fit m = subst (λ (gs : List Holder). Tells (edit f ws t) gs told) (edit_same hs t) (edited_at f (λ h. h) t ws hs told (λ h. refl) fit m)

  -- those that depend on an aborted one fall
  pub cascaded : (before now : List Work) (hs : List Holder) (told : List Told) (u : ℕ) → Tells now hs told → Tells (cascade before now u) hs told
  cascaded before now hs told zero m = m
  cascaded before now hs told (suc u) m = worked_at (λ w. fall (least_source (aborted_since before (cascade before now u)) w.ops) w) (suc u) (cascade before now u) hs told
      (λ t w h one at_work at_holder mine fits. fits_fell n epoch t w h one (least_source (aborted_since before (cascade before now u)) w.ops) fits)
      (cascaded before now hs told u m)

  -- another's transaction is aborted
  pub ended_other : (part : Part) (t : ℕ) (why : Why ℕ) (told : List Told) → ((h : Holder) → at_ticket part.holders t ≡ Some h → h.client ≡ n → ⊥) → Tells part.order.works part.holders told
      → Tells (end_of part t why).order.works (end_of part t why).holders told
  ended_other part t why told other m = cascaded part.order.works (edit end_work part.order.works t) (edit (note_cause why) part.holders t) told (length part.order.works)
      (edited_at end_work (note_cause why) t part.order.works part.holders told (λ h. refl) (λ u w h one at_work at_holder mine fits. absurd (other h at_holder mine)) m)

  -- one is aborted at the close
  ended_closed : (part : Part) (t : ℕ) (told : List Told) → goes_on part.order.works t ≡ true → Tells part.order.works part.holders told → Tells (end_of part t EpochEnd).order.works (end_of part t EpochEnd).holders told
  ended_closed part t told going m = cascaded part.order.works (edit end_work part.order.works t) (edit (note_cause EpochEnd) part.holders t) told (length part.order.works)
      (edited_at end_work (note_cause EpochEnd) t part.order.works part.holders told (λ h. refl)
      (λ u w h one at_work at_holder mine fits. fits_closed n epoch u w h one EpochEnd (λ e. cc) (sym (ap (λ o. unwrap_or (option_map (λ v. is_going v.fate) o) false) at_work) ∙ going) fits) m)

  pub closed_to : (part : Part) (u : ℕ) (told : List Told) → Tells part.order.works part.holders told → Tells (close_to part u).order.works (close_to part u).holders told
  closed_to part zero told m = m
  closed_to part (suc u) told m = step (goes_on (close_to part u).order.works (suc u)) (not (asked_at (close_to part u) (suc u))) refl (closed_to part u told m)
    where
      step : (a b : Bool) → goes_on (close_to part u).order.works (suc u) ≡ a → Tells (close_to part u).order.works (close_to part u).holders told
          → Tells (if a && b then end_of (close_to part u) (suc u) EpochEnd else close_to part u).order.works (if a && b then end_of (close_to part u) (suc u) EpochEnd else close_to part u).holders told
      step true true going m = ended_closed (close_to part u) (suc u) told going m
      step true false going m = m
      step false b going m = m

  pub stopped : (part : Part) (f : Fault) (told : List Told) → Tells part.order.works part.holders told → Tells (stop_part f part).order.works (stop_part f part).holders told
  stopped part f told m = mapped (Fits n epoch) (Fits n epoch) n stop_work (stop_holder f) 1 part.order.works part.holders told (λ h. refl) (λ t w h one fits. fits_stopped n epoch t w h one f fits) m

-- ---- a closed part

-- who goes on asked to commit
pub record FitsClosed (n epoch t : ℕ) (w : Work) (h : Holder) (one : Told) : Type 0 where
  pub fits : Fits n epoch t w h one
  pub asked : is_going w.fate ≡ true → h.asked ≡ true

went_on : (part : Part) (u t : ℕ) → goes_on (close_to part u).order.works t ≡ true → goes_on part.order.works t ≡ true
went_on part zero t e = e
went_on part (suc u) t e = went_on part u t (step (goes_on (close_to part u).order.works (suc u) && not (asked_at (close_to part u) (suc u))) e)
  where
    step : (b : Bool) → goes_on (if b then end_of (close_to part u) (suc u) EpochEnd else close_to part u).order.works t ≡ true → goes_on (close_to part u).order.works t ≡ true
    step true e = (fallen_aborted (close_to part u).order.works (suc u)).went_on t e
    step false e = e

-- who goes on behind the close asked to commit
outlasts : (part : Part) (t : ℕ) (b : Bool) → asked_at part t ≡ b → goes_on (closing part).order.works t ≡ true → b ≡ true
outlasts part t true is e = refl
outlasts part t false is e = absurd (false≢true (sym (unasked_end part t (went_on part (length part.order.works) t e) is) ∙ e))

pub tells_closed : (n epoch : ℕ) (part : Part) (told : List Told) → Mirrors (Fits n epoch) n 1 part.order.works part.holders told
    → Mirrors (FitsClosed n epoch) n 1 (closing part).order.works (closing part).holders told
tells_closed n epoch part told m = weakened (Fits n epoch) (FitsClosed n epoch) n 1 (closing part).order.works (closing part).holders told
    (λ t i w h one at at_work at_holder fits. record {
      fits = fits;
      asked = λ going.
          let kept : asked_at part (suc i) ≡ h.asked = sym (close_asked part (length part.order.works) (suc i)) ∙ ap (λ o. unwrap_or (option_map (λ q. q.asked) o) false) at_holder in
          outlasts part (suc i) h.asked kept (ap (λ o. unwrap_or (option_map (λ v. is_going v.fate) o) false) at_work ∙ going);
    })
    (closed_to n epoch part (length part.order.works) told m)
