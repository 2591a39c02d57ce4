-- A property of the causes of aborts that every call keeps: over any run each published record has it.
use Rattle.std.proofs.Common.{◌≡◌, ℕ, zero, suc, ◌+◌, Bool, true, false, not, ◌&&◌, if◌then◌else◌, List, [], ◌∷◌, ◌++◌, length, All, Option, None, Some, option_map, option_and_then, unwrap_or, refl, sym, ap, ap₂, ◌∙◌, subst, inl, inr, ⊎_elim, length-append, ◌==◌}
use Rattle.std.specs.Option.{option_or}
use Rattle.std.proofs.lemmas.Bool.{cases_eq, false≢true}
use Rattle.std.proofs.lemmas.List.{append-nil}
use Rattle.std.proofs.lemmas.List.Elements.{All-nil, All-cons, All-append}
use Rattle.std.proofs.lemmas.Option.{none-some, same_Some}
use Rattle.ob_base.specs.declared.fault.Fault.{Fault}
use Rattle.ob_base.specs.declared.op.Op.{Op}
use Rattle.ob_base.specs.declared.op.Op.TheVariants.{Get}
use Rattle.ob_serial.specs.Serial.{EpochRecord}
use Rattle.ob_serial.specs.declared.records.Why.{Why}
use Rattle.ob_serial.specs.declared.records.Why.TheVariants.{Depends, ReadsFull, ShareReads, ShareWrites, EpochEnd, Asked}
use Rattle.ob_order.specs.declared.fate.Fate.{Fate}
use Rattle.ob_order.specs.declared.fate.Fate.TheVariants.{Fell}
use Rattle.ob_order.specs.Works.{Work, is_going, at_ticket, edit, goes_on, fate_at, wait_for, add_op, with_op, end_work, aborted, Tidy}
use Rattle.ob_order.specs.Order.{OrderState, fresh, after_begin, after_queued, read_reply, write_reply, write_op}
use Rattle.ob_order.specs.declared.answers.Version.{Version}
use Rattle.ob_order.specs.declared.answers.Read.TheVariants.{Full as ReadsAreFull}
use Rattle.ob_order.proofs.Edits.{at_edit_same, at_edit_other, slice_get-push, length-edit}
use Rattle.ob_order.proofs.Falls.{fallen_aborted, fallen_ended, fallen_waits, goes_on-edit, length-aborted}
use Rattle.ob_order.proofs.Tidies.{tidy_none, tidy_begun, tidy_got, tidy_wrote, tidy_waits, tidy_aborted}
use Rattle.ob_desk.proofs.Fine.{read_found, again_found}
use Rattle.ob_desk.specs.declared.calls.Txn.{Txn}
use Rattle.ob_desk.specs.declared.clients.Holder.{Holder}
use Rattle.ob_desk.specs.Desk.{Part, DeskState, Setup, new_desk, new_part, is_memory, stop_closed, stopped_by, stop_part, end_of, end_unasked, close_to, closing, record_of, with_order, with_holder, reading, writing}
use Rattle.ob_desk.specs.Desk.{note_cause, note_asked, new_holder, why_of, why_at, cause_at, why_refused, asked_at, published, records_told, Call, Begin, GetKey, Poll, Write, Commit, Abort, Settled}
use Rattle.ob_desk.specs.Desk.{Looks, SignOff, Stop, Unsure, IsStopped, TakeBatch, Deliver, Close, Publish, Reply, Begun, Refused, Value, Waits, Aborted, Done, IsSettled, Seen, StoppedBy, Batch, Writes}
use Rattle.ob_desk.specs.Desk.{Published, DeskStep, MayCall, IsLive}
use Rattle.ob_shares.specs.declared.named.Named.{Named}
use Rattle.ob_shares.specs.Shares.{Uses, count_named, has_named, past}
use Rattle.ob_session.specs.Steps.{Leads}
use Rattle.ob_outcomes.proofs.Grows.{Grows, grows_op, grows_begun, grows_fallen, HasLost, stands_aborted}
use Rattle.ob_outcomes.proofs.Desks.{Runs, never_none, runs_step}

-- What is said of ticket t, aborted for a cause (P), stays true as works grow; it's true at first; and so of what else is said of the works (Q).
-- Of a desk at a get there may be more known (Z).
pub record IsTale (setup : Setup) (clients : List ℕ) (P : List Work → ℕ → Why ℕ → Type 0) (Q : List Work → Type 0) (Z : DeskState → Type 0) : Type 0 where
  pub lasts : (ws vs : List Work) (t : ℕ) (why : Why ℕ) → Grows ws vs → P ws t why → P vs t why
  pub asks : (ws : List Work) (t : ℕ) → P ws t Asked
  pub ends : (ws : List Work) (t : ℕ) → P ws t EpochEnd
  pub falls : (ws : List Work) (s t on : ℕ) → Q ws → goes_on ws s ≡ true → goes_on ws t ≡ true → (t ≡ s → ⊥) → HasLost (aborted ws s) t on → P (aborted ws s) t (Depends on)
  pub full : (d : DeskState) (x : Txn) (k queued left : ℕ) → Z d → d.stop ≡ None → Runs setup clients d → MayCall d (GetKey x k) → IsLive d x → Q d.running.order.works
      → read_reply setup.params d.running.order x.ticket k ≡ ReadsAreFull queued left → P d.running.order.works x.ticket (ReadsFull queued left)
  pub refused : (o : OrderState) (t k : ℕ) (why : Why ℕ) → Q o.works → goes_on o.works t ≡ true → why_refused (write_reply setup.params o t k) ≡ Some why → P o.works t why
  pub past_reads : (ws : List Work) (t keys : ℕ) → setup.shares.reads ≡ Some keys → P ws t (ShareReads keys)
  pub past_writes : (ws : List Work) (t keys : ℕ) → setup.shares.writes ≡ Some keys → P ws t (ShareWrites keys)
  pub empty : Q []
  pub fewer : (ws vs : List Work) → length vs ≡ length ws → ((t : ℕ) → goes_on vs t ≡ true → goes_on ws t ≡ true) → Q ws → Q vs
  pub begins : (d : DeskState) (client : ℕ) → Runs setup clients d → MayCall d (Begin client) → Q d.running.order.works → Q (d.running.order.works ++ fresh ∷ [])

-- who goes past a share has it
past_given : (share : Option ℕ) (names : List Named) (client key keys : ℕ) → past share names client key ≡ Some keys → share ≡ Some keys
past_given None names client key keys e = absurd (none-some keys e)
past_given (Some most) names client key keys e = by (not (has_named names client key) && (count_named names client == most)) e
  where
    by : (b : Bool) → (if b then Some most else None) ≡ Some keys → Some most ≡ Some keys
    by true is = is
    by false is = absurd (none-some keys is)

-- ---- fates and causes

fate_edit : (f : Work → Work) (ws : List Work) (t u : ℕ) → ((w : Work) → (f w).fate ≡ w.fate) → fate_at (edit f ws t) u ≡ fate_at ws u
fate_edit f ws t u keeps = ⊎_elim
    (λ same. subst (λ q. fate_at (edit f ws t) q ≡ fate_at ws q) (sym same) (ap (option_map (λ w. w.fate)) (at_edit_same f ws t) ∙ kept (at_ticket ws t)))
    (λ other. ap (option_map (λ w. w.fate)) (at_edit_other f ws t u other))
    (cases_eq u t)
  where
    kept : (o : Option Work) → option_map (λ w. w.fate) (option_map f o) ≡ option_map (λ w. w.fate) o
    kept None = refl
    kept (Some w) = ap Some (keeps w)

cause_edit : (f : Holder → Holder) (hs : List Holder) (t u : ℕ) → ((h : Holder) → (f h).cause ≡ h.cause) → cause_at (edit f hs t) u ≡ cause_at hs u
cause_edit f hs t u keeps = ⊎_elim
    (λ same. subst (λ q. cause_at (edit f hs t) q ≡ cause_at hs q) (sym same) (ap (option_and_then (λ h. h.cause)) (at_edit_same f hs t) ∙ kept (at_ticket hs t)))
    (λ other. ap (option_and_then (λ h. h.cause)) (at_edit_other f hs t u other))
    (cases_eq u t)
  where
    kept : (o : Option Holder) → option_and_then (λ h. h.cause) (option_map f o) ≡ option_and_then (λ h. h.cause) o
    kept None = refl
    kept (Some h) = keeps h

-- why one was aborted goes by fate and cause
abbrev why_by : Option Fate → Option (Why ℕ) → Option (Why ℕ)
why_by fate cause = option_and_then (λ f. why_of f cause) fate

module _ (P : List Work → ℕ → Why ℕ → Type 0) (Q : List Work → Type 0) where
  pub record Told (part : Part) : Type 0 where
    pub at_each : (t : ℕ) (why : Why ℕ) → why_at part t ≡ Some why → P part.order.works t why

  -- what is kept of a part that wasn't stopped
  pub record Sound (part : Part) : Type 0 where
    pub told : Told part
    pub tidy : Tidy part.order.works
    pub even : length part.holders ≡ length part.order.works
    pub more : Q part.order.works

  pub record Good (d : DeskState) : Type 0 where
    pub running : d.stop ≡ None → Sound d.running
    pub closed : (part : Part) → d.closed ≡ Some part → Sound part

  module _ (setup : Setup) (clients : List ℕ) (Z : DeskState → Type 0) (tale : IsTale setup clients P Q Z) where
    -- what clients named changes nothing
    sound_used : (part : Part) (u : Uses) → Sound part → Sound (record part { uses = u })
    sound_used part u h = record { told = record { at_each = h.told.at_each }; tidy = h.tidy; even = h.even; more = h.more }

    -- nobody's fate or cause changed
    sound_alike : (old new : Part) → Grows old.order.works new.order.works → ((t : ℕ) (why : Why ℕ) → why_at new t ≡ Some why → why_at old t ≡ Some why) → Tidy new.order.works
        → length new.holders ≡ length new.order.works → Q new.order.works → Sound old → Sound new
    sound_alike old new grows same tidy even more h = record {
      told = record { at_each = λ t why e. tale.lasts old.order.works new.order.works t why grows (h.told.at_each t why (same t why e)) };
      tidy = tidy;
      even = even;
      more = more;
    }

    sound_new : (epoch left : ℕ) → Sound (new_part epoch left)
    sound_new epoch left = record { told = record { at_each = at_each }; tidy = tidy_none; even = refl; more = tale.empty }
      where
        at_each : (t : ℕ) (why : Why ℕ) → why_at (new_part epoch left) t ≡ Some why → P [] t why
        at_each zero why e = absurd (none-some why e)
        at_each (suc t) why e = absurd (none-some why e)

    sound_begun : (d : DeskState) (client : ℕ) → Runs setup clients d → MayCall d (Begin client) → Sound d.running → Sound (record d.running { order = after_begin d.running.order; holders = d.running.holders ++ new_holder client ∷ [] })
    sound_begun d client runs may h = sound_alike d.running _ (grows_begun d.running.order.works) same (tidy_begun d.running.order.works h.tidy)
        (length-append d.running.holders (new_holder client ∷ []) ∙ (ap (λ q. q + 1) h.even ∙ sym (length-append d.running.order.works (fresh ∷ []))))
        (tale.begins d client runs may h.more) h
      where
        ws : List Work
        ws = d.running.order.works

        hs : List Holder
        hs = d.running.holders

        cause : (t : ℕ) → cause_at (hs ++ new_holder client ∷ []) t ≡ cause_at hs t
        cause zero = refl
        cause (suc n) = ⊎_elim
            (λ old. ap (option_and_then (λ h. h.cause)) old)
            (λ last. ap (option_and_then (λ h. h.cause)) last.2 ∙ sym (ap (option_and_then (λ h. h.cause)) last.1))
            (slice_get-push hs (new_holder client) n)

        same : (t : ℕ) (why : Why ℕ) → why_by (fate_at (ws ++ fresh ∷ []) t) (cause_at (hs ++ new_holder client ∷ []) t) ≡ Some why → why_by (fate_at ws t) (cause_at hs t) ≡ Some why
        same zero why e = absurd (none-some why e)
        same (suc n) why e = ⊎_elim
            (λ old. ap₂ why_by (sym (ap (option_map (λ w. w.fate)) old)) (sym (cause (suc n))) ∙ e)
            (λ last. absurd (none-some why (sym (ap (λ o. why_by (option_map (λ w. w.fate) o) (cause_at (hs ++ new_holder client ∷ []) (suc n))) last.2) ∙ e)))
            (slice_get-push ws fresh n)

    sound_op : (part : Part) (t : ℕ) (o : Op ℕ) → Tidy (with_op part.order.works t o) → Sound part → Sound (with_order part (record part.order { works = with_op part.order.works t o }))
    sound_op part t o tidy h = sound_alike part _ (grows_op part.order.works t o)
        (λ u why e. ap (λ f. why_by f (cause_at part.holders u)) (sym (fate_edit (add_op o) part.order.works t u (λ w. refl))) ∙ e)
        tidy (h.even ∙ sym (length-edit (add_op o) part.order.works t))
        (tale.fewer part.order.works _ (length-edit (add_op o) part.order.works t) (λ u going. sym (goes_on-edit (add_op o) part.order.works t u (λ w. refl)) ∙ going) h.more) h

    sound_waits : (part : Part) (t k : ℕ) → Sound part → Sound (with_order part (after_queued part.order t k))
    sound_waits part t k h = sound_alike part _ (grows_fallen part.order.works (edit (wait_for k) part.order.works t) (fallen_waits part.order.works t k))
        (λ u why e. ap (λ f. why_by f (cause_at part.holders u)) (sym (fate_edit (wait_for k) part.order.works t u (λ w. refl))) ∙ e)
        (tidy_waits part.order.works t k h.tidy) (h.even ∙ sym (length-edit (wait_for k) part.order.works t))
        (tale.fewer part.order.works _ (length-edit (wait_for k) part.order.works t) (λ u going. sym (goes_on-edit (wait_for k) part.order.works t u (λ w. refl)) ∙ going) h.more) h

    sound_asked : (part : Part) (t : ℕ) → Sound part → Sound (with_holder note_asked part t)
    sound_asked part t h = sound_alike part _ (record { reads = λ k s u e. e; gone = λ s e. e; longer = λ u os e. ([], e ∙ ap Some (sym (append-nil os))) })
        (λ u why e. ap (why_by (fate_at part.order.works u)) (sym (cause_edit note_asked part.holders t u (λ x. refl))) ∙ e)
        h.tidy (length-edit note_asked part.holders t ∙ h.even) h.more h

    -- the same works
    sound_order : (part : Part) (o : OrderState) → o.works ≡ part.order.works → Sound part → Sound (with_order part o)
    sound_order part o same h = record {
      told = record { at_each = λ t why e. subst (λ ws. P ws t why) (sym same) (h.told.at_each t why (ap (λ ws. why_by (fate_at ws t) (cause_at part.holders t)) (sym same) ∙ e)) };
      tidy = subst Tidy (sym same) h.tidy;
      even = h.even ∙ ap length (sym same);
      more = subst Q (sym same) h.more;
    }

    -- ---- an abort

    told_ended : (part : Part) (s : ℕ) (why : Why ℕ) → goes_on part.order.works s ≡ true → P part.order.works s why → Sound part → (t : ℕ) (w : Why ℕ) → why_at (end_of part s why) t ≡ Some w → P (aborted part.order.works s) t w
    told_ended part s why going here h t w e = ⊎_elim kept fell (stands_aborted ws s t h.tidy.rises).either
      where
        ws : List Work
        ws = part.order.works

        vs : List Work
        vs = aborted ws s

        grows : Grows ws vs
        grows = grows_fallen ws vs (fallen_aborted ws s)

        cause : ℕ → Option (Why ℕ)
        cause u = cause_at (edit (note_cause why) part.holders s) u

        -- the one that was aborted itself
        itself : t ≡ s → why_by (fate_at (edit end_work ws s) t) (cause t) ≡ Some w → P vs t w
        itself at f = by_holder (at_ticket ws s) (at_ticket part.holders s)
            (ap₂ why_by (sym (ap (option_map (λ x. x.fate)) (at_edit_same end_work ws s))) (sym (ap (option_and_then (λ x. x.cause)) (at_edit_same (note_cause why) part.holders s)))
            ∙ subst (λ q. why_by (fate_at (edit end_work ws s) q) (cause q) ≡ Some w) at f)
          where
            by_holder : (a : Option Work) (b : Option Holder) → why_by (option_map (λ x. x.fate) (option_map end_work a)) (option_and_then (λ x. x.cause) (option_map (note_cause why) b)) ≡ Some w → P vs t w
            by_holder None b q = absurd (none-some w q)
            by_holder (Some a) None q = subst (P vs t) (same_Some Asked w q) (tale.asks vs t)
            by_holder (Some a) (Some b) q = subst (P vs t) (same_Some why w q) (subst (λ u. P vs u why) (sym at) (tale.lasts ws vs s why grows here))

        kept : fate_at vs t ≡ fate_at (edit end_work ws s) t → P vs t w
        kept same =
            let f : why_by (fate_at (edit end_work ws s) t) (cause t) ≡ Some w = ap (λ x. why_by x (cause t)) (sym same) ∙ e in
            ⊎_elim
            (λ at. itself at f)
            (λ other. tale.lasts ws vs t w grows (h.told.at_each t w (ap₂ why_by
            (sym (ap (option_map (λ x. x.fate)) (at_edit_other end_work ws s t other)))
            (sym (ap (option_and_then (λ x. x.cause)) (at_edit_other (note_cause why) part.holders s t other))) ∙ f)))
            (cases_eq t s)

        fell : ((on : ℕ) × (fate_at vs t ≡ Some (Fell on)) × (goes_on (edit end_work ws s) t ≡ true) × HasLost vs t on) → P vs t w
        fell c =
            let is : Depends c.0 ≡ w = same_Some (Depends c.0) w (sym (ap (λ x. why_by x (cause t)) c.1) ∙ e) in
            subst (P vs t) is (tale.falls ws s t c.0 h.more going ((fallen_ended ws s).went_on t c.2)
            (λ at. absurd (false≢true (sym (none_there (at_ticket ws s)) ∙ (sym (ap (λ o. unwrap_or (option_map (λ x. is_going x.fate) o) false) (at_edit_same end_work ws s)) ∙ subst (λ q. goes_on (edit end_work ws s) q ≡ true) at c.2)))) c.3)
          where
            none_there : (o : Option Work) → unwrap_or (option_map (λ x. is_going x.fate) (option_map end_work o)) false ≡ false
            none_there None = refl
            none_there (Some x) = refl

    sound_ended : (part : Part) (s : ℕ) (why : Why ℕ) → goes_on part.order.works s ≡ true → P part.order.works s why → Sound part → Sound (end_of part s why)
    sound_ended part s why going here h = record {
      told = record { at_each = told_ended part s why going here h };
      tidy = tidy_aborted part.order.works s h.tidy;
      even = length-edit (note_cause why) part.holders s ∙ (h.even ∙ sym (length-aborted part.order.works s));
      more = tale.fewer part.order.works (aborted part.order.works s) (length-aborted part.order.works s) (fallen_aborted part.order.works s).went_on h.more;
    }

    sound_end_unasked : (part : Part) (t : ℕ) → Sound part → Sound (end_unasked part t)
    sound_end_unasked part t h = step (goes_on part.order.works t) (not (asked_at part t)) refl
      where
        step : (a b : Bool) → goes_on part.order.works t ≡ a → Sound (if a && b then end_of part t EpochEnd else part)
        step true true going = sound_ended part t EpochEnd going (tale.ends part.order.works t) h
        step true false going = h
        step false b going = h

    sound_close_to : (part : Part) (n : ℕ) → Sound part → Sound (close_to part n)
    sound_close_to part zero h = h
    sound_close_to part (suc n) h = sound_end_unasked (close_to part n) (suc n) (sound_close_to part n h)

    -- ---- the desk

    same : (d new : DeskState) → new ≡ d → Good d → Good new
    same d new e h = subst Good (sym e) h

    in_running : (d new : DeskState) (part : Part) → new ≡ record d { running = part } → (Sound d.running → Sound part) → Good d → Good new
    in_running d new part e sound h = subst Good (sym e) (record { running = λ none. sound (h.running none); closed = h.closed })

    stopped : (d : DeskState) (f : Fault) → Good d → Good (stopped_by f d)
    stopped d f h = step (is_memory f)
      where
        step : (b : Bool) → Good (if b then record d { stop = option_or d.stop (Some f); running = stop_part f d.running } else stop_closed f (record d { stop = option_or d.stop (Some f); running = stop_part f d.running }))
        step true = record { running = λ none. absurd (never_none d.stop f none); closed = h.closed }
        step false = record { running = λ none. absurd (never_none d.stop f none); closed = λ c is. absurd (none-some c is) }

    abbrev version_of : Option (List ℕ) → ℕ → Version
    version_of value source = record { source = source; value = value }

    -- what is known of a desk at a get
    abbrev pub KnownAtGet : DeskState → Call → Type 0
    KnownAtGet d call = (x : Txn) (k : ℕ) → call ≡ GetKey x k → Z d

    pub good_step : (d : DeskState) (call : Call) (reply : Reply) (new : DeskState) → MayCall d call → DeskStep d call reply new → Runs setup clients d → KnownAtGet d call → Good d → Good new
    good_step d (Begin client) (Begun x) new may step runs known h = subst Good (sym step.state) (record { running = λ none. sound_begun d client runs may (h.running none); closed = h.closed })
    good_step d (Begin client) (Refused f) new may step runs known h = same d new step.same h
    good_step d (GetKey x k) (Value value) new may step runs known h = in_running d new _ step.state
        (λ s. sound_op (reading d x k).running x.ticket (Get k value step.source) (tidy_got d.running.order x.ticket k (version_of value step.source) s.tidy (read_found d.setup.params d.running.order x.ticket k value step.source step.reply)) (sound_used d.running _ s)) h
    good_step d (GetKey x k) Waits new may step runs known h = in_running d new _ step.state (λ s. sound_waits (reading d x k).running x.ticket k (sound_used d.running _ s)) h
    good_step d (GetKey x k) (Aborted why) new may (inl step) runs known h = same d new step.same h
    good_step d (GetKey x k) (Aborted why) new may (inr (inl step)) runs known h = subst Good (sym step.state) (record {
      running = λ none. sound_ended (reading d x k).running x.ticket why step.live.goes
          (subst (P d.running.order.works x.ticket) (sym step.cause) (tale.full d x k step.queued step.left (known x k refl) none runs may step.live (h.running none).more
          (subst (λ (q : Setup). read_reply q.params d.running.order x.ticket k ≡ ReadsAreFull step.queued step.left) runs.same_setup step.reply)))
          (sound_used d.running _ (h.running none));
      closed = h.closed;
    })
    good_step d (GetKey x k) (Aborted why) new may (inr (inr step)) runs known h = in_running d new _ step.state
        (sound_ended d.running x.ticket why step.live.goes (subst (P d.running.order.works x.ticket) (sym step.cause) (tale.past_reads d.running.order.works x.ticket step.keys
        (subst (λ (q : Setup). q.shares.reads ≡ Some step.keys) runs.same_setup (past_given _ _ _ _ _ step.passes))))) h
    good_step d (Poll x) (Value value) new may step runs known h = in_running d new _ step.state
        (λ s. sound_op d.running x.ticket (Get step.key value step.source) (tidy_got d.running.order x.ticket step.key (version_of value step.source) s.tidy (again_found d.running.order x.ticket step.key value step.source step.reply)) s) h
    good_step d (Poll x) Waits new may step runs known h = same d new step.same h
    good_step d (Poll x) (Aborted why) new may step runs known h = same d new step.same h
    good_step d (Write x k value) Done new may step runs known h = in_running d new _ step.state
        (λ s. sound_op (writing d x k).running x.ticket (write_op k value) (tidy_wrote d.running.order.works x.ticket k value s.tidy) (sound_used d.running _ s)) h
    good_step d (Write x k value) (Aborted why) new may (inl step) runs known h = same d new step.same h
    good_step d (Write x k value) (Aborted why) new may (inr (inl step)) runs known h = in_running d new _ step.state
        (λ s. sound_ended (writing d x k).running x.ticket why step.live.goes (tale.refused d.running.order x.ticket k why s.more step.live.goes (subst (λ (q : Setup). why_refused (write_reply q.params d.running.order x.ticket k) ≡ Some why) runs.same_setup step.cause)) (sound_used d.running _ s)) h
    good_step d (Write x k value) (Aborted why) new may (inr (inr step)) runs known h = in_running d new _ step.state
        (sound_ended d.running x.ticket why step.live.goes (subst (P d.running.order.works x.ticket) (sym step.cause) (tale.past_writes d.running.order.works x.ticket step.keys
        (subst (λ (q : Setup). q.shares.writes ≡ Some step.keys) runs.same_setup (past_given _ _ _ _ _ step.passes))))) h
    good_step d (Commit x) Done new may step runs known h = in_running d new _ step.state (sound_asked d.running x.ticket) h
    good_step d (Commit x) (Aborted why) new may step runs known h = same d new step.same h
    good_step d (Abort x) (Aborted why) new may (inl step) runs known h = same d new step.same h
    good_step d (Abort x) (Aborted why) new may (inr step) runs known h = in_running d new _ step.state (sound_ended d.running x.ticket Asked step.live.goes (tale.asks d.running.order.works x.ticket)) h
    good_step d (Settled x) (IsSettled outcome) new may step runs known h = same d new step.1 h
    good_step d Looks (Seen look) new may step runs known h = same d new step.1 h
    good_step d (SignOff client) Done new may step runs known h = subst Good (sym step.state) (record { running = h.running; closed = h.closed })
    good_step d (Stop f) Done new may step runs known h = subst Good (sym step.state) (stopped d f h)
    good_step d (Unsure f) Done new may step runs known h = subst Good (sym step.state) (record { running = λ none. absurd (never_none d.stop f none); closed = λ c is. absurd (none-some c is) })
    good_step d IsStopped (StoppedBy fault) new may step runs known h = same d new step.1 h
    good_step d TakeBatch (Batch keys) new may step runs known h = in_running d new _ step.state (sound_order d.running _ refl) h
    good_step d (Deliver keys values) Done new may step runs known h = in_running d new _ step.state (sound_order d.running _ refl) h
    good_step d Close (Writes writes) new may step runs known h = subst Good (sym step.state) (record {
      running = λ none. sound_new (suc d.running.epoch) d.setup.params.batches;
      closed = λ c is. subst Sound (same_Some (closing d.running) c is) (sound_close_to d.running (length d.running.order.works) (h.running may.3));
    })
    good_step d (Publish epoch left) (Published told) new may step runs known h = subst Good (sym step.state) (record { running = h.running; closed = λ c is. absurd (none-some c is) })
    good_step d _ _ new may step runs known h = absurd step

    pub good_new : (epoch left : ℕ) → Good (new_desk setup epoch left clients)
    good_new epoch left = record { running = λ none. sound_new epoch left; closed = λ c is. absurd (none-some c is) }

    -- ---- the records

    module _ (R : EpochRecord ℕ → Type 0) (shown : (part : Part) → Sound part → R (record_of part)) where
      pub told_step : (d : DeskState) (call : Call) (reply : Reply) (new : DeskState) → DeskStep d call reply new → Good d → All R (records_told reply)
      told_step d (Publish epoch left) (Published told) new step h = All-cons R told [] (subst R (sym step.record_is) (shown step.part (h.closed step.part step.is_closed))) (All-nil R)
      told_step d (Publish epoch left) _ new step h = absurd step
      told_step d _ (Published told) new step h = absurd step
      told_step d _ _ new step h = All-nil R

      -- where that is known of every desk
      pub told_all : ((d : DeskState) → Z d) → (d : DeskState) (steps : List (Call × Reply)) (new : DeskState) → Leads d steps new → Runs setup clients d → Good d → All R (published steps)
      told_all known d [] new run runs h = All-nil R
      told_all known d (step ∷ steps) new run runs h = All-append R (records_told step.1) (published steps)
          (told_step d step.0 step.1 run.0 run.2 h)
          (told_all known run.0 steps new run.3 (runs_step setup clients d step.0 step.1 run.0 run.1 run.2 runs) (good_step d step.0 step.1 run.0 run.1 run.2 runs (λ x k e. known d) h))
