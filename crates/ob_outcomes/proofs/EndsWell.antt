-- What the ends of epochs in a run tell: whom they abort, and that each ends some transaction.
use Rattle.std.proofs.Common.{◌≡◌, ◌∙◌, ◌⊎◌, ◌<◌, ◌≤◌, ◌++◌, ◌==◌, ℕ, suc, Bool, true, false, List, [], ◌∷◌, length, Option, Some, None, sym, subst, refl, ap, inl, inr, arith}
use Rattle.std.specs.List.{All}
use Rattle.std.proofs.lemmas.Option.{same_Some}
use Rattle.std.proofs.lemmas.Bool.{false≢true}
use Rattle.std.proofs.lemmas.Bool.Decides.{Decides-eqb}
use Rattle.std.proofs.lemmas.List.Elements.{All-weaker}
use Rattle.ob_serial.specs.declared.records.Outcome.TheVariants.{Aborted as AbortedBy}
use Rattle.ob_serial.specs.declared.records.Why.TheVariants.{EpochEnd}
use Rattle.ob_serial.specs.Serial.{TxnRecord, EpochRecord}
use Rattle.ob_desk.specs.Desk.{DeskState, Part, MayOpen, Call, Reply, new_desk, look_at, closing, record_of, Setup}
use Rattle.ob_desk.specs.declared.calls.Look.{Look}
use Rattle.ob_desk.specs.Beats.{BeatKind}
use Rattle.ob_session.specs.Steps.{Leads}
use Rattle.ob_outcomes.specs.Ends.{AllAsked, NeedsNoBatch}
use Rattle.ob_outcomes.proofs.Due.{waiting_have_asked, signed_off_have_asked, pads_change_nothing, asked_outlast_pads, waiting_are_live, each_has_holder}
use Rattle.ob_outcomes.proofs.Closed.{close_loses_none}
use Rattle.ob_outcomes.proofs.Unended.{none_ended_yet}
use Rattle.ob_conduct.specs.Acts.{Act, Closes, Publishes, Batch, desk_calls, look_calls, rest_calls, close_calls, MayAct, IsToEnd}
use Rattle.ob_outcomes.specs.Served.{IsDueAt}
use Rattle.ob_outcomes.proofs.Walk.{leads_split, leads_on, flying, none_flies, looked, of_batches, NotEnded, none_ended}

none_of_length : {A : Type 0} (xs : List A) → length xs ≡ 0 → xs ≡ []
none_of_length [] e = refl
none_of_length (x ∷ xs) e = absurd (omega (arith, e))

-- an end of an epoch that aborts for the epoch's end only where that is due, and ends some transaction
pub record EndsWell (beat : BeatKind) (look : Look) (told : EpochRecord ℕ) : Type 0 where
  pub due : IsDueAt beat look told
  pub some : 0 < length told.txns

-- Each record that was published is that of the epoch that was closed before it, and it ends well at the look that led to that close.
abbrev pub AreWell : BeatKind → Option Look → List Act → Type 0
AreWell beat closed [] = Unit {0}
AreWell beat closed (Closes look batches writes ∷ acts) = AreWell beat (Some look) acts
AreWell beat closed (Publishes writes left told ∷ acts) = (look : Look) × (closed ≡ Some look) × EndsWell beat look told × AreWell beat None acts
AreWell beat closed (_ ∷ acts) = AreWell beat closed acts

-- the epoch that is closed ends well at the look that led to its close
abbrev pub EndsAtLook : BeatKind → Option Look → DeskState → Type 0
EndsAtLook beat closed d = (part : Part) → d.closed ≡ Some part → (look : Look) × (closed ≡ Some look) × EndsWell beat look (record_of part)

module _ (setup : Setup) (epoch left : ℕ) (clients : List ℕ) (may : MayOpen setup epoch left clients) (beat : BeatKind) where
  abbrev pub base : DeskState
  base = new_desk setup epoch left clients

  module _ (h : List (Call × Reply)) (d : DeskState) (reached : Leads base h d) where
    module _ (look : Look) (batches : List Batch) (writes : List (ℕ × Option (List ℕ))) (told : EpochRecord ℕ) (new : DeskState) where
      -- from the state at the look, and that behind the batches
      module _ (same : look ≡ look_at d) (landed : flying d ≡ []) (b : DeskState) (reads : Leads d (rest_calls batches) b) (told_is : told ≡ record_of (closing b.running)) (to_end : IsToEnd look) where
        needs : NeedsNoBatch d.running.order
        needs = record { none_flies = landed; none_due = due to_end.0 }
          where
            due : (look.queued ≡ 0) ⊎ (look.left ≡ 0) → (d.running.order.queue ≡ []) ⊎ (d.running.order.left ≡ 0)
            due (inl none) = inl (none_of_length d.running.order.queue (ap (λ (x : Look). x.queued) (sym same) ∙ none))
            due (inr none) = inr (ap (λ (x : Look). x.left) (sym same) ∙ none)

        reached_b : Leads base (h ++ rest_calls batches) b
        reached_b = leads_on base h (rest_calls batches) d b reached reads

        if_asked : AllAsked d.running → IsDueAt beat look told
        if_asked asked =
            let stays : closing b.running ≡ b.running = asked_outlast_pads setup epoch left clients h d may reached (rest_calls batches) b needs (of_batches batches) reads asked in
            All-weaker NotEnded (λ (t : TxnRecord ℕ). t.outcome ≡ AbortedBy EpochEnd → (beat.passes look.waiting look.live look.queued look.left ≡ true) × (look.waiting < look.live)) (λ t no e. absurd (no e)) told.txns
            (subst (λ (r : EpochRecord ℕ). All NotEnded r.txns) (sym (told_is ∙ ap record_of stays))
            (none_ended b.running.epoch 1 b.running.order.works b.running.holders (λ n. none_ended_yet setup epoch left clients (h ++ rest_calls batches) b may reached_b (suc n))))

        fewer : (look.waiting ≡ look.live → ⊥) → look.waiting < look.live
        fewer other =
            let few : (look_at d).waiting ≤ (look_at d).live = waiting_are_live setup epoch left clients h d may reached in
            let here : look.waiting ≤ look.live = subst (λ (x : Look). x.waiting ≤ x.live) (sym same) few in
            below look.waiting look.live here other
          where
            below : (m n : ℕ) → m ≤ n → (m ≡ n → ⊥) → m < n
            below m n le other = by (m == n) refl
              where
                by : (c : Bool) → (m == n) ≡ c → m < n
                by true is = absurd (other ((Decides-eqb m n).0 is))
                by false is = let apart : m ≡ n → ⊥ = other in grind (arith, le, apart)

        by_act : MayAct beat look → IsDueAt beat look told
        by_act (inl none) = if_asked (signed_off_have_asked setup epoch left clients h d may reached (ap (λ (x : Look). x.clients) (sym same) ∙ none))
        by_act (inr passed) = by (look.waiting == look.live) refl
          where
            by : (c : Bool) → (look.waiting == look.live) ≡ c → IsDueAt beat look told
            by true is = if_asked (waiting_have_asked setup epoch left clients h d may reached needs (subst (λ (x : Look). x.waiting ≡ x.live) same ((Decides-eqb look.waiting look.live).0 is)))
            by false is = every told.txns (passed, fewer (λ e. false≢true (sym is ∙ (Decides-eqb look.waiting look.live).1 e)))
              where
                every : (txns : List (TxnRecord ℕ)) → (beat.passes look.waiting look.live look.queued look.left ≡ true) × (look.waiting < look.live)
                    → All (λ t. t.outcome ≡ AbortedBy EpochEnd → (beat.passes look.waiting look.live look.queued look.left ≡ true) × (look.waiting < look.live)) txns
                every txns holds k t low e = holds

        counts : length told.txns ≡ look.txns
        counts =
            let pads = pads_change_nothing setup epoch left clients h d may reached (rest_calls batches) b needs (of_batches batches) reads in
            let all : length (record_of (closing b.running)).txns ≡ length b.running.order.works = (close_loses_none b.running).told (each_has_holder setup epoch left clients (h ++ rest_calls batches) b may reached_b) in
            ap (λ (r : EpochRecord ℕ). length r.txns) told_is ∙ all ∙ ap (λ (x : DeskState). length x.running.order.works) pads ∙ ap (λ (x : Look). x.txns) (sym same)

        well : MayAct beat look → EndsWell beat look told
        well act = record { due = by_act act; some = let is = counts in let some = to_end.1 in omega (arith, is, some) }

    -- an epoch was closed at this look
    pub closes_well : (look : Look) (batches : List Batch) (writes : List (ℕ × Option (List ℕ))) (new : DeskState) → MayAct beat look → IsToEnd look → Leads d (desk_calls (Closes look batches writes)) new → EndsAtLook beat (Some look) new
    closes_well look batches writes new act to_end run part is =
        let (a, looks, rest) = leads_split d (look_calls look) (rest_calls batches ++ close_calls writes) new run in
        let k = looked d look a looks in
        let (b, reads, (last, may_close, closes, same)) = leads_split a (rest_calls batches) (close_calls writes) new rest in
        let read : Leads d (rest_calls batches) b = subst (λ x. Leads x (rest_calls batches) b) k.same reads in
        let part_is : closing b.running ≡ part = same_Some (closing b.running) part (sym (ap (λ (x : DeskState). x.closed) (same ∙ closes.state)) ∙ is) in (
          look,
          refl,
          subst (λ (q : Part). EndsWell beat look (record_of q)) part_is
              (well look batches writes (record_of (closing b.running)) new k.look_is (none_flies d batches b read may_close.2) b read refl to_end act),
        )
