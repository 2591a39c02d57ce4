-- Published records have epochs in a row, and tickets in a row.
use Rattle.std.proofs.Common.{◌≡◌, ℕ, suc, ◌+◌, Bool, true, false, if◌then◌else◌, List, [], ◌∷◌, ◌++◌, length, map, All, Option, None, Some, option_map, unwrap_or, refl, sym, ap, ap₂, ◌∙◌, subst, inl, inr, ◌⊎◌, ⊎_elim, arith, add-one}
use Rattle.std.specs.Option.{option_or}
use Rattle.std.specs.List.{range_with_len}
use Rattle.std.specs.List.Sorted.{IsStrictlyIncreasing}
use Rattle.std.proofs.lemmas.List.Elements.{All-weaker}
use Rattle.std.proofs.lemmas.List.FromFn.{length-range_with_len, get_or-range_with_len}
use Rattle.std.proofs.lemmas.Option.{none-some, same_Some}
use Rattle.ob_base.specs.declared.fault.Fault.{Fault}
use Rattle.ob_serial.specs.Serial.{TxnRecord, EpochRecord}
use Rattle.ob_order.specs.Works.{Work}
use Rattle.ob_desk.specs.declared.clients.Holder.{Holder}
use Rattle.ob_desk.specs.Desk.{Part, DeskState, Setup, new_desk, is_memory, stop_closed, stopped_by, stop_part, closing, txns_from, published, records_told, Call, Begin, GetKey, Poll, Write, Commit}
use Rattle.ob_desk.specs.Desk.{Abort, Settled, Looks, SignOff, Stop, Unsure, IsStopped, TakeBatch, Deliver, Close, Publish, Reply, Begun, Refused, Value, Waits, Aborted, Done, IsSettled, Seen}
use Rattle.ob_desk.specs.Desk.{StoppedBy, Batch, Writes, Published, DeskStep, MayCall}
use Rattle.ob_desk.proofs.Ends.{closing-epoch}
use Rattle.ob_session.specs.Steps.{Leads}
use Rattle.ob_outcomes.specs.Shown.{RecordsAreNumbered}
use Rattle.ob_outcomes.proofs.Desks.{never_none, runs_new}
use Rattle.ob_outcomes.proofs.Records.{txns_all}
use Rattle.ob_outcomes.proofs.Causes.{good_new, told_all}
use Rattle.ob_outcomes.proofs.Noted.{IsNoted, noted_tale}

-- the epoch of the next record
abbrev next : DeskState → ℕ
next d = unwrap_or (option_map (λ (c : Part). c.epoch) d.closed) d.running.epoch

-- the closed epoch is the one before the running one
record Follows (d : DeskState) : Type 0 where
  at_each : (part : Part) → d.closed ≡ Some part → suc part.epoch ≡ d.running.epoch

-- it was stopped, with nothing to be published
record IsOver (d : DeskState) : Type 0 where
  none_closed : d.closed ≡ None
  stopped : d.stop ≡ None → ⊥

-- what a call tells: nothing, and the next record's epoch is the same; or nothing for good; or the next record
record Moves (d : DeskState) (told : List (EpochRecord ℕ)) (new : DeskState) : Type 0 where
  over : IsOver d → (told ≡ []) × IsOver new
  follows : Follows d → Follows new
  counts : Follows d → ((told ≡ []) × ((next new ≡ next d) ⊎ IsOver new)) ⊎ ((r : EpochRecord ℕ) × (told ≡ r ∷ []) × (r.epoch ≡ next d) × (next new ≡ suc (next d)))

-- the same closed epoch, stop and number
quiet : (d new made : DeskState) → new ≡ made → made.closed ≡ d.closed → made.stop ≡ d.stop → made.running.epoch ≡ d.running.epoch → Moves d [] new
quiet d new made e closed stop epoch = subst (Moves d []) (sym e) (record {
  over = λ o. (refl, record { none_closed = closed ∙ o.none_closed; stopped = λ none. o.stopped (sym stop ∙ none) });
  follows = λ f. record { at_each = λ part is. f.at_each part (sym closed ∙ is) ∙ sym epoch };
  counts = λ f. inl (refl, inl (ap₂ (λ (c : Option Part) (n : ℕ). unwrap_or (option_map (λ (p : Part). p.epoch) c) n) closed epoch));
})

-- stopped for good
ended : (d new : DeskState) → new.closed ≡ None → (new.stop ≡ None → ⊥) → Moves d [] new
ended d new closed stop =
    let o : IsOver new = record { none_closed = closed; stopped = stop } in
    record { over = λ h. (refl, o); follows = λ f. record { at_each = λ part is. absurd (none-some part (sym closed ∙ is)) }; counts = λ f. inl (refl, inr o) }

stopped : (d : DeskState) (f : Fault) → Moves d [] (stopped_by f d)
stopped d f = step (is_memory f)
  where
    step : (b : Bool) → Moves d [] (if b then record d { stop = option_or d.stop (Some f); running = stop_part f d.running } else stop_closed f (record d { stop = option_or d.stop (Some f); running = stop_part f d.running }))
    step true = record {
      over = λ o. (refl, record { none_closed = o.none_closed; stopped = never_none d.stop f });
      follows = λ g. record { at_each = g.at_each };
      counts = λ g. inl (refl, inl refl);
    }
    step false = ended d _ refl (never_none d.stop f)

moves_step : (d : DeskState) (call : Call) (reply : Reply) (new : DeskState) → MayCall d call → DeskStep d call reply new → Moves d (records_told reply) new
moves_step d (Begin client) (Begun x) new may step = quiet d new _ step.state refl refl refl
moves_step d (Begin client) (Refused f) new may step = quiet d new d step.same refl refl refl
moves_step d (GetKey x k) (Value value) new may step = quiet d new _ step.state refl refl refl
moves_step d (GetKey x k) Waits new may step = quiet d new _ step.state refl refl refl
moves_step d (GetKey x k) (Aborted why) new may (inl step) = quiet d new d step.same refl refl refl
moves_step d (GetKey x k) (Aborted why) new may (inr (inl step)) = quiet d new _ step.state refl refl refl
moves_step d (GetKey x k) (Aborted why) new may (inr (inr step)) = quiet d new _ step.state refl refl refl
moves_step d (Poll x) (Value value) new may step = quiet d new _ step.state refl refl refl
moves_step d (Poll x) Waits new may step = quiet d new d step.same refl refl refl
moves_step d (Poll x) (Aborted why) new may step = quiet d new d step.same refl refl refl
moves_step d (Write x k value) Done new may step = quiet d new _ step.state refl refl refl
moves_step d (Write x k value) (Aborted why) new may (inl step) = quiet d new d step.same refl refl refl
moves_step d (Write x k value) (Aborted why) new may (inr (inl step)) = quiet d new _ step.state refl refl refl
moves_step d (Write x k value) (Aborted why) new may (inr (inr step)) = quiet d new _ step.state refl refl refl
moves_step d (Commit x) Done new may step = quiet d new _ step.state refl refl refl
moves_step d (Commit x) (Aborted why) new may step = quiet d new d step.same refl refl refl
moves_step d (Abort x) (Aborted why) new may (inl step) = quiet d new d step.same refl refl refl
moves_step d (Abort x) (Aborted why) new may (inr step) = quiet d new _ step.state refl refl refl
moves_step d (Settled x) (IsSettled outcome) new may step = quiet d new d step.1 refl refl refl
moves_step d Looks (Seen look) new may step = quiet d new d step.1 refl refl refl
moves_step d (SignOff client) Done new may step = quiet d new _ step.state refl refl refl
moves_step d (Stop f) Done new may step = subst (Moves d []) (sym step.state) (stopped d f)
moves_step d (Unsure f) Done new may step = subst (Moves d []) (sym step.state) (ended d _ refl (never_none d.stop f))
moves_step d IsStopped (StoppedBy fault) new may step = quiet d new d step.1 refl refl refl
moves_step d TakeBatch (Batch keys) new may step = quiet d new _ step.state refl refl refl
moves_step d (Deliver keys values) Done new may step = quiet d new _ step.state refl refl refl
moves_step d Close (Writes writes) new may step = subst (Moves d []) (sym step.state) (record {
  over = λ o. absurd (o.stopped may.3);
  follows = λ f. record { at_each = λ part is. ap (λ (p : Part). suc p.epoch) (sym (same_Some (closing d.running) part is)) ∙ ap suc (closing-epoch d.running) };
  counts = λ f. inl (refl, inl (closing-epoch d.running ∙ sym (ap (λ c. unwrap_or (option_map (λ (p : Part). p.epoch) c) d.running.epoch) may.0)));
})
moves_step d (Publish epoch left) (Published told) new may step = subst (Moves d (told ∷ [])) (sym step.state) (record {
  over = λ o. absurd (none-some step.part (sym o.none_closed ∙ step.is_closed));
  follows = λ f. record { at_each = λ part is. absurd (none-some part is) };
  counts = λ f.
      let now : next d ≡ step.part.epoch = ap (λ c. unwrap_or (option_map (λ (p : Part). p.epoch) c) d.running.epoch) step.is_closed in
      inr (told, refl, ap (λ (r : EpochRecord ℕ). r.epoch) step.record_is ∙ sym now, sym (f.at_each step.part step.is_closed) ∙ ap suc (sym now));
})
moves_step d _ _ new may step = absurd step

none_told : (d : DeskState) (steps : List (Call × Reply)) (new : DeskState) → Leads d steps new → IsOver d → published steps ≡ []
none_told d [] new run o = refl
none_told d (step ∷ steps) new run o =
    let m = (moves_step d step.0 step.1 run.0 run.1 run.2).over o in
    ap₂ (λ (a b : List (EpochRecord ℕ)). a ++ b) m.0 (none_told run.0 steps new run.3 m.1)

-- a row
abbrev InARow : ℕ → List (EpochRecord ℕ) → Type 0
InARow n rs = map (λ (r : EpochRecord ℕ). r.epoch) rs ≡ range_with_len n (length rs)

row_then : (n : ℕ) (r : EpochRecord ℕ) (rs : List (EpochRecord ℕ)) → r.epoch ≡ n → InARow (suc n) rs → InARow n (r ∷ rs)
row_then n r rs here rest = ap (λ e. e ∷ map (λ (q : EpochRecord ℕ). q.epoch) rs) here ∙ ap (λ es. n ∷ es) (rest ∙ ap (λ k. range_with_len k (length rs)) (sym (add-one n)))

in_a_row : (d : DeskState) (steps : List (Call × Reply)) (new : DeskState) → Leads d steps new → Follows d → InARow (next d) (published steps)
in_a_row d [] new run f = refl
in_a_row d (step ∷ steps) new run f =
    let m = moves_step d step.0 step.1 run.0 run.1 run.2 in
    let rest = in_a_row run.0 steps new run.3 (m.follows f) in
    ⊎_elim
    (λ nothing. subst (λ (rs : List (EpochRecord ℕ)). InARow (next d) (rs ++ published steps)) (sym nothing.0) (⊎_elim
    (λ same. subst (λ n. InARow n (published steps)) same rest)
    (λ o. subst (λ (rs : List (EpochRecord ℕ)). InARow (next d) rs) (sym (none_told run.0 steps new run.3 o)) refl)
    nothing.1))
    (λ one. subst (λ (rs : List (EpochRecord ℕ)). InARow (next d) (rs ++ published steps)) (sym one.1) (row_then (next d) one.0 (published steps) one.2 (subst (λ n. InARow n (published steps)) one.3 rest)))
    (m.counts f)

-- ---- tickets

tickets_from : (epoch t : ℕ) (ws : List Work) (hs : List Holder) → map (λ (x : TxnRecord ℕ). x.ticket) (txns_from epoch t ws hs) ≡ range_with_len t (length (txns_from epoch t ws hs))
tickets_from epoch t [] hs = refl
tickets_from epoch t (w ∷ ws) [] = refl
tickets_from epoch t (w ∷ ws) (h ∷ hs) = ap (λ ts. t ∷ ts) (tickets_from epoch (suc t) ws hs ∙ ap (λ k. range_with_len k (length (txns_from epoch (suc t) ws hs))) (sym (add-one t)))

-- a record's tickets are in a row from 1, and its transactions have its epoch
record IsNamed (r : EpochRecord ℕ) : Type 0 where
  tickets : map (λ (x : TxnRecord ℕ). x.ticket) r.txns ≡ range_with_len 1 (length r.txns)
  named : All (λ (x : TxnRecord ℕ). x.epoch ≡ r.epoch) r.txns

all_named : (setup : Setup) (epoch left : ℕ) (clients : List ℕ) (steps : List (Call × Reply)) (d : DeskState) → Leads (new_desk setup epoch left clients) steps d → All IsNamed (published steps)
all_named setup epoch left clients steps d run =
    told_all (IsNoted setup) (λ ws. Unit {0}) setup clients (λ d. Unit {0}) (noted_tale setup clients) IsNamed
    (λ part sound. record { tickets = tickets_from part.epoch 1 part.order.works part.holders; named = txns_all (λ (x : TxnRecord ℕ). x.epoch ≡ part.epoch) part.epoch 1 part.order.works part.holders (λ n w h a b. refl) })
    (λ d. tt) (new_desk setup epoch left clients) steps d run (runs_new setup epoch left clients) (good_new (IsNoted setup) (λ ws. Unit {0}) setup clients (λ d. Unit {0}) (noted_tale setup clients) epoch left)

-- a row rises
row_rises : (a n : ℕ) → IsStrictlyIncreasing (range_with_len a n)
row_rises a n k l =
    let long = length-range_with_len a n in
    let here = get_or-range_with_len a n k 0 (omega (arith, l, long)) in
    let more = get_or-range_with_len a n (k + 1) 0 (omega (arith, l, long)) in
    omega (arith, here, more)

pub records_are_numbered : RecordsAreNumbered
records_are_numbered setup epoch left clients steps d may run =
    let named = all_named setup epoch left clients steps d run in
    let row : InARow epoch (published steps) = in_a_row (new_desk setup epoch left clients) steps d run (record { at_each = λ part is. absurd (none-some part is) }) in
    record {
      epochs = row;
      tickets = All-weaker IsNamed (λ r. map (λ (x : TxnRecord ℕ). x.ticket) r.txns ≡ range_with_len 1 (length r.txns)) (λ r n. n.tickets) (published steps) named;
      in_order = record {
        epochs = subst IsStrictlyIncreasing (sym row) (row_rises epoch (length (published steps)));
        tickets = All-weaker IsNamed (λ r. IsStrictlyIncreasing (map (λ (x : TxnRecord ℕ). x.ticket) r.txns)) (λ r n. subst IsStrictlyIncreasing (sym n.tickets) (row_rises 1 (length r.txns))) (published steps) named;
        named = All-weaker IsNamed (λ r. All (λ (x : TxnRecord ℕ). x.epoch ≡ r.epoch) r.txns) (λ r n. n.named) (published steps) named;
      };
    }
