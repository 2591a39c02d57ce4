-- What a call of a vault over a ring store does, in the words of its kind of store.
use Rattle.std.specs.Ordering.{nat_cmp}
use Rattle.std.proofs.Common.{◌≡◌, ◌⊎◌, ◌∙◌, ◌+◌, ◌*◌, ◌%◌, ◌^◌, ◌<◌, ◌≤◌, ℕ, suc, false, List, [], ◌∷◌, ◌++◌, map, length, length-append, Option, None, Some, Result, Ok, Err, ⊎_elim, refl, sym, ap, subst, inl, inr, arith}
use Rattle.ob_base.specs.Layout.{checkpoint_cells, record_cells}
use Rattle.ob_base.specs.Tree.{buckets, width}
use Rattle.ob_base.specs.declared.fault.Fault.{Fault}
use Rattle.ob_base.specs.declared.fault.Fault.TheVariants as fault
use Rattle.ob_base.specs.declared.params.Params.{Params}
use Rattle.ob_base.specs.declared.value.Write.{Write}
use Rattle.ob_tables.specs.Buckets.{Buckets}
use Rattle.ob_tables.specs.Content.{Content, Obeys}
use Rattle.ob_end.specs.EndRuns.{EndAnswers, EndDraws, IsWornForEnd, LeadsOn, end_writes, seals_for_end, standing_at_end, words_for_end}
use Rattle.ob_end.specs.Shown.{EndShows, before_gate, up_to_gate}
use Rattle.ob_end.specs.Lifts.{IsLiftDamage}
use Rattle.ob_stand.specs.Table.{buckets_of, flat_of}
use Rattle.ob_fetch.proofs.NextLaws.{seals_listed, stands_listed}
use Rattle.ob_fetch.specs.Fetches.{DrawsWords, FetchDraws, FetchShows, IsWornForBatch, RunIsAt, next_batch, words_since}
use Rattle.ob_schedule.specs.Phases.{Phase, batch_phases, end_phases, phases_of, shared}
use Rattle.ob_vault.specs.Shapes.{Shape, Fetches, Ends}
use Rattle.ob_vault.specs.Steps.{IsCallOfKind, IsRefusalWhy, Stops}
use Rattle.ob_log.specs.Appends.{IsWornOut, append_notes}
use Rattle.ob_log.specs.Logs.{BatchRecord, RecordsFit}
use Rattle.ob_recover.specs.Repeats.{IsBatchDamage, content_of_ring, table_after_records}
use Rattle.ob_ring.specs.FlatTable.{FlatTable}
use Rattle.ob_ring.specs.Picked.{SameSeals}
use Rattle.ob_ring.specs.Ring.{StandsFor}
use Rattle.ob_recover.proofs.Batch.{batches_are_scheduled}
use Rattle.ob_recover.proofs.Orders.{record_written}
use Rattle.ob_recover.specs.Known.{PlansFrom, fills_of, fills_with_lifts, public_of_kept}
use Rattle.ob_recover.specs.Telling.{ArePhasesMade, IsFrontShown}
use Rattle.ob_store.specs.Told.{IsCut}
use Rattle.ob_vault.specs.RingVaults.{EndCalled, FetchCalled, HasPlanned, KeepsRun, Running, record_of_fetch, words_of_call, write_from, writes_of_end}
use Rattle.ob_schedule.specs.Schedule.{Fills, Public, after_end, after_phase, batch_leaves, batch_notes, end_lifts, end_notes, record_notes}
use Rattle.std.proofs.lemmas.Bool.{cases_lt}
use Rattle.std.proofs.lemmas.List.{append-nil}
use Rattle.ob_seal.specs.Sealing.{Sealing}
use Rattle.ob_seal.specs.declared.keys.Keys.{Keys}
use Rattle.ob_serial.specs.Serial.{Map}
use Rattle.ob_serial.specs.VaultKinds.{Called, Kind}
use Rattle.ob_serial.specs.Vaults.{DoubtBy, End, Ended, Fetch, RefusedBy, Values, VaultAnswer, VaultCall, VaultState, vault_next}
use Rattle.ob_serial.specs.declared.vault.EndErr.{EndErr}
use Rattle.ob_serial.specs.declared.vault.EndErr.TheVariants.{Before, Unsure}
use Rattle.ob_stand.specs.Stands.{RingStanding, with_record}
use Rattle.ob_store.specs.Calls.{Notes}
use Rattle.ob_store.specs.Disk.{Disk}
use Rattle.ob_store.specs.declared.event.Event.{Event}
use Rattle.ob_store.specs.declared.watch.Note.{Note}
use Rattle.ob_twin.specs.declared.gates.Gates.{Gates}
use Rattle.ob_vault.proofs.Bounds.{batch_past, end_past, less_left, one_more, seals_few, words_few}
use Rattle.ob_vault.proofs.Naming.{answers_named, draws_named}
use Rattle.ob_vault.specs.Causes.{IsCallWorn, IsRingWorn, record_hidden, seals_an_epoch, words_an_epoch}
use Rattle.ob_vault.proofs.Drawing.{draws_batch, draws_end, ended, grown}
use Rattle.ob_vault.specs.Hidden.{AreFirst, IsFrontDealt, IsTapeBehind, RingCut, RingCutShown, RingDrawsCut, RingHidden, table_hidden, with_next, writes_hidden}
use Rattle.ob_vault.specs.RingLaws.{RingCallsDo, RingWordsAreOfTape}
use Rattle.ob_vault.specs.RingKind.{IsRingMap, RingFound, ring_kind}
use Rattle.ob_vault.specs.RingSteps.{HasRingWords, RingAt, RunIsAtHidden}
use Rattle.ob_vault.specs.Seen.{RingPublic, ring_next, ring_notes, ring_phases}

-- so many words more were drawn
drawn_more : (many : ℕ) (old new : List ℕ) → DrawsWords many old new → length new ≡ length old + many
drawn_more many old new d = ap (λ (l : List ℕ). length l) d.words ∙ length-append old (words_since old new) ∙ ap (λ n. length old + n) d.many_are

module _ {V S : Type 0} (k : Kind V) (disk : S → Disk) (runs : V → Running S) (words : HasRingWords k disk runs) (keys : Keys) (most : ℕ) (p : Params) (f : RingFound) (opened : Disk) where
  -- behind calls of any shapes
  abbrev pub RingBehind : RingPublic → RingHidden → List Shape → ℕ → V → Type 0
  RingBehind q h so_far n v = RingAt k disk runs keys most p f opened q h n v

  module _ (q : RingPublic) (h : RingHidden) (so_far : List Shape) (n : ℕ) (v w : V) (at : RingAt k disk runs keys most p f opened q h n v) where
    abbrev old : Running S
    old = runs v

    abbrev new : Running S
    new = runs w

    abbrev params : Params
    params = (old.run).params

    abbrev c : Content
    c = h.content

    abbrev rs : List BatchRecord
    rs = h.records

    -- the planner's table
    abbrev t : FlatTable
    t = table_after_records params (flat_of params c) rs

    stands : StandsFor (old.run).ring t
    stands = stands_listed (old.run).ring t ((at.planned).planner).table

    abbrev start : Buckets
    start = record (buckets_of params c) { order = (((old.run).ring).metas).order }

    start_seals : SameSeals start ((old.run).ring).metas
    start_seals = seals_listed (buckets_of params c) (old.run).ring ((at.planned).planner).seals

    is_next : length rs ≡ next_batch old.run
    is_next = omega (arith, at.left, ap (λ (x : Params). x.batches) at.params)

    -- where no batch is left all were shown
    all_shown : (old.run).left ≡ 0 → length rs ≡ params.batches
    all_shown none = omega (arith, at.left, none, ap (λ (x : Params). x.batches) at.params)

    -- so many words are hidden
    drawn_hidden : (notes : List Note) → KeepsRun disk old new notes → (old.run).drawn ≡ length h.words
    drawn_hidden notes keeps = keeps.was_drawn ∙ ap (λ (l : List ℕ). length l) at.tape

    table_is : t ≡ table_hidden p h
    table_is = ap (λ (x : Params). table_hidden x h) at.params

    -- ---- what is held

    held_on : (call : VaultCall) (answer : VaultAnswer) → Called k v call answer w → ((u : VaultState) → (vault_next u call answer).spent ≡ u.spent) → (m : Map nat_cmp) → IsRingMap keys p opened f m → (u : VaultState) × k.holds w u × (u.spent ≡ false)
    held_on call answer one same m is = let (u, holds, serves) = at.held m is in (vault_next u call answer, one.holds u holds, same u ∙ serves)

    -- where it is behind a batch, and behind an end
    abbrev Lies : Content → List BatchRecord → Type 0
    Lies c' rs' = (m : Map nat_cmp) → IsRingMap keys p opened f m → RunIsAtHidden new.run c' rs' (disk new.store)

    lies_batch : (asks : List (Option ℕ)) (notes : List Note) → FetchCalled disk old new notes asks (Ok tt) → Lies c (rs ++ record_of_fetch disk old new notes asks ∷ [])
    lies_batch asks notes one m is =
        let was = at.stands m is in
        record {
          standing = with_record was.standing (record_of_fetch disk old new notes asks);
          content = was.content;
          records = ap (λ (l : List BatchRecord). l ++ record_of_fetch disk old new notes asks ∷ []) was.records;
          at = one.stands was.standing was.at;
        }

    lies_end : (writes : List Write) (notes : List Note) → EndCalled disk old new notes writes (Ok tt) → Lies (content_of_ring (new.run).ring) []
    lies_end writes notes one m is =
        let was = at.stands m is in
        record { standing = standing_at_end was.standing new.run (writes_of_end disk old new notes writes); content = refl; records = refl; at = one.stands was.standing was.at }

    -- where a map was found nothing is damaged
    none_damaged : ((s : RingStanding) → RunIsAt old.run s (disk old.store) → ⊥) → (m : Map nat_cmp) → IsRingMap keys p opened f m → ⊥
    none_damaged not m is = let (u, holds, serves) = at.held m is in let s = (words.holds v u holds).serves serves in not s.standing s.at

    -- ---- the schedule

    -- the batch's row, and its phases
    abbrev batch_row : List BatchRecord → List Note
    batch_row rs' = batch_notes params (public_of_kept params c rs (old.run).epoch (old.run).gates) (fills_of params c rs') (length rs)

    abbrev batch_turns : List BatchRecord → List Phase
    batch_turns rs' = batch_phases params (public_of_kept params c rs (old.run).epoch (old.run).gates) (fills_of params c rs') (length rs)

    batch_is : (rs' : List BatchRecord) → batch_turns rs' ≡ ring_phases p q Fetches (fills_of p c rs')
    batch_is rs' =
        ap (λ (x : Params). batch_phases x (public_of_kept x c rs (old.run).epoch (old.run).gates) (fills_of x c rs') (length rs)) at.params
        ∙ ap (λ (x : Public). batch_phases p x (fills_of p c rs') (length rs)) at.known
        ∙ ap (λ (m : ℕ). batch_phases p q.known (fills_of p c rs') m) at.shown

    batch_row_is : (rs' : List BatchRecord) → batch_row rs' ≡ ring_notes p q Fetches (fills_of p c rs')
    batch_row_is rs' =
        ap (λ (x : Params). batch_notes x (public_of_kept x c rs (old.run).epoch (old.run).gates) (fills_of x c rs') (length rs)) at.params
        ∙ ap (λ (x : Public). batch_notes p x (fills_of p c rs') (length rs)) at.known
        ∙ ap (λ (m : ℕ). batch_notes p q.known (fills_of p c rs') m) at.shown

    abbrev end_row : List Note
    end_row = end_notes params (public_of_kept params c rs (old.run).epoch (old.run).gates) (fills_with_lifts params c rs)

    abbrev end_turns : List Phase
    end_turns = end_phases params (public_of_kept params c rs (old.run).epoch (old.run).gates) (fills_with_lifts params c rs)

    pub end_is : end_turns ≡ ring_phases p q Ends (fills_with_lifts p c rs)
    end_is =
        ap (λ (x : Params). end_phases x (public_of_kept x c rs (old.run).epoch (old.run).gates) (fills_with_lifts x c rs)) at.params
        ∙ ap (λ (x : Public). end_phases p x (fills_with_lifts p c rs)) at.known

    end_row_is : end_row ≡ ring_notes p q Ends (fills_with_lifts p c rs)
    end_row_is =
        ap (λ (x : Params). end_notes x (public_of_kept x c rs (old.run).epoch (old.run).gates) (fills_with_lifts x c rs)) at.params
        ∙ ap (λ (x : Public). end_notes p x (fills_with_lifts p c rs)) at.known

    -- the call made these phases, by so many lanes
    abbrev Made : ℕ → List Phase → Type 0
    Made lanes phases = ArePhasesMade lanes phases (disk old.store).seen (disk new.store).seen

    -- phases by another name, of which all were made, or the first ones
    all_made : (phases phases' : List Phase) → phases ≡ phases' → Made old.lanes phases → Made most phases'
    all_made phases phases' is made = subst (λ (m : ℕ). Made m phases') at.lanes (subst (λ (l : List Phase). Made old.lanes l) is made)

    first_made : (phases phases' : List Phase) (row row' shown : List Note) → phases ≡ phases' → row ≡ row' → IsFrontShown old.lanes phases row shown (disk old.store).seen (disk new.store).seen
        → (more : List Event) × AreFirst most phases' more × Notes more (disk old.store).seen (disk new.store).seen × IsFrontDealt most phases' row' more shown
    first_made phases phases' row row' shown is row_is front =
        let made : Made most front.first = all_made front.first front.first refl front.seen in (
          made.events,
          (front.first, front.rest, sym is ∙ front.split, made.dealt),
          made.noted,
          record {
            made = front.made;
            cut = subst (λ (l : List Note). IsCut l front.made shown) row_is front.cut;
            first = front.first;
            rest = front.rest;
            split = sym is ∙ front.split;
            same = front.same;
            dealt = made.dealt;
          },
        )

    -- the rows in which a refused call is cut: a batch's record, an end's lifts
    pub record_is : append_notes params (suc (old.run).epoch) (next_batch old.run) ≡ record_notes p (((q.known).epoch + 1) % 2) q.shown
    record_is =
        record_written params (suc (old.run).epoch) (next_batch old.run)
        ∙ ap (λ (x : Params). record_notes x (suc (old.run).epoch % 2) (next_batch old.run)) at.params
        ∙ ap (λ (m : ℕ). record_notes p (suc (old.run).epoch % 2) m) (sym is_next ∙ at.shown)
        ∙ ap (λ (m : ℕ). record_notes p (m % 2) q.shown) (omega (arith, ap (λ (x : Public). x.epoch) at.known))

    lifts_are : end_lifts params (public_of_kept params c rs (old.run).epoch (old.run).gates) (fills_with_lifts params c rs) ≡ end_lifts p q.known (fills_with_lifts p c rs)
    lifts_are =
        ap (λ (x : Params). end_lifts x (public_of_kept x c rs (old.run).epoch (old.run).gates) (fills_with_lifts x c rs)) at.params
        ∙ ap (λ (x : Public). end_lifts p x (fills_with_lifts p c rs)) at.known

    -- a call that was refused, and showed this
    stopped : (call : VaultCall) (fills : Fills) (refused : Fault) (more : List Event) (notes : List Note) → RingCut most p q h call fills new.drawn refused more → Notes more (disk old.store).seen (disk new.store).seen
        → IsTapeBehind p h (Some call) new.drawn (Some refused) → IsRefusalWhy ring_kind keys p f opened (disk new.store) h so_far n (Some call) new.drawn refused
        → RingCutShown most p q call fills refused more notes → Stops ring_kind keys most p f opened (disk old.store) (disk new.store) new.drawn q h so_far n call refused notes
    stopped call fills refused more notes is_cut seen of_tape why shown = record {
      more = more;
      cut = (fills, is_cut);
      shown = shown;
      seen = seen;
      why = why;
      of_tape = of_tape;
    }

    -- ---- a batch

    module _ (asks : List (Option ℕ)) (notes : List Note) where
      abbrev r : BatchRecord
      r = record_of_fetch disk old new notes asks

      abbrev then : List BatchRecord
      then = rs ++ r ∷ []

      fit : FetchCalled disk old new notes asks (Ok tt) → RecordsFit p then
      fit one = subst (λ (x : Params). RecordsFit x then) ((one.run).params ∙ at.params) (one.onward c rs at.planned is_next).fit

      fetched_at : FetchCalled disk old new notes asks (Ok tt) → ((m : Map nat_cmp) → IsRingMap keys p opened f m → (u : VaultState) × k.holds w u × (u.spent ≡ false))
          → RingAt k disk runs keys most p f opened (ring_next p q Fetches (fills_of p c then)) (with_next p h r) n w
      fetched_at one holds =
          let params_are : (new.run).params ≡ p = (one.run).params ∙ at.params in
          let planned : HasPlanned new.run c then = one.onward c rs at.planned is_next in
          let obeys : Obeys p c = subst (λ (x : Params). Obeys x c) params_are planned.obeys in
          let scheduled = batches_are_scheduled.own p c rs r (old.run).epoch (old.run).gates obeys (fit one) in
          let places : params.places ≡ p.places = ap (λ (x : Params). x.places) at.params in
          let drawn : (new.run).drawn ≡ (old.run).drawn + p.places = (one.run).drawn ∙ drawn_more params.places old.drawn new.drawn one.draws ∙ ap (λ m. m + params.places) (sym (one.run).was_drawn) ∙ ap (λ m. (old.run).drawn + m) places in
          let sealed : ((new.run).sealer).next ≡ ((old.run).sealer).next + record_cells p = ap (λ (s : Sealing). s.next) (one.seals).all ∙ ap (λ (x : Params). ((old.run).sealer).next + record_cells x) at.params in
          record {
            params = params_are;
            keys_are = (one.run).keys ∙ at.keys_are;
            lanes = (one.run).lanes ∙ at.lanes;
            many = at.many;
            planned = planned;
            known = ap (λ e. public_of_kept p c then e (new.run).gates) one.epoch
                ∙ ap (λ (g : Gates). public_of_kept p c then (old.run).epoch g) one.gates
                ∙ sym scheduled.behind
                ∙ ap (λ (x : Public). after_phase p x (batch_leaves p (fills_of p c then) (length rs))) at.known
                ∙ ap (λ (m : ℕ). after_phase p q.known (batch_leaves p (fills_of p c then) m)) at.shown;
            shown = length-append rs (r ∷ []) ∙ one_longer (length rs) ∙ ap suc at.shown;
            generation = (one.run).generation ∙ at.generation;
            tape = grown disk old new notes p h at.params at.planned at.generation at.tape one.run;
            sealed = sealed ∙ ap (λ m. m + record_cells p) at.sealed;
            left = omega (arith, one.left, at.left, length-append rs (r ∷ []));
            epoch = one.epoch ∙ at.epoch;
            epoch_hidden = one.epoch ∙ at.epoch_hidden;
            words = less_left (new.run).left (old.run).left p.places (p.writes + buckets p * width p) (old.run).drawn (new.run).drawn (suc n * words_an_epoch p) one.left drawn at.words;
            seals = less_left (new.run).left (old.run).left (record_cells p) (buckets p * width p + checkpoint_cells p) ((old.run).sealer).next ((new.run).sealer).next (suc n * seals_an_epoch p) one.left sealed at.seals;
            held = holds;
            stands = lies_batch asks notes one;
          }
        where
          one_longer : (i : ℕ) → i + 1 ≡ suc i
          one_longer i = omega arith

      -- ---- why one is refused

      worn_hidden : FetchCalled disk old new notes asks (Err (fault.Worn (2 ^ 62))) → IsWornForBatch old.run → IsCallWorn p h (Some (Fetch asks)) new.drawn
      worn_hidden one (inl past) = inl (subst (λ (m : ℕ). 2 ^ 62 < m + p.places) (drawn_hidden notes one.run) (subst (λ (x : Params). 2 ^ 62 < (old.run).drawn + x.places) at.params past))
      worn_hidden one (inr past) = inr (subst (λ (m : ℕ). 2 ^ 62 < m + record_cells p) at.sealed (subst (λ (x : Params). 2 ^ 62 < ((old.run).sealer).next + record_cells x) at.params past))

      batch_worn : FetchCalled disk old new notes asks (Err (fault.Worn (2 ^ 62))) → IsWornForBatch old.run → IsRingWorn p (f.run).epoch n
      batch_worn one (inl past) = inr (inl (batch_past (old.run).left p.places (p.writes + buckets p * width p) (old.run).drawn (suc n * words_an_epoch p) (2 ^ 62) one.some_left at.words
          (subst (λ (x : Params). 2 ^ 62 < (old.run).drawn + x.places) at.params past)))
      batch_worn one (inr past) = inr (inr (batch_past (old.run).left (record_cells p) (buckets p * width p + checkpoint_cells p) ((old.run).sealer).next (suc n * seals_an_epoch p) (2 ^ 62) one.some_left at.seals
          (subst (λ (x : Params). 2 ^ 62 < ((old.run).sealer).next + record_cells x) at.params past)))

      batch_why : (refused : Fault) → FetchCalled disk old new notes asks (Err refused) → IsRefusalWhy ring_kind keys p f opened (disk new.store) h so_far n (Some (Fetch asks)) new.drawn refused
      batch_why (fault.StoreFault unsure) one = inl one.refusal
      batch_why (fault.Worn number) one =
          let same = subst (λ m. FetchCalled disk old new notes asks (Err (fault.Worn m))) one.refusal one in
          (one.refusal, worn_hidden same (one.worn.0 tt), batch_worn same (one.worn.0 tt))
      batch_why (fault.Damaged cell check kept computed) one = (
        λ tells. record {
          obeys = subst (λ (x : Params). Obeys x c) at.params (at.planned).obeys;
          read = told (one.answers start t start_seals stands (((one.run).goes).told tells));
        },
        none_damaged (λ s was. one.undamaged s was),
      )
        where
          -- its record is that of what is hidden
          next_is : r ≡ record_hidden h asks new.drawn
          next_is = λ i. record {
            batch = (sym is_next) i;
            generation = (at.generation) i;
            number = (at.sealed) i;
            first = (drawn_hidden notes one.run) i;
            asks = asks;
            words = words_since ((at.tape) i) new.drawn;
          }

          told : IsBatchDamage ((old.run).sealer).keys params c.versions (disk new.store).cells t r (record { cell = cell; check = check; kept = kept; computed = computed })
              → IsBatchDamage keys p c.versions (disk new.store).cells (table_hidden p h) (record_hidden h asks new.drawn) (record { cell = cell; check = check; kept = kept; computed = computed })
          told is = subst (λ (x : BatchRecord). IsBatchDamage keys p c.versions (disk new.store).cells (table_hidden p h) x (record { cell = cell; check = check; kept = kept; computed = computed })) next_is
              (subst (λ (x : Params). IsBatchDamage keys x c.versions (disk new.store).cells (table_after_records x (flat_of x c) rs) r (record { cell = cell; check = check; kept = kept; computed = computed })) at.params
              (subst (λ (x : Keys). IsBatchDamage x params c.versions (disk new.store).cells t r (record { cell = cell; check = check; kept = kept; computed = computed })) at.keys_are is))
      batch_why fault.Memory one = absurd one.refusal
      batch_why fault.Usage one = absurd one.refusal
      batch_why (fault.BadScript line) one = absurd one.refusal
      batch_why (fault.BadParams field) one = absurd one.refusal
      batch_why fault.NotStore one = absurd one.refusal
      batch_why (fault.StashFull rows) one = absurd one.refusal
      batch_why fault.SourceFault one = absurd one.refusal
      batch_why fault.SinkFault one = absurd one.refusal

      -- where no number is worn the words of a batch are left
      words_left : {result : Result (Unit {0}) Fault} → FetchCalled disk old new notes asks result → (IsWornOut result → ⊥) → (old.run).drawn + params.places ≤ 2 ^ 62
      words_left one not = ⊎_elim (λ (lt : 2 ^ 62 < (old.run).drawn + params.places). absurd (not ((one.worn).1 (inl lt)))) (λ le. le) (cases_lt (2 ^ 62) ((old.run).drawn + params.places))

      -- and so are the seals of its record
      seals_left : {result : Result (Unit {0}) Fault} → FetchCalled disk old new notes asks result → (IsWornOut result → ⊥) → ((old.run).sealer).next + record_cells params ≤ 2 ^ 62
      seals_left one not = ⊎_elim (λ (lt : 2 ^ 62 < ((old.run).sealer).next + record_cells params). absurd (not ((one.worn).1 (inr lt)))) (λ le. le) (cases_lt (2 ^ 62) (((old.run).sealer).next + record_cells params))

      -- the words that it drew, behind those of what is hidden
      batch_tape : (refused : Fault) → FetchCalled disk old new notes asks (Err refused) → FetchDraws p.places h.words new.drawn (Err refused)
      batch_tape refused one = subst (λ (l : List ℕ). FetchDraws p.places l new.drawn (Err refused)) at.tape (subst (λ (x : Params). FetchDraws x.places old.drawn new.drawn (Err refused)) at.params one.draws)

      -- one that was refused drew a word for each place
      drawing : {result : Result (Unit {0}) Fault} → FetchCalled disk old new notes asks result → length (words_of_call disk old new notes) ≡ params.places → (IsWornOut result → ⊥) → RingDrawsCut p h (Fetch asks) (fills_of p c then) new.drawn
      drawing one many not = (
        with_next p h r,
        draws_batch disk old new notes p h at.params at.planned at.generation at.tape one.run asks one.whole is_next many (words_left one not) at.sealed (seals_left one not),
        ([], grown disk old new notes p h at.params at.planned at.generation at.tape one.run ∙ sym (append-nil _)),
      )

      abbrev BatchStops : Fault → Type 0
      BatchStops refused = Stops ring_kind keys most p f opened (disk old.store) (disk new.store) new.drawn q h so_far n (Fetch asks) refused notes

      batch_made : Made old.lanes (batch_turns then) → Made most (ring_phases p q Fetches (fills_of p c then))
      batch_made made = all_made (batch_turns then) (ring_phases p q Fetches (fills_of p c then)) (batch_is then) made

      store_stops : FetchCalled disk old new notes asks (Err (fault.StoreFault None)) → BatchStops (fault.StoreFault None)
      store_stops one = by_part (one.scheduled c rs at.planned is_next)
        where
          draws : RingDrawsCut p h (Fetch asks) (fills_of p c then) new.drawn
          draws = drawing one (one.draws).many_are (λ none. none)

          by_part : FetchShows old.lanes (append_notes params (suc (old.run).epoch) (next_batch old.run)) (batch_turns then) (batch_row then) notes (disk old.store).seen (disk new.store).seen (Err (fault.StoreFault None)) → BatchStops (fault.StoreFault None)
          by_part (inl front) =
              let (more, first, seen, shown) = first_made _ (phases_of (record_notes p (((q.known).epoch + 1) % 2) q.shown)) _ (record_notes p (((q.known).epoch + 1) % 2) q.shown) notes (ap phases_of record_is) record_is front in
              stopped (Fetch asks) (fills_of p c then) (fault.StoreFault None) more notes (draws, inl first) seen (batch_tape (fault.StoreFault None) one) (batch_why (fault.StoreFault None) one) (inl shown)
          by_part (inr row) =
              let made = batch_made (row.seen) in
              stopped (Fetch asks) (fills_of p c then) (fault.StoreFault None) made.events notes (draws, inr made.dealt) made.noted (batch_tape (fault.StoreFault None) one) (batch_why (fault.StoreFault None) one)
              (inr (made.dealt, row.all ∙ batch_row_is then))

      batch_stops : (refused : Fault) → FetchCalled disk old new notes asks (Err refused) → BatchStops refused
      batch_stops (fault.StoreFault unsure) one =
          subst (λ (u : Option ℕ). BatchStops (fault.StoreFault u)) (sym one.refusal) (store_stops (subst (λ (u : Option ℕ). FetchCalled disk old new notes asks (Err (fault.StoreFault u))) one.refusal one))
      batch_stops (fault.Damaged cell check kept computed) one =
          let made = batch_made (one.scheduled c rs at.planned is_next).seen in
          stopped (Fetch asks) (fills_of p c then) (fault.Damaged cell check kept computed) made.events notes (drawing one (one.draws).many_are (λ none. none), made.dealt) made.noted
          (batch_tape (fault.Damaged cell check kept computed) one) (batch_why (fault.Damaged cell check kept computed) one) ((one.scheduled c rs at.planned is_next).all ∙ batch_row_is then)
      batch_stops (fault.Worn number) one =
          let none = (one.scheduled c rs at.planned is_next).seen in
          stopped (Fetch asks) (fills_of p c then) (fault.Worn number) none.events notes none.dealt none.noted (batch_tape (fault.Worn number) one) (batch_why (fault.Worn number) one) (one.scheduled c rs at.planned is_next).all
      batch_stops fault.Memory one = absurd one.refusal
      batch_stops fault.Usage one = absurd one.refusal
      batch_stops (fault.BadScript line) one = absurd one.refusal
      batch_stops (fault.BadParams field) one = absurd one.refusal
      batch_stops fault.NotStore one = absurd one.refusal
      batch_stops (fault.StashFull rows) one = absurd one.refusal
      batch_stops fault.SourceFault one = absurd one.refusal
      batch_stops fault.SinkFault one = absurd one.refusal

    -- ---- an end

    module _ (writes : List Write) (notes : List Note) where
      ended_at : (one : EndCalled disk old new notes writes (Ok tt)) → ((m : Map nat_cmp) → IsRingMap keys p opened f m → (u : VaultState) × k.holds w u × (u.spent ≡ false))
          → RingAt k disk runs keys most p f opened (ring_next p q Ends (fills_with_lifts p c rs)) (ended disk old new notes p h at.params at.planned at.generation at.tape one.run writes one) (suc n) w
      ended_at one holds =
          let params_are : (new.run).params ≡ p = (one.run).params ∙ at.params in
          let leads : LeadsOn params ((old.run).sealer).generation c rs (old.run).epoch (old.run).gates (new.run).ring (new.run).gates = one.onward c rs at.planned in
          let batches : (new.run).left ≡ p.batches = one.left ∙ ap (λ (x : Params). x.batches) at.params in
          let drawn : (new.run).drawn ≡ (old.run).drawn + words_for_end params t = (one.run).drawn ∙ drawn_more (words_for_end params t) old.drawn new.drawn (one.draws t stands) ∙ ap (λ m. m + words_for_end params t) (sym (one.run).was_drawn) in
          let drawn_few : (new.run).drawn ≤ (old.run).drawn + (p.writes + buckets p * width p) =
          subst (λ (x : Params). (new.run).drawn ≤ (old.run).drawn + (x.writes + buckets x * width x)) at.params (omega (arith, drawn, words_few params t)) in
          let sealed : ((new.run).sealer).next ≡ ((old.run).sealer).next + seals_for_end params t = ap (λ (s : Sealing). s.next) (one.seals t stands).all in
          let sealed_few : ((new.run).sealer).next ≤ ((old.run).sealer).next + (buckets p * width p + checkpoint_cells p) =
          subst (λ (x : Params). ((new.run).sealer).next ≤ ((old.run).sealer).next + (buckets x * width x + checkpoint_cells x)) at.params (omega (arith, sealed, seals_few params t)) in
          record {
            params = params_are;
            keys_are = (one.run).keys ∙ at.keys_are;
            lanes = (one.run).lanes ∙ at.lanes;
            many = at.many;
            planned = subst (λ (x : Params). PlansFrom x ((new.run).sealer).generation (new.run).gates (new.run).ring (content_of_ring (new.run).ring) []) (sym (one.run).params)
                (subst (λ g. PlansFrom params g (new.run).gates (new.run).ring (content_of_ring (new.run).ring) []) (sym (one.run).generation) leads.plans);
            known = ap (λ e. public_of_kept p (content_of_ring (new.run).ring) [] e (new.run).gates) one.epoch
                ∙ subst (λ (x : Params). public_of_kept x (content_of_ring (new.run).ring) [] (suc (old.run).epoch) (new.run).gates ≡ after_end x (public_of_kept x c rs (old.run).epoch (old.run).gates)) at.params (sym leads.public)
                ∙ ap (λ (x : Public). after_end p x) at.known;
            shown = refl;
            generation = refl;
            tape = refl;
            sealed = refl;
            left = omega (arith, batches);
            epoch = one.epoch ∙ ap suc at.epoch ∙ next_epoch (f.run).epoch n;
            epoch_hidden = refl;
            words = subst (λ m. (new.run).drawn + (m * p.places + (p.writes + buckets p * width p)) ≤ suc (suc n) * words_an_epoch p) (sym batches)
                (one_more (old.run).left p.batches p.places (p.writes + buckets p * width p) n (old.run).drawn (new.run).drawn drawn_few at.words);
            seals = subst (λ m. ((new.run).sealer).next + (m * record_cells p + (buckets p * width p + checkpoint_cells p)) ≤ suc (suc n) * seals_an_epoch p) (sym batches)
                (one_more (old.run).left p.batches (record_cells p) (buckets p * width p + checkpoint_cells p) n ((old.run).sealer).next ((new.run).sealer).next sealed_few at.seals);
            held = holds;
            stands = lies_end writes notes one;
          }
        where
          next_epoch : (i j : ℕ) → suc (i + j) ≡ i + suc j
          next_epoch i j = omega arith

      end_worn : IsWornForEnd params t (old.run).epoch (old.run).drawn ((old.run).sealer).next (writes_of_end disk old new notes writes) → IsRingWorn p (f.run).epoch n
      end_worn (inl last) = inl (ap suc (sym at.epoch) ∙ last)
      end_worn (inr (inl (more, past))) = inr (inl (end_past (words_for_end params t) (old.run).left p.places (p.writes + buckets p * width p) (old.run).drawn (suc n * words_an_epoch p) (2 ^ 62)
          (subst (λ (x : Params). words_for_end params t ≤ x.writes + buckets x * width x) at.params (words_few params t)) at.words past))
      end_worn (inr (inr (has, few, past))) = inr (inr (end_past (seals_for_end params t) (old.run).left (record_cells p) (buckets p * width p + checkpoint_cells p) ((old.run).sealer).next (suc n * seals_an_epoch p) (2 ^ 62)
          (subst (λ (x : Params). seals_for_end params t ≤ buckets x * width x + checkpoint_cells x) at.params (seals_few params t)) at.seals past))

    -- ---- an end that was refused, or left in doubt

    module _ (asked : List (ℕ × Option (List ℕ))) (notes : List Note) where
      abbrev own : List Write
      own = map write_from asked

      abbrev Refused : Fault → Type 0
      Refused refused = EndCalled disk old new notes own (Err (Before refused))

      -- why it was refused
      abbrev EndIsWhy : Fault → Type 0
      EndIsWhy refused = IsRefusalWhy ring_kind keys p f opened (disk new.store) h so_far n (Some (End asked)) new.drawn refused

      -- its writes, of what is hidden
      writes_are : (result : Result (Unit {0}) EndErr) → EndCalled disk old new notes own result → writes_of_end disk old new notes own ≡ writes_hidden p h asked new.drawn
      writes_are result one = λ i. end_writes ((at.params) i) own (words_since ((at.tape) i) new.drawn) ((at.generation) i) ((drawn_hidden notes one.run) i)

      answers_hidden : (refused : EndErr) → EndCalled disk old new notes own (Err refused) → EndAnswers p (table_hidden p h) h.epoch (length h.words) h.seals (writes_hidden p h asked new.drawn) (Err refused)
      answers_hidden refused one =
          answers_named params p t (table_hidden p h) (old.run).epoch h.epoch (old.run).drawn (length h.words) ((old.run).sealer).next h.seals (writes_of_end disk old new notes own) (writes_hidden p h asked new.drawn) refused
          at.params table_is at.epoch_hidden (drawn_hidden notes one.run) at.sealed (writes_are (Err refused) one) (one.answers t stands)

      -- the words that it drew, behind those of what is hidden
      end_tape : (refused : EndErr) → EndCalled disk old new notes own (Err refused) → EndDraws p (table_hidden p h) h.epoch (length h.words) h.words new.drawn (Err refused)
      end_tape refused one =
          draws_named params p t (table_hidden p h) (old.run).epoch h.epoch (old.run).drawn (length h.words) old.drawn h.words new.drawn refused
          at.params table_is at.epoch_hidden (drawn_hidden notes one.run) at.tape (one.draws t stands)

      end_why : (refused : Fault) → Refused refused → EndIsWhy refused
      end_why (fault.StoreFault unsure) one = inl one.refusal
      end_why (fault.Worn number) one = let (is, worn) = answers_hidden (Before (fault.Worn number)) one in let (same, past) = one.answers t stands in (is, worn, end_worn own notes past)
      end_why (fault.StashFull rows) one = answers_hidden (Before (fault.StashFull rows)) one
      end_why (fault.Damaged cell check kept computed) one = (
        λ tells. record {
          obeys = subst (λ (x : Params). Obeys x c) at.params (at.planned).obeys;
          read = told (one.damage start t start_seals stands (((one.run).goes).told tells));
        },
        none_damaged (λ s was. one.undamaged s was),
      )
        where
          told : IsLiftDamage ((old.run).sealer).keys params c.versions (disk new.store).cells t (record { cell = cell; check = check; kept = kept; computed = computed })
              → IsLiftDamage keys p c.versions (disk new.store).cells (table_after_records p (flat_of p c) rs) (record { cell = cell; check = check; kept = kept; computed = computed })
          told is = subst (λ (x : Params). IsLiftDamage keys x c.versions (disk new.store).cells (table_after_records x (flat_of x c) rs) (record { cell = cell; check = check; kept = kept; computed = computed })) at.params
              (subst (λ (x : Keys). IsLiftDamage x params c.versions (disk new.store).cells t (record { cell = cell; check = check; kept = kept; computed = computed })) at.keys_are is)
      end_why fault.Memory one = absurd one.refusal
      end_why fault.Usage one = absurd one.refusal
      end_why (fault.BadScript line) one = absurd one.refusal
      end_why (fault.BadParams field) one = absurd one.refusal
      end_why fault.NotStore one = absurd one.refusal
      end_why fault.SourceFault one = absurd one.refusal
      end_why fault.SinkFault one = absurd one.refusal

      -- only its store leaves one in doubt
      doubt_why : (refused : Fault) → EndCalled disk old new notes own (Err (Unsure refused)) → EndIsWhy refused
      doubt_why refused one = subst EndIsWhy (sym one.refusal) (inr (ap Some (one_behind (old.run).epoch ∙ ap suc at.epoch)))
        where
          one_behind : (i : ℕ) → i + 1 ≡ suc i
          one_behind i = omega arith

      abbrev EndStops : Fault → Type 0
      EndStops refused = Stops ring_kind keys most p f opened (disk old.store) (disk new.store) new.drawn q h so_far n (End asked) refused notes

      abbrev fills : Fills
      fills = fills_with_lifts p c rs

      -- the lifts were read
      lifts_made : Made old.lanes (shared (end_lifts params (public_of_kept params c rs (old.run).epoch (old.run).gates) (fills_with_lifts params c rs)) ∷ []) → Made most (shared (end_lifts p q.known fills) ∷ [])
      lifts_made made = all_made _ (shared (end_lifts p q.known fills) ∷ []) (ap (λ (l : List Note). shared l ∷ []) lifts_are) made

      store_stops_end : Refused (fault.StoreFault None) → EndStops (fault.StoreFault None)
      store_stops_end one =
          let (more, first, seen, shown) = first_made (before_gate end_turns) (before_gate (ring_phases p q Ends fills)) (before_gate end_row) (before_gate (ring_notes p q Ends fills)) notes
          (ap (λ (l : List Phase). before_gate l) end_is) (ap (λ (l : List Note). before_gate l) end_row_is) (one.scheduled c rs at.planned) in
          stopped (End asked) fills (fault.StoreFault None) more notes (refl, first, answers_hidden (Before (fault.StoreFault None)) one) seen (end_tape (Before (fault.StoreFault None)) one) (end_why (fault.StoreFault None) one) shown

      worn_stops : (number : ℕ) → Refused (fault.Worn number) → EndStops (fault.Worn number)
      worn_stops number one = by_part (one.scheduled c rs at.planned)
        where
          by_part : EndShows old.lanes (end_lifts params (public_of_kept params c rs (old.run).epoch (old.run).gates) (fills_with_lifts params c rs)) end_turns end_row notes (disk old.store).seen (disk new.store).seen (Err (Before (fault.Worn number))) → EndStops (fault.Worn number)
          by_part (inl none) = stopped (End asked) fills (fault.Worn number) (none.seen).events notes (refl, inl (none.seen).dealt, answers_hidden (Before (fault.Worn number)) one) (none.seen).noted (end_tape (Before (fault.Worn number)) one) (end_why (fault.Worn number) one)
              (inl ((none.seen).dealt, none.all))
          by_part (inr row) =
              let made = lifts_made row.seen in
              stopped (End asked) fills (fault.Worn number) made.events notes (refl, inr made.dealt, answers_hidden (Before (fault.Worn number)) one) made.noted (end_tape (Before (fault.Worn number)) one) (end_why (fault.Worn number) one)
              (inr (made.dealt, row.all ∙ lifts_are))

      end_stops : (refused : Fault) → Refused refused → EndStops refused
      end_stops (fault.StoreFault unsure) one =
          subst (λ (u : Option ℕ). EndStops (fault.StoreFault u)) (sym one.refusal) (store_stops_end (subst (λ (u : Option ℕ). Refused (fault.StoreFault u)) one.refusal one))
      end_stops (fault.Damaged cell check kept computed) one =
          let made = lifts_made (one.scheduled c rs at.planned).seen in
          stopped (End asked) fills (fault.Damaged cell check kept computed) made.events notes (refl, made.dealt, answers_hidden (Before (fault.Damaged cell check kept computed)) one) made.noted
          (end_tape (Before (fault.Damaged cell check kept computed)) one) (end_why (fault.Damaged cell check kept computed) one) ((one.scheduled c rs at.planned).all ∙ lifts_are)
      end_stops (fault.StashFull rows) one =
          let made = lifts_made (one.scheduled c rs at.planned).seen in
          stopped (End asked) fills (fault.StashFull rows) made.events notes (refl, made.dealt, answers_hidden (Before (fault.StashFull rows)) one) made.noted (end_tape (Before (fault.StashFull rows)) one) (end_why (fault.StashFull rows) one)
          ((one.scheduled c rs at.planned).all ∙ lifts_are)
      end_stops (fault.Worn number) one = worn_stops number one
      end_stops fault.Memory one = absurd one.refusal
      end_stops fault.Usage one = absurd one.refusal
      end_stops (fault.BadScript line) one = absurd one.refusal
      end_stops (fault.BadParams field) one = absurd one.refusal
      end_stops fault.NotStore one = absurd one.refusal
      end_stops fault.SourceFault one = absurd one.refusal
      end_stops fault.SinkFault one = absurd one.refusal

      -- up to the gate's write, with the sync behind it or without
      gate_stops : (epoch : ℕ) → EndCalled disk old new notes (map write_from asked) (Err (Unsure (fault.StoreFault (Some epoch)))) → EndStops (fault.StoreFault (Some epoch))
      gate_stops epoch one = by_part (one.scheduled c rs at.planned).seen
        where
          up_to : notes ≡ up_to_gate (ring_notes p q Ends fills)
          up_to = (one.scheduled c rs at.planned).all ∙ ap (λ (l : List Note). up_to_gate l) end_row_is

          by_part : Made old.lanes (up_to_gate end_turns) ⊎ Made old.lanes end_turns → EndStops (fault.StoreFault (Some epoch))
          by_part (inl before) =
              let made = all_made (up_to_gate end_turns) (up_to_gate (ring_phases p q Ends fills)) (ap (λ (l : List Phase). up_to_gate l) end_is) before in
              stopped (End asked) fills (fault.StoreFault (Some epoch)) made.events notes (refl, inl made.dealt, answers_hidden (Unsure (fault.StoreFault (Some epoch))) one) made.noted
              (end_tape (Unsure (fault.StoreFault (Some epoch))) one) (doubt_why (fault.StoreFault (Some epoch)) one) up_to
          by_part (inr all) =
              let made = all_made end_turns (ring_phases p q Ends fills) end_is all in
              stopped (End asked) fills (fault.StoreFault (Some epoch)) made.events notes (refl, inr made.dealt, answers_hidden (Unsure (fault.StoreFault (Some epoch))) one) made.noted
              (end_tape (Unsure (fault.StoreFault (Some epoch))) one) (doubt_why (fault.StoreFault (Some epoch)) one) up_to

      doubt_stops : (refused : Fault) → EndCalled disk old new notes (map write_from asked) (Err (Unsure refused)) → EndStops refused
      doubt_stops refused one =
          subst (λ (x : Fault). EndStops x) (sym one.refusal) (gate_stops ((old.run).epoch + 1) (subst (λ (x : Fault). EndCalled disk old new notes (map write_from asked) (Err (Unsure x))) one.refusal one))

  -- each call
  pub ring_does : (q : RingPublic) (h : RingHidden) (so_far : List Shape) (n : ℕ) (v : V) (call : VaultCall) (answer : VaultAnswer) (w : V) → RingBehind q h so_far n v → (one : Called k v call answer w)
      → IsCallOfKind ring_kind keys most p f opened RingBehind (disk (runs v).store) (disk (runs w).store) (runs w).drawn w one.notes q h so_far n call answer
  ring_does q h so_far n v (Fetch asks) (Values values) w at one =
      let is : FetchCalled disk (runs v) (runs w) one.notes asks (Ok tt) = words.called v (Fetch asks) (Values values) one.notes w one.called in
      let rs' = then q h so_far n v w at asks one.notes in
      record {
        drawn = fills_of p h.content rs';
        behind = with_next p h (r q h so_far n v w at asks one.notes);
        draws = (
          draws_batch disk (runs v) (runs w) one.notes p h at.params at.planned at.generation at.tape is.run asks is.whole (is_next q h so_far n v w at) (is.draws).many_are
              (words_left q h so_far n v w at asks one.notes is (λ none. none)) at.sealed (seals_left q h so_far n v w at asks one.notes is (λ none. none)),
          fit q h so_far n v w at asks one.notes is,
        );
        seen = all_made q h so_far n v w at (batch_turns q h so_far n v w at rs') (ring_phases p q Fetches (fills_of p h.content rs')) (batch_is q h so_far n v w at rs') (is.scheduled h.content h.records at.planned (is_next q h so_far n v w at)).seen;
        shown = (is.scheduled h.content h.records at.planned (is_next q h so_far n v w at)).all ∙ batch_row_is q h so_far n v w at rs';
        at = fetched_at q h so_far n v w at asks one.notes is (held_on q h so_far n v w at (Fetch asks) (Values values) one (λ u. refl));
      }
  ring_does q h so_far n v (End writes) Ended w at one =
      let is : EndCalled disk (runs v) (runs w) one.notes (map write_from writes) (Ok tt) = words.called v (End writes) Ended one.notes w one.called in
      record {
        drawn = fills_with_lifts p h.content h.records;
        behind = ended disk (runs v) (runs w) one.notes p h at.params at.planned at.generation at.tape is.run (map write_from writes) is;
        draws = draws_end disk (runs v) (runs w) one.notes p h at.params at.planned at.generation at.tape is.run (map write_from writes) is (all_shown q h so_far n v w at is.none_left) at.epoch_hidden at.sealed;
        seen = all_made q h so_far n v w at (end_turns q h so_far n v w at) (ring_phases p q Ends (fills_with_lifts p h.content h.records)) (end_is q h so_far n v w at) (is.scheduled h.content h.records at.planned).seen;
        shown = (is.scheduled h.content h.records at.planned).all ∙ end_row_is q h so_far n v w at;
        at = ended_at q h so_far n v w at (map write_from writes) one.notes is (held_on q h so_far n v w at (End writes) Ended one (λ u. refl));
      }
  ring_does q h so_far n v (Fetch asks) (RefusedBy refused) w at one =
      batch_stops q h so_far n v w at asks one.notes refused (words.called v (Fetch asks) (RefusedBy refused) one.notes w one.called)
  ring_does q h so_far n v (End writes) (RefusedBy refused) w at one =
      end_stops q h so_far n v w at writes one.notes refused (words.called v (End writes) (RefusedBy refused) one.notes w one.called)
  ring_does q h so_far n v (End writes) (DoubtBy refused) w at one =
      doubt_stops q h so_far n v w at writes one.notes refused (words.called v (End writes) (DoubtBy refused) one.notes w one.called)
  ring_does q h so_far n v (Fetch asks) Ended w at one = tt
  ring_does q h so_far n v (Fetch asks) (DoubtBy refused) w at one = tt
  ring_does q h so_far n v (End writes) (Values values) w at one = tt

pub ring_calls_do : {V S : Type 0} (k : Kind V) (disk : S → Disk) → RingCallsDo k disk
ring_calls_do k disk runs words keys most p f first q h so_far n v call answer w at one = ring_does k disk runs words keys most p f (disk (runs first).store) q h so_far n v call answer w at one

pub words_are_of_tape : {V S : Type 0} (k : Kind V) (disk : S → Disk) → RingWordsAreOfTape k disk
words_are_of_tape k disk runs keys most p f first q h n v at refused = at.tape
