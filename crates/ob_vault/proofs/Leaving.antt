-- What a store is left as, where a life is.
use Rattle.std.specs.Prelude.{◌≡◌, ◌⊎◌, ℕ, suc, ◌+◌, ◌%◌, ◌<◌, false, List, [], ◌∷◌, ◌++◌, map, length, Option, Some, None}
use Rattle.std.specs.Ordering.{nat_cmp}
use Rattle.std.proofs.Common.{arith, refl, sym, ap, subst, ◌∙◌, inl, inr}
use Rattle.std.proofs.lemmas.List.{length-map}
use Rattle.std.proofs.lemmas.Option.{same_Some}
use Rattle.ob_base.specs.declared.fault.Fault.{Fault}
use Rattle.ob_base.specs.declared.params.Params.{Params}
use Rattle.ob_tables.specs.Content.{Content}
use Rattle.ob_fetch.specs.Fetches.{next_batch, words_since}
use Rattle.ob_fetch.specs.declared.run.Run.{Run}
use Rattle.ob_fresh.proofs.Turns.{all_made}
use Rattle.ob_fresh.specs.Drawn.{DrawInTurn, WordsKept}
use Rattle.ob_vault.specs.Shapes.{Shape}
use Rattle.ob_vault.specs.KindShown.{AreDrawn}
use Rattle.ob_recover.specs.Calls.{acts_of}
use Rattle.ob_log.specs.Appends.{append_notes}
use Rattle.ob_recover.proofs.Orders.{record_written}
use Rattle.ob_recover.specs.Life.{Append, IsActAllowed, IsLife, LifeAct, LifeBatch, LifeState, ShowBatch, WordId, reached}
use Rattle.ob_log.specs.Logs.{BatchRecord}
use Rattle.ob_recover.specs.Repeats.{content_of_ring}
use Rattle.ob_vault.proofs.Calls.{call_lives}
use Rattle.ob_vault.proofs.Fetching.{at_standing, none_pending, settled_stands}
use Rattle.ob_vault.specs.Acts.{AreBatchesSmall, AreTapeWords, IsBatchSmall, IsCallInLife, IsMadeAsTold, IsShownBy, RunsInLife, id_write, is_answered, life_call}
use Rattle.ob_vault.proofs.Barely.{barely}
use Rattle.ob_vault.specs.Hidden.{AreFirst, IsNextRecord, RingCut, RingCutShown, RingDrawsCut, RingHidden}
use Rattle.ob_vault.specs.RingKind.{IsRingMap, RingFound, ring_hidden, ring_kind}
use Rattle.ob_vault.specs.RingSteps.{HasRingWords, RingAt, RunIsAtHidden}
use Rattle.ob_vault.specs.Seen.{RingPublic}
use Rattle.ob_vault.proofs.SealCalls.{kept_by}
use Rattle.ob_recover.specs.Known.{slot_kept}
use Rattle.ob_recover.specs.Lives.{IsLifeAt, life_batch}
use Rattle.ob_vault.specs.RingVaults.{KeepsRun, RingCalled, Running, record_of_fetch, write_from, writes_of_end}
use Rattle.ob_schedule.specs.Phases.{phases_of}
use Rattle.ob_schedule.specs.Schedule.{Fills, Public, record_notes}
use Rattle.ob_seal.specs.declared.keys.Keys.{Keys}
use Rattle.ob_serial.specs.Serial.{Map}
use Rattle.ob_serial.specs.VaultKinds.{Called, Kind}
use Rattle.ob_serial.specs.Vaults.{DoubtBy, End, Ended, Fetch, RefusedBy, Values, VaultAnswer, VaultCall}
use Rattle.ob_stand.specs.Stands.{RingStanding, Stands}
use Rattle.ob_store.specs.Disk.{Clock, Disk, Image, NotAfter}
use Rattle.ob_store.specs.Told.{IsCut}
use Rattle.ob_store.specs.declared.event.Event.{Event}
use Rattle.ob_store.specs.declared.watch.Note.{Note}
use Rattle.ob_opening.specs.OpeningActs.{IsLeftAt, StandsInLife}
use Rattle.ob_vault.proofs.DrawnChains.{GoesOn, all_on, drawn_shown, tape_before}
use Rattle.ob_vault.proofs.Cutting.{cut_batch, cut_end, filled_batch, filled_end}
use Rattle.ob_vault.specs.Lives.{AreFirstActs, IsCutInLife, IsLeftInLife, IsShownInLife, RingGoesOn}
use Rattle.ob_vault.specs.Shown.{AreActsOf, AreFilledBy, AreOfLife, IsInLife}

none_cut : (call : VaultCall) → ◌≡◌ {A = Option VaultCall} None (Some call) → ⊥
none_cut call e = cc e

module _ {V S : Type 0} (k : Kind V) (disk : S → Disk) (runs : V → Running S) (words : HasRingWords k disk runs)
    (counts_now : (x : S) (t : Clock) (c : Image) → NotAfter t (disk x).moment → (disk x).may_leave c → (disk x).left_since t c) (only_now : (x : S) (c : Image) → (disk x).left_since (disk x).moment c → (disk x).may_leave c)
    (keys : Keys) (most : ℕ) (p : Params) (f : RingFound) (opened : Disk) where
  -- ---- how many batches were left

  fetch_left : (asks : List (Option ℕ)) (answer : VaultAnswer) (v w : V) (notes : List Note) → RingCalled disk (runs v) (runs w) notes (Fetch asks) answer → 0 < ((runs v).run).left
  fetch_left asks (Values out) v w notes is = is.some_left
  fetch_left asks (RefusedBy fault) v w notes is = is.some_left
  fetch_left asks Ended v w notes is = absurd is
  fetch_left asks (DoubtBy fault) v w notes is = absurd is

  end_left : (ws : List (ℕ × Option (List ℕ))) (answer : VaultAnswer) (v w : V) (notes : List Note) → RingCalled disk (runs v) (runs w) notes (End ws) answer → ((runs v).run).left ≡ 0
  end_left ws Ended v w notes is = is.none_left
  end_left ws (RefusedBy fault) v w notes is = is.none_left
  end_left ws (DoubtBy fault) v w notes is = is.none_left
  end_left ws (Values out) v w notes is = absurd is

  pub some_left : (h : RingHidden) (run_left : ℕ) → run_left + length h.records ≡ p.batches → 0 < run_left → length h.records < p.batches
  some_left h run_left all some = omega (arith, all, some)

  none_left : (h : RingHidden) (run_left : ℕ) → run_left + length h.records ≡ p.batches → run_left ≡ 0 → length h.records ≡ p.batches
  none_left h run_left all none = omega (arith, all, none)

  module _ (q : RingPublic) (h : RingHidden) (n : ℕ) (v : V) (at : RingAt k disk runs keys most p f opened q h n v) (word_of : WordId → ℕ) (s : LifeState) (here : IsInLife p word_of h s) (lies : RunIsAtHidden (runs v).run h.content h.records (disk (runs v).store)) where
    abbrev run : Run
    run = (runs v).run

    abbrev st : RingStanding
    st = lies.standing

    pub epoch : st.epoch ≡ s.epoch
    epoch = sym ((lies.at).runs).epoch_is ∙ at.epoch_hidden ∙ sym here.epoch

    pub generation : st.generation ≡ s.generation
    generation = sym ((lies.at).runs).generation_is ∙ at.generation ∙ sym here.generation

    pub life : IsLifeAt p word_of st.content st.records s
    life = subst (λ (c : Content). IsLifeAt p word_of c st.records s) (sym lies.content) (subst (λ (rs : List BatchRecord). IsLifeAt p word_of h.content rs s) (sym lies.records) here.life)

    -- ---- behind calls that were all answered

    pub standing_here : (c : Image) → Stands keys p st c → StandsInLife keys p word_of s c
    standing_here c stands = at_standing keys p word_of st s c stands epoch generation life

    pub stands_here : (c : Image) → (disk (runs v).store).may_leave c → StandsInLife keys p word_of s c
    stands_here c left = standing_here c (settled_stands run keys p st (disk (runs v).store) c lies.at at.keys_are at.params left)

    pub at_rest : (ws : List ℕ) (seen : List Event) → IsLeftInLife keys most p word_of s h None ws seen (disk (runs v).store)
    at_rest ws seen = record {
      made = [];
      in_flight = None;
      first = (refl, refl);
      shown = λ call none. absurd (none_cut call none);
      is_life = tt;
      images = λ c left. record { allowed = λ a e. none_pending (IsActAllowed p word_of s a) a e; stands = λ i same. inl (stands_here i (subst (disk (runs v).store).may_leave same left)) };
      small = (here.small, λ b e. none_pending (IsBatchSmall b) (Append b) e);
    }

    pub rest_turn : (ws : List ℕ) (seen : List Event) (k : WordsKept) → k.drawn ≡ s.drawn → DrawInTurn p word_of s k (at_rest ws seen).made (at_rest ws seen).in_flight
    unfolding at_rest
    rest_turn ws seen k so_far = all_made p word_of s k [] tt

    -- ---- behind one that was refused

    module _ (call : VaultCall) (answer : VaultAnswer) (w : V) (one : Called k v call answer w) (tape : AreTapeWords word_of h.generation (runs w).drawn) where
      does : RingCalled disk (runs v) (runs w) one.notes call answer
      does = words.called v call answer one.notes w one.called

      pub kept : KeepsRun disk (runs v) (runs w) one.notes
      kept = kept_by disk (runs v) (runs w) one.notes call answer does

      abbrev pub runs_here : RunsInLife word_of s run (disk (runs v).store)
      runs_here = record {
        standing = st;
        at = lies.at;
        epoch = epoch;
        generation = generation;
        life = subst (λ (x : Params). IsLifeAt x word_of st.content st.records s) (sym at.params) life;
        small = here.small;
        drawn = here.drawn ∙ ap (λ (l : List ℕ). length l) (sym at.tape) ∙ sym kept.was_drawn;
        begun = here.begun;
      }

      pub made : IsCallInLife disk word_of (runs v) (runs w) one.notes s call (is_answered answer)
      made = call_lives disk word_of s (runs v) (runs w) one.notes (λ t c. counts_now (runs w).store t c) (λ c. only_now (runs v).store c) call answer runs_here
          (subst (λ g. AreTapeWords word_of g (runs w).drawn) (sym at.generation) tape) does

      pub acts_are : (a : VaultCall) → AreActsOf a (acts_of (life_call disk word_of (runs v) (runs w) one.notes a))
      acts_are (Fetch asks) = (life_batch (record_of_fetch disk (runs v) (runs w) one.notes asks), refl, refl)
      acts_are (End ws) = (map id_write (writes_of_end disk (runs v) (runs w) one.notes (map write_from ws)), ((runs w).run).drawn, slot_kept (content_of_ring ((runs w).run).ring), refl)

      pub first_of : (done : List LifeAct) (in_flight : Option LifeAct)
          → ((done ≡ []) × (in_flight ≡ None)) ⊎ ((rest : List LifeAct) × (acts_of (life_call disk word_of (runs v) (runs w) one.notes call) ≡ done ++ rest) × ((in_flight ≡ None) ⊎ ((a : LifeAct) × (more : List LifeAct) × (in_flight ≡ Some a) × (rest ≡ a ∷ more))))
          → AreFirstActs (Some call) done in_flight
      first_of done in_flight (inl (none, idle)) =
          (acts_of (life_call disk word_of (runs v) (runs w) one.notes call), subst (λ (l : List LifeAct). AreActsOf call (l ++ acts_of (life_call disk word_of (runs v) (runs w) one.notes call))) (sym none) (acts_are call), inl idle)
      first_of done in_flight (inr (rest, are, flight)) = (rest, subst (λ (l : List LifeAct). AreActsOf call l) are (acts_are call), flight)

      -- the record that was drawn is the one that is logged
      pub drawn_record : (asks : List (Option ℕ)) (r : BatchRecord) → IsNextRecord h asks r → life_batch r ≡ life_batch (record_of_fetch disk (runs v) (runs w) one.notes asks)
      drawn_record asks r is i = record {
        asks = is.asked i;
        first = record {
          generation = (is.generation ∙ sym at.generation) i;
          place = (is.first ∙ sym (ap (λ (l : List ℕ). length l) at.tape) ∙ sym kept.was_drawn) i;
        };
      }

      -- the first notes of the batch's record, by its names
      log_many : length s.log ≡ length h.records
      log_many = ap (λ (log : List LifeBatch). length log) (here.life).log ∙ length-map h.records life_batch

      next_is : next_batch run ≡ length s.log
      next_is = let left = at.left in let many = log_many in let same : run.params.batches ≡ p.batches = ap (λ (x : Params). x.batches) at.params in omega (arith, left, many, same)

      epoch_then : suc run.epoch ≡ s.epoch + 1
      epoch_then = let hidden = at.epoch_hidden in let there = here.epoch in omega (arith, hidden, there)

      record_is : append_notes run.params (suc run.epoch) (next_batch run) ≡ record_notes p ((s.epoch + 1) % 2) (length s.log)
      record_is =
          record_written run.params (suc run.epoch) (next_batch run)
          ∙ ap (λ (x : Params). record_notes x (suc run.epoch % 2) (next_batch run)) at.params
          ∙ ap (λ (m : ℕ). record_notes p (suc run.epoch % 2) m) next_is
          ∙ ap (λ (m : ℕ). record_notes p (m % 2) (length s.log)) epoch_then

      pub public_is : record_notes p ((s.epoch + 1) % 2) (length s.log) ≡ record_notes p (((q.known).epoch + 1) % 2) q.shown
      public_is =
          ap (λ (m : ℕ). record_notes p ((m + 1) % 2) (length s.log)) (here.epoch ∙ sym at.epoch_hidden ∙ ap (λ (x : Public). x.epoch) at.known)
          ∙ ap (λ (m : ℕ). record_notes p (((q.known).epoch + 1) % 2) m) (log_many ∙ at.shown)

      module _ (c : Fills) (refused : Fault) (seen : List Event) where
        fetch_shown : (asks : List (Option ℕ)) (done : List LifeAct) → IsShownBy disk word_of (runs v) (runs w) one.notes (Fetch asks) done → RingCalled disk (runs v) (runs w) one.notes (Fetch asks) answer
            → RingCut most p q h (Fetch asks) c (runs w).drawn refused seen → RingCutShown most p q (Fetch asks) c refused seen one.notes → IsShownInLife most p word_of s h (Fetch asks) (runs w).drawn seen done
        fetch_shown asks done (inl is) called cut shown = inl (
          inl (life_batch (record_of_fetch disk (runs v) (runs w) one.notes asks), refl, is),
          λ f draws.
              subst (λ (acts : List LifeAct). AreFilledBy p word_of s acts (Fetch asks) f) (ap (λ (b : LifeBatch). Append b ∷ ShowBatch ∷ []) (drawn_record asks ((draws.1).next) ((draws.1).is_next)) ∙ sym is)
              (filled_batch p word_of s h here asks f draws.0 draws.1 (runs w).drawn draws.2 (some_left h run.left at.left (fetch_left asks answer v w one.notes called)) tape),
        )
        fetch_shown asks done (inr (none, notes, first)) called cut shown = inr (
          none,
          subst (λ (row : List Note). AreFirst most (phases_of row) seen) (sym public_is)
              (barely most p q h asks c (runs w).drawn seen one.notes refused notes (subst (λ (row : List Note). IsCut row notes one.notes) (record_is ∙ public_is) first) cut shown),
        )

        end_shown : (ws : List (ℕ × Option (List ℕ))) (done : List LifeAct) → IsShownBy disk word_of (runs v) (runs w) one.notes (End ws) done → IsShownInLife most p word_of s h (End ws) (runs w).drawn seen done
        end_shown ws done (inl is) = inl (
          inl (map id_write (writes_of_end disk (runs v) (runs w) one.notes (map write_from ws)), ((runs w).run).drawn, slot_kept (content_of_ring ((runs w).run).ring), is),
          λ f draws. subst (λ (acts : List LifeAct). AreFilledBy p word_of s acts (End ws) f) (sym is) (let lifts = filled_end p word_of s h here ws f draws in record { labels = refl; slots = lifts.slots }),
        )
        end_shown ws done (inr is) = inl (
          inr is,
          λ f draws. subst (λ (acts : List LifeAct). AreFilledBy p word_of s acts (End ws) f) (sym is) (filled_end p word_of s h here ws f draws),
        )

        shown_by : (a : VaultCall) (done : List LifeAct) → IsShownBy disk word_of (runs v) (runs w) one.notes a done → RingCalled disk (runs v) (runs w) one.notes a answer
            → RingCut most p q h a c (runs w).drawn refused seen → RingCutShown most p q a c refused seen one.notes → IsShownInLife most p word_of s h a (runs w).drawn seen done
        shown_by (Fetch asks) done by called cut shown = fetch_shown asks done by called cut shown
        shown_by (End ws) done by called cut shown = end_shown ws done by

        module _ (cut : RingCut most p q h call c (runs w).drawn refused seen) (shown : RingCutShown most p q call c refused seen one.notes) where
          pub at_refusal : IsLeftInLife keys most p word_of s h (Some call) (runs w).drawn seen (disk (runs w).store)
          at_refusal = record {
            made = made.made;
            in_flight = made.in_flight;
            first = first_of made.made made.in_flight (made.law).part;
            shown = λ other same. subst (λ (a : VaultCall). IsShownInLife most p word_of s h a (runs w).drawn seen made.made) (same_Some call other same) (shown_by call made.made made.shows does cut shown);
            is_life = subst (λ (x : Params). IsLife x word_of s made.made) at.params (made.law).is_life;
            images = λ i left. subst (λ (x : Keys). IsLeftAt x p word_of (reached p word_of s made.made) made.in_flight i) at.keys_are
                (subst (λ (x : Params). IsLeftAt (run.sealer).keys x word_of (reached x word_of s made.made) made.in_flight i) at.params (made.left i left));
            small = (subst (λ (x : Params). AreBatchesSmall (reached x word_of s made.made).log) at.params (made.small).0, (made.small).1);
          }

          pub refusal_turn : (k : WordsKept) → k.drawn ≡ s.drawn → DrawInTurn p word_of s k at_refusal.made at_refusal.in_flight
          unfolding at_refusal
          refusal_turn k so_far = subst (λ (x : Params). DrawInTurn x word_of s k made.made made.in_flight) at.params (made.turn k so_far)

  -- ---- from what was found on

  module _ (calls : List VaultCall) (steps : List (Shape × Fills)) (q : RingPublic) (h : RingHidden) (n : ℕ) (v : V) (drawn : AreDrawn ring_kind p (ring_hidden f) calls steps h) (at : RingAt k disk runs keys most p f opened q h n v) where
    pub on : GoesOn (ring_hidden f) h
    on = all_on p (ring_hidden f) h calls steps drawn

    pub own_words : (word_of : WordId → ℕ) (later : List ℕ) → later ≡ h.words ++ words_since (runs v).drawn later → AreTapeWords word_of (ring_hidden f).generation later → AreTapeWords word_of h.generation h.words
    own_words word_of later grown tape = tape_before word_of h (record h { words = later }) (record { more = words_since (runs v).drawn later; words = grown; generation = refl })
        (subst (λ g. AreTapeWords word_of g later) (sym on.generation) tape)

    -- the call's holes, as the life shows them
    pub cut_by : (word_of : WordId → ℕ) (t : LifeState) → IsInLife p word_of h t → (call : VaultCall) (answer : VaultAnswer) (w : V) → Called k v call answer w → (c : Fills) → RingDrawsCut p h call c (runs w).drawn → AreTapeWords word_of h.generation (runs w).drawn
        → IsCutInLife p word_of t call c
    cut_by word_of t here (Fetch asks) answer w one c (behind, d, of_tape) tape =
        cut_batch p word_of t h here asks c behind d (runs w).drawn of_tape (some_left h ((runs v).run).left at.left (fetch_left asks answer v w one.notes (words.called v (Fetch asks) answer one.notes w one.called))) tape
    cut_by word_of t here (End ws) answer w one c is tape =
        cut_end p word_of t h here ws c is (none_left h ((runs v).run).left at.left (end_left ws answer v w one.notes (words.called v (End ws) answer one.notes w one.called)))

    pub goes_on_none : (seen : List Event) → RingGoesOn keys most p f opened calls steps h None (runs v).drawn seen (disk (runs v).store)
    goes_on_none seen word_of s here tape =
        let l : AreOfLife p word_of s calls steps h =
        drawn_shown p word_of s (ring_hidden f) h calls steps here drawn (subst (λ (ws : List ℕ). AreTapeWords word_of h.generation ws) at.tape (subst (λ g. AreTapeWords word_of g (runs v).drawn) (sym on.generation) tape)) in
        record {
          acts = l.acts;
          is_life = l.is_life;
          shown = l.shown;
          then = l.then;
          fresh = l.fresh;
          cut = λ call c none draws. absurd (none_cut call none);
          left = λ m is. at_rest q h n v at word_of (reached p word_of s l.acts) l.then (at.stands m is) (runs v).drawn seen;
          turn = l.turn;
          turn_left = λ m is k so_far. rest_turn q h n v at word_of (reached p word_of s l.acts) l.then (at.stands m is) (runs v).drawn seen k so_far;
        }

    pub goes_on_refused : (call : VaultCall) (answer : VaultAnswer) (w : V) (one : Called k v call answer w) (c : Fills) (refused : Fault) (seen : List Event) → RingCut most p q h call c (runs w).drawn refused seen → RingCutShown most p q call c refused seen one.notes
        → RingGoesOn keys most p f opened calls steps h (Some call) (runs w).drawn seen (disk (runs w).store)
    goes_on_refused call answer w one fills refused seen is_cut is_shown word_of s here tape =
        let kept : KeepsRun disk (runs v) (runs w) one.notes = kept_by disk (runs v) (runs w) one.notes call answer (words.called v call answer one.notes w one.called) in
        let grown : (runs w).drawn ≡ h.words ++ words_since (runs v).drawn (runs w).drawn = kept.grows ∙ ap (λ (ws : List ℕ). ws ++ words_since (runs v).drawn (runs w).drawn) at.tape in
        let l : AreOfLife p word_of s calls steps h = drawn_shown p word_of s (ring_hidden f) h calls steps here drawn (own_words word_of (runs w).drawn grown tape) in
        record {
          acts = l.acts;
          is_life = l.is_life;
          shown = l.shown;
          then = l.then;
          fresh = l.fresh;
          cut = λ other c same draws. subst (λ (x : VaultCall). IsCutInLife p word_of (reached p word_of s l.acts) x c) (same_Some call other same)
              (cut_by word_of (reached p word_of s l.acts) l.then call answer w one c (subst (λ (x : VaultCall). RingDrawsCut p h x c (runs w).drawn) (sym (same_Some call other same)) draws)
              (subst (λ g. AreTapeWords word_of g (runs w).drawn) (sym on.generation) tape));
          left = λ m is. at_refusal q h n v at word_of (reached p word_of s l.acts) l.then (at.stands m is) call answer w one (subst (λ g. AreTapeWords word_of g (runs w).drawn) (sym on.generation) tape) fills refused seen is_cut is_shown;
          turn = l.turn;
          turn_left = λ m is k so_far. refusal_turn q h n v at word_of (reached p word_of s l.acts) l.then (at.stands m is) call answer w one (subst (λ g. AreTapeWords word_of g (runs w).drawn) (sym on.generation) tape) fills refused seen is_cut is_shown k so_far;
        }

    -- and its notes tell how far it came
    pub refused_as_told : (call : VaultCall) (answer : VaultAnswer) (w : V) (one : Called k v call answer w) (c : Fills) (refused : Fault) (seen : List Event) (is_cut : RingCut most p q h call c (runs w).drawn refused seen) (is_shown : RingCutShown most p q call c refused seen one.notes)
        → is_answered answer ≡ false → (word_of : WordId → ℕ) (s : LifeState) (here : IsInLife p word_of (ring_hidden f) s) (tape : AreTapeWords word_of (ring_hidden f).generation (runs w).drawn) (m : Map nat_cmp) (is : IsRingMap keys p opened f m)
        → IsMadeAsTold disk word_of (runs v) (runs w) one.notes call ((goes_on_refused call answer w one c refused seen is_cut is_shown word_of s here tape).left m is).made ((goes_on_refused call answer w one c refused seen is_cut is_shown word_of s here tape).left m is).in_flight
    unfolding goes_on_refused at_refusal
    refused_as_told call answer w one fills refused seen is_cut is_shown unserved word_of s here tape m is =
        let kept : KeepsRun disk (runs v) (runs w) one.notes = kept_by disk (runs v) (runs w) one.notes call answer (words.called v call answer one.notes w one.called) in
        let grown : (runs w).drawn ≡ h.words ++ words_since (runs v).drawn (runs w).drawn = kept.grows ∙ ap (λ (ws : List ℕ). ws ++ words_since (runs v).drawn (runs w).drawn) at.tape in
        let l : AreOfLife p word_of s calls steps h = drawn_shown p word_of s (ring_hidden f) h calls steps here drawn (own_words word_of (runs w).drawn grown tape) in
        (made q h n v at word_of (reached p word_of s l.acts) l.then (at.stands m is) call answer w one (subst (λ g. AreTapeWords word_of g (runs w).drawn) (sym on.generation) tape)).told unserved
