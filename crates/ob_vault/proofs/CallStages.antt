-- A call comes in stages, in each life that is there.
use Rattle.std.specs.Prelude.{◌≡◌, ℕ, suc, ◌+◌, ◌<◌, ◌≤◌, ◌^◌, List, [], ◌∷◌, map, length, Option, Some, None, Ok, Err}
use Rattle.std.specs.Ordering.{nat_cmp}
use Rattle.std.proofs.Common.{false, refl, sym, true, ap, subst, Bool, inl, inr, ⊎_elim}
use Rattle.std.proofs.lemmas.Bool.{cases_lt, false≢true}
use Rattle.ob_base.specs.declared.fault.Fault.{Fault}
use Rattle.ob_base.specs.declared.fault.Fault.TheVariants as fault
use Rattle.ob_base.specs.declared.params.Params.{Params}
use Rattle.ob_base.specs.declared.value.Write.{Write}
use Rattle.ob_end.specs.EndRuns.{AreEntriesWritten, IsAtContent, MayEndEpoch, TakeBucketWords, standing_at_end, table_ended, words_for_end}
use Rattle.ob_end.specs.Moments.{IsEndInStages, IsEndMadeButSet}
use Rattle.ob_fetch.specs.Fetches.{DrawsWords, FetchStages, IsFetchInStages, words_since}
use Rattle.ob_fetch.specs.declared.run.Run.{Run}
use Rattle.ob_log.specs.Appends.{append_notes}
use Rattle.ob_log.specs.Logs.{BatchRecord}
use Rattle.ob_opening.specs.OpeningActs.{IsLeftAt, StandsInLife}
use Rattle.ob_recover.specs.Calls.{Ended as EndOf, Fetched, LifeCall}
use Rattle.ob_recover.specs.Life.{Append, End as EndAct, IsActAllowed, LifeAct, LifeBatch, LifeState, ShowBatch, ShowLifts, WordId}
use Rattle.ob_recover.specs.Known.{slot_kept}
use Rattle.ob_recover.specs.Lives.{life_batch}
use Rattle.ob_fetch.proofs.NextLaws.{stands_listed}
use Rattle.ob_ring.specs.FlatTable.{FlatTable}
use Rattle.ob_ring.specs.Ring.{StandsFor}
use Rattle.ob_stand.specs.Table.{flat_of}
use Rattle.ob_recover.specs.Repeats.{content_of_ring, table_after_records}
use Rattle.ob_schedule.specs.Schedule.{Fills}
use Rattle.ob_seal.specs.declared.keys.Keys.{Keys}
use Rattle.ob_serial.specs.Serial.{Map}
use Rattle.ob_serial.specs.VaultKinds.{Called, Kind}
use Rattle.ob_serial.specs.Vaults.{DoubtBy, End, Ended, Fetch, RefusedBy, Values, VaultAnswer, VaultCall}
use Rattle.ob_serial.specs.declared.vault.EndErr.TheVariants as end
use Rattle.ob_stand.specs.Stands.{OneOf, RingStanding, Stands, with_record}
use Rattle.ob_store.proofs.Moments.{started}
use Rattle.ob_store.specs.Calls.{Notes}
use Rattle.ob_store.specs.Disk.{Clock, Disk, Image, NotAfter}
use Rattle.ob_store.specs.Images.{LeavesOnly}
use Rattle.ob_store.specs.Told.{events_of}
use Rattle.ob_store.specs.declared.watch.Note.{Note}
use Rattle.ob_tables.specs.declared.entry.Entry.{Entry}
use Rattle.ob_twin.specs.Opening.{is_closed_first}
use Rattle.ob_twin.specs.Register.{place_of}
use Rattle.ob_twin.specs.Stages.{AreSpans}
use Rattle.ob_vault.proofs.Calling as calling
use Rattle.ob_vault.proofs.Cutting.{filled_batch, filled_end}
use Rattle.ob_vault.proofs.Ending as ending
use Rattle.ob_vault.proofs.Fetching as fetching
use Rattle.ob_vault.proofs.Fetching.{none_pending, some_ends}
use Rattle.ob_vault.proofs.Leaving as leaving
use Rattle.ob_vault.proofs.Spanning as spanning
use Rattle.ob_vault.specs.Acts.{AreTapeWords, RunsInLife, id_write, is_answered}
use Rattle.ob_vault.specs.Hidden.{RingDrawsCut, RingHidden}
use Rattle.ob_vault.specs.KindShown.{AreDrawn}
use Rattle.ob_vault.specs.RingKind.{IsRingMap, RingFound, ring_hidden, ring_kind}
use Rattle.ob_vault.specs.RingSteps.{HasRingWords, RingAt, RunIsAtHidden}
use Rattle.ob_vault.specs.RingVaults.{EndCalled, FetchCalled, RingCalled, Running, record_of_fetch, write_from, writes_of_end}
use Rattle.ob_vault.specs.Seen.{RingPublic}
use Rattle.ob_vault.specs.Shapes.{Shape}
use Rattle.ob_vault.specs.Shown.{AreFilledBy, IsInLife}
use Rattle.ob_vault.specs.Spans.{IsCutIn}
use Rattle.ob_vault.specs.Staged.{CallsComeInStages, IsCallStaged, IsCalledFirst}
use Rattle.ob_vault.specs.Stages.{IsStage, StageActs}

module _ {V S : Type 0} (k : Kind V) (disk : S → Disk) (runs : V → Running S) (words : HasRingWords k disk runs)
    (counts_now : (x : S) (t : Clock) (c : Image) → NotAfter t (disk x).moment → (disk x).may_leave c → (disk x).left_since t c) (only_now : (x : S) (c : Image) → (disk x).left_since (disk x).moment c → (disk x).may_leave c)
    (keys : Keys) (most : ℕ) (p : Params) (f : RingFound) (opened : Disk) (calls : List VaultCall) (steps : List (Shape × Fills)) (q : RingPublic) (h : RingHidden) (n : ℕ) (v : V)
    (drawn : AreDrawn ring_kind p (ring_hidden f) calls steps h) (at : RingAt k disk runs keys most p f opened q h n v) (m : Map nat_cmp) (is_map : IsRingMap keys p opened f m) where
  abbrev run : Run
  run = (runs v).run

  abbrev own_keys : Keys
  own_keys = (run.sealer).keys

  abbrev lies : RunIsAtHidden run h.content h.records (disk (runs v).store)
  lies = at.stands m is_map

  abbrev st : RingStanding
  st = lies.standing

  abbrev table : RingStanding → FlatTable
  table s = table_after_records run.params (flat_of run.params s.content) s.records

  stands0 : StandsFor run.ring (table st)
  stands0 = stands_listed run.ring (table st) (((lies.at).runs).planner).table

  module _ (call : VaultCall) (answer : VaultAnswer) (w : V) (one : Called k v call answer w) where
    abbrev Staged : Bool → Type 0
    Staged answered = IsCallStaged disk keys most p f opened calls steps q h call (runs w).drawn answered (runs v).store (runs w).store

    -- where a run may be cut off in it
    spans : (ends : List S) × AreSpans (IsCutIn disk keys most p f opened calls steps q h call (runs w).drawn (runs v).store) 0 (runs v).store ends (runs w).store
    spans = spanning.stops_in k disk runs words counts_now only_now keys most p f opened calls steps q h n v drawn at m is_map call answer w one (words.called v call answer one.notes w one.called)

    -- a stage by the names of what was found
    as_named : (word_of : WordId → ℕ) (t : LifeState) (row : StageActs) (a x : S) → IsStage disk own_keys run.params word_of t row a x → IsStage disk keys p word_of t row a x
    as_named word_of t row a x is = subst (λ (y : Keys). IsStage disk y p word_of t row a x) at.keys_are (subst (λ (y : Params). IsStage disk own_keys y word_of t row a x) at.params is)

    abbrev runs_in : (word_of : WordId → ℕ) (t : LifeState) → IsInLife p word_of h t → AreTapeWords word_of h.generation (runs w).drawn → RunsInLife word_of t run (disk (runs v).store)
    runs_in word_of t here tape = leaving.runs_here k disk runs words counts_now only_now keys most p f opened q h n v at word_of t here lies call answer w one tape

  -- where a life is, the store is at rest
  resting : (word_of : WordId → ℕ) (t : LifeState) → IsInLife p word_of h t → LeavesOnly (disk (runs v).store) (disk (runs v).store) (IsLeftAt keys p word_of t None)
  resting word_of t here = started (disk (runs v).store) (IsLeftAt keys p word_of t None)
      (λ c since. at_rest c (leaving.stands_here k disk runs words counts_now only_now keys most p f opened q h n v at word_of t here lies c (only_now (runs v).store c since)))
      (λ tells. at_rest (disk (runs v).store).cells (leaving.standing_here k disk runs words counts_now only_now keys most p f opened q h n v at word_of t here lies (disk (runs v).store).cells
      (subst (λ (y : Keys). Stands y p st (disk (runs v).store).cells) at.keys_are (subst (λ (y : Params). Stands own_keys y st (disk (runs v).store).cells) at.params (lies.at).stands))))
    where
      at_rest : (c : Image) → StandsInLife keys p word_of t c → IsLeftAt keys p word_of t None c
      at_rest c stands = record { allowed = λ a e. none_pending (IsActAllowed p word_of t a) a e; stands = λ i same. inl (subst (StandsInLife keys p word_of t) same stands) }

  -- ---- a batch

  -- its acts fill its holes
  fetch_filled : (asks : List (Option ℕ)) (answer : VaultAnswer) (w : V) (one : Called k v (Fetch asks) answer w) → 0 < run.left → (word_of : WordId → ℕ) (t : LifeState) → IsInLife p word_of h t → AreTapeWords word_of h.generation (runs w).drawn
      → (f' : Fills) → RingDrawsCut p h (Fetch asks) f' (runs w).drawn → AreFilledBy p word_of t (Append (life_batch (record_of_fetch disk (runs v) (runs w) one.notes asks)) ∷ ShowBatch ∷ []) (Fetch asks) f'
  fetch_filled asks answer w one some word_of t here tape f' d =
      subst (λ (acts : List LifeAct). AreFilledBy p word_of t acts (Fetch asks) f')
      (ap (λ (y : LifeBatch). Append y ∷ ShowBatch ∷ []) (leaving.drawn_record k disk runs words counts_now only_now keys most p f opened q h n v at word_of t here lies (Fetch asks) answer w one tape asks ((d.1).next) ((d.1).is_next)))
      (filled_batch p word_of t h here asks f' d.0 d.1 (runs w).drawn d.2 (leaving.some_left k disk runs words counts_now only_now keys most p f opened h run.left at.left some) tape)

  module _ (asks : List (Option ℕ)) (answer : VaultAnswer) (w : V) (one : Called k v (Fetch asks) answer w) (was_drawn : run.drawn ≡ length (runs v).drawn) (whole : length asks ≡ (run.params).places) (draws : DrawsWords (run.params).places (runs v).drawn (runs w).drawn)
      (few : run.drawn + (run.params).places ≤ 2 ^ 62) (some : 0 < run.left) where
    abbrev r : BatchRecord
    r = record_of_fetch disk (runs v) (runs w) one.notes asks

    abbrev b : LifeBatch
    b = life_batch r

    -- by the end of its first stage the store was called for its record
    log_called : (x : S) → Notes (events_of (append_notes run.params (suc run.epoch) r.batch)) (disk (runs v).store).seen (disk x).seen → IsCalledFirst most p q h (Fetch asks) (disk (runs v).store).seen (disk x).seen
    log_called x made = subst (λ (row : List Note). Notes (events_of row) (disk (runs v).store).seen (disk x).seen) (calling.record_is k disk runs words keys most p f opened q h [] n v w at) made

    own_tape : (word_of : WordId → ℕ) → AreTapeWords word_of h.generation (runs w).drawn → AreTapeWords word_of (run.sealer).generation (runs w).drawn
    own_tape word_of tape = subst (λ g. AreTapeWords word_of g (runs w).drawn) (sym at.generation) tape

    log_stage : (word_of : WordId → ℕ) (t : LifeState) → IsInLife p word_of h t → AreTapeWords word_of h.generation (runs w).drawn → (x : S) → LeavesOnly (disk (runs v).store) (disk x) (OneOf own_keys run.params st (with_record st r))
        → IsStage disk own_keys run.params word_of t ([], Some (Append b)) (runs v).store x
    log_stage word_of t here tape x all = fetching.logging disk word_of t (runs v) (runs w) one.notes asks (runs_in (Fetch asks) answer w one word_of t here tape) (own_tape word_of tape) was_drawn whole draws few some (runs v).store x all

    read_stage : (word_of : WordId → ℕ) (t : LifeState) → IsInLife p word_of h t → AreTapeWords word_of h.generation (runs w).drawn → (a x : S) → LeavesOnly (disk a) (disk x) (Stands own_keys run.params (with_record st r))
        → IsStage disk own_keys run.params word_of t (Append b ∷ ShowBatch ∷ [], None) a x
    read_stage word_of t here tape a x all = fetching.reading disk word_of t (runs v) (runs w) one.notes asks (runs_in (Fetch asks) answer w one word_of t here tape) (own_tape word_of tape) was_drawn whole draws few some a x all

    both : (answered : Bool) → IsFetchInStages disk run st r (runs v).store (runs w).store → Staged (Fetch asks) answer w one answered
    both answered x = record {
      acts = Fetched b;
      are = (b, refl, refl);
      ends = x.between ∷ (runs w).store ∷ [];
      stages = λ word_of t here tape. (
        as_named (Fetch asks) answer w one word_of t ([], Some (Append b)) (runs v).store x.between (log_stage word_of t here tape x.between x.until),
        inr (log_called x.between x.made),
        (as_named (Fetch asks) answer w one word_of t (Append b ∷ ShowBatch ∷ [], None) x.between (runs w).store (read_stage word_of t here tape x.between (runs w).store x.since), inl refl, refl),
      );
      filled = fetch_filled asks answer w one some;
      whole = λ yes. refl;
      idle = λ none. absurd (some_ends x.between ((runs w).store ∷ []) none);
      cut_at = (spans (Fetch asks) answer w one).0;
      cut = (spans (Fetch asks) answer w one).1;
    }

    by_store : (unsure : Option ℕ) → FetchStages disk run st r (runs v).store (runs w).store (Err (fault.StoreFault unsure)) → Staged (Fetch asks) answer w one false
    by_store unsure (inl x) = both false x
    by_store unsure (inr x) = record {
      acts = Fetched b;
      are = (b, refl, refl);
      ends = (runs w).store ∷ [];
      stages = λ word_of t here tape. (as_named (Fetch asks) answer w one word_of t ([], Some (Append b)) (runs v).store (runs w).store (log_stage word_of t here tape (runs w).store x.leaves), inl refl, refl);
      filled = fetch_filled asks answer w one some;
      whole = λ yes. absurd (false≢true yes);
      idle = λ none. absurd (some_ends (runs w).store [] none);
      cut_at = (spans (Fetch asks) answer w one).0;
      cut = (spans (Fetch asks) answer w one).1;
    }

  module _ (asks : List (Option ℕ)) (answer : VaultAnswer) (w : V) (one : Called k v (Fetch asks) answer w) where
    few_words : (2 ^ 62 < run.drawn + (run.params).places → ⊥) → run.drawn + (run.params).places ≤ 2 ^ 62
    few_words none = ⊎_elim (λ (more : 2 ^ 62 < run.drawn + (run.params).places). absurd (none more)) (λ few. few) (cases_lt (2 ^ 62) (run.drawn + (run.params).places))

    -- nothing was done
    idling : 0 < run.left → (runs w).store ≡ (runs v).store → Staged (Fetch asks) answer w one false
    idling some same = record {
      acts = Fetched (life_batch (record_of_fetch disk (runs v) (runs w) one.notes asks));
      are = (life_batch (record_of_fetch disk (runs v) (runs w) one.notes asks), refl, refl);
      ends = [];
      stages = λ word_of t here tape. same;
      filled = fetch_filled asks answer w one some;
      whole = λ yes. absurd (false≢true yes);
      idle = λ none word_of t here. subst (λ (x : S). LeavesOnly (disk (runs v).store) (disk x) (IsLeftAt keys p word_of t None)) (sym same) (resting word_of t here);
      cut_at = (spans (Fetch asks) answer w one).0;
      cut = (spans (Fetch asks) answer w one).1;
    }

    fetch_ok : FetchCalled disk (runs v) (runs w) one.notes asks (Ok tt) → Staged (Fetch asks) answer w one true
    fetch_ok is = both asks answer w one (is.run).was_drawn is.whole is.draws (few_words (λ more. (is.worn).1 (inl more))) is.some_left true (is.stages st lies.at)

    fetch_err : (f' : Fault) → FetchCalled disk (runs v) (runs w) one.notes asks (Err f') → Staged (Fetch asks) answer w one false
    fetch_err fault.Memory is = absurd is.refusal
    fetch_err fault.Usage is = absurd is.refusal
    fetch_err (fault.BadScript line) is = absurd is.refusal
    fetch_err (fault.BadParams what) is = absurd is.refusal
    fetch_err fault.NotStore is = absurd is.refusal
    fetch_err (fault.Damaged cell what kept computed) is = absurd (is.undamaged st lies.at)
    fetch_err (fault.StoreFault unsure) is =
        by_store asks answer w one (is.run).was_drawn is.whole is.draws (few_words (λ more. (is.worn).1 (inl more))) is.some_left unsure (is.stages st lies.at)
    fetch_err (fault.StashFull rows) is = absurd is.refusal
    fetch_err (fault.Worn number) is = idling is.some_left (is.idle tt)
    fetch_err fault.SourceFault is = absurd is.refusal
    fetch_err fault.SinkFault is = absurd is.refusal

  -- ---- an end

  module _ (ws : List (ℕ × Option (List ℕ))) (answer : VaultAnswer) (w : V) (one : Called k v (End ws) answer w) (none : run.left ≡ 0) where
    abbrev writes : List Write
    writes = map write_from ws

    abbrev fs : List (Write × Entry)
    fs = writes_of_end disk (runs v) (runs w) one.notes writes

    abbrev the_end : LifeAct
    the_end = EndAct (map id_write fs) ((runs w).run).drawn (slot_kept (content_of_ring ((runs w).run).ring))

    end_tape : (word_of : WordId → ℕ) → AreTapeWords word_of h.generation (runs w).drawn → AreTapeWords word_of (run.sealer).generation (runs w).drawn
    end_tape word_of tape = subst (λ g. AreTapeWords word_of g (runs w).drawn) (sym at.generation) tape

    -- by the end of its first stage all else was made
    set_called : (x : S) → IsEndMadeButSet (runs v).lanes run (disk (runs v).store).seen (disk x).seen → IsCalledFirst most p q h (End ws) (disk (runs v).store).seen (disk x).seen
    set_called x made = (
      is_closed_first (run.gates).epoch (place_of (suc run.epoch)),
      spanning.named_made k disk runs words counts_now only_now keys most p f opened calls steps q h n v drawn at m is_map ws answer w one none 0 (disk (runs v).store).seen (disk x).seen (made h.content h.records at.planned),
    )

    -- its acts fill its holes
    end_filled : (word_of : WordId → ℕ) (t : LifeState) → IsInLife p word_of h t → AreTapeWords word_of h.generation (runs w).drawn → (f' : Fills) → RingDrawsCut p h (End ws) f' (runs w).drawn → AreFilledBy p word_of t (ShowLifts ∷ the_end ∷ []) (End ws) f'
    end_filled word_of t here tape f' d = let lifts = filled_end p word_of t h here ws f' d in record { labels = refl; slots = lifts.slots }

    abbrev own_acts : LifeCall
    own_acts = EndOf (map id_write fs) ((runs w).run).drawn (slot_kept (content_of_ring ((runs w).run).ring))

    fill_stage : (word_of : WordId → ℕ) (t : LifeState) → IsInLife p word_of h t → AreTapeWords word_of h.generation (runs w).drawn → (x : S) → LeavesOnly (disk (runs v).store) (disk x) (Stands own_keys run.params st)
        → IsStage disk own_keys run.params word_of t (ShowLifts ∷ [], None) (runs v).store x
    fill_stage word_of t here tape x all = ending.filling disk word_of t (runs v) (runs w) one.notes ws (runs_in (End ws) answer w one word_of t here tape) (end_tape word_of tape) (λ u c. counts_now (runs w).store u c) none (runs v).store x all

    -- all was written, but maybe for the register
    ended : (answered : Bool) (was_drawn : run.drawn ≡ length (runs v).drawn) (drawn' : ((runs w).run).drawn ≡ length (runs w).drawn) (few : length writes ≤ (run.params).writes)
        (may : MayEndEpoch run.params (table st) run.epoch run.drawn (run.sealer).next fs) (draws : DrawsWords (words_for_end run.params (table st)) (runs v).drawn (runs w).drawn) (then : StandsFor ((runs w).run).ring (table_ended run.params (table st) fs))
        (entries : AreEntriesWritten fs run.ring ((runs w).run).ring) (filled : TakeBucketWords run.params (table st) (words_since (runs v).drawn (runs w).drawn) (run.sealer).generation (run.sealer).next run.ring ((runs w).run).ring)
        (content : IsAtContent run.params ((runs w).run).ring) → IsEndInStages disk (runs v).lanes st fs run (runs w).run (runs v).store (runs w).store → Staged (End ws) answer w one answered
    ended answered was_drawn drawn' few may draws then entries filled content x =
        let set_stage : (word_of : WordId → ℕ) (t : LifeState) → IsInLife p word_of h t → AreTapeWords word_of h.generation (runs w).drawn → (a y : S) → LeavesOnly (disk a) (disk y) (OneOf own_keys run.params st (standing_at_end st (runs w).run fs))
        → IsStage disk own_keys run.params word_of t (ShowLifts ∷ [], Some the_end) a y =
        (λ word_of t here tape. ending.setting disk word_of t (runs v) (runs w) one.notes ws (runs_in (End ws) answer w one word_of t here tape) (end_tape word_of tape) (λ u c. counts_now (runs w).store u c) none was_drawn drawn' few may draws then entries filled content) in
        record {
          acts = own_acts;
          are = (map id_write fs, ((runs w).run).drawn, slot_kept (content_of_ring ((runs w).run).ring), refl);
          ends = x.between ∷ (runs w).store ∷ [];
          stages = λ word_of t here tape. (
            as_named (End ws) answer w one word_of t (ShowLifts ∷ [], None) (runs v).store x.between (fill_stage word_of t here tape x.between x.until),
            inr (set_called x.between x.made),
            (as_named (End ws) answer w one word_of t (ShowLifts ∷ [], Some the_end) x.between (runs w).store (set_stage word_of t here tape x.between (runs w).store x.since), inl refl, refl),
          );
          filled = end_filled;
          whole = λ yes. refl;
          idle = λ none. absurd (some_ends x.between ((runs w).store ∷ []) none);
          cut_at = (spans (End ws) answer w one).0;
          cut = (spans (End ws) answer w one).1;
        }

    end_ok : EndCalled disk (runs v) (runs w) one.notes writes (Ok tt) → Staged (End ws) answer w one true
    end_ok is = ended true (is.run).was_drawn (is.run).drawn is.few (is.answers (table st) stands0) (is.draws (table st) stands0) (is.table (table st) stands0) is.entries (is.filled (table st) stands0) is.content (is.stages st lies.at)

    end_unsure : (f' : Fault) → EndCalled disk (runs v) (runs w) one.notes writes (Err (end.Unsure f')) → Staged (End ws) answer w one false
    end_unsure f' is = ended false (is.run).was_drawn (is.run).drawn is.few (is.answers (table st) stands0) (is.draws (table st) stands0) (is.table (table st) stands0) is.entries (is.filled (table st) stands0) is.content (is.stages st lies.at)

    end_before : (f' : Fault) → EndCalled disk (runs v) (runs w) one.notes writes (Err (end.Before f')) → Staged (End ws) answer w one false
    end_before f' is = record {
      acts = own_acts;
      are = (map id_write fs, ((runs w).run).drawn, slot_kept (content_of_ring ((runs w).run).ring), refl);
      ends = (runs w).store ∷ [];
      stages = λ word_of t here tape. (as_named (End ws) answer w one word_of t (ShowLifts ∷ [], None) (runs v).store (runs w).store (fill_stage word_of t here tape (runs w).store (is.stages st lies.at)), inl refl, refl);
      filled = end_filled;
      whole = λ yes. absurd (false≢true yes);
      idle = λ none. absurd (some_ends (runs w).store [] none);
      cut_at = (spans (End ws) answer w one).0;
      cut = (spans (End ws) answer w one).1;
    }

  -- ---- by the answer

  pub comes_in : (call : VaultCall) (answer : VaultAnswer) (w : V) (one : Called k v call answer w) → RingCalled disk (runs v) (runs w) one.notes call answer → Staged call answer w one (is_answered answer)
  comes_in (Fetch asks) (Values out) w one is = fetch_ok asks (Values out) w one is
  comes_in (Fetch asks) (RefusedBy f') w one is = fetch_err asks (RefusedBy f') w one f' is
  comes_in (Fetch asks) Ended w one is = absurd is
  comes_in (Fetch asks) (DoubtBy f') w one is = absurd is
  comes_in (End ws) Ended w one is = end_ok ws Ended w one is.none_left is
  comes_in (End ws) (RefusedBy f') w one is = end_before ws (RefusedBy f') w one is.none_left f' is
  comes_in (End ws) (DoubtBy f') w one is = end_unsure ws (DoubtBy f') w one is.none_left f' is
  comes_in (End ws) (Values out) w one is = absurd is

-- ---- the laws

pub calls_come_in_stages : {V S : Type 0} (k : Kind V) (disk : S → Disk) → ((x : S) (t : Clock) (c : Image) → NotAfter t (disk x).moment → (disk x).may_leave c → (disk x).left_since t c) → ((x : S) (c : Image) → (disk x).left_since (disk x).moment c → (disk x).may_leave c)
    → CallsComeInStages k disk
calls_come_in_stages k disk counts_now only_now runs words keys most p f first calls steps q h n v drawn at call answer w one m is_map =
    comes_in k disk runs words counts_now only_now keys most p f (disk (runs first).store) calls steps q h n v drawn at m is_map call answer w one (words.called v call answer one.notes w one.called)
