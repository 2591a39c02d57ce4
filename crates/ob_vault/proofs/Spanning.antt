-- A run that is cut off in a stage of a call goes on with its life.
use Rattle.std.specs.Prelude.{◌≡◌, ◌⊎◌, Bool, ℕ, zero, suc, ◌+◌, ◌%◌, ◌<◌, ◌≤◌, ◌^◌, List, [], ◌∷◌, ◌++◌, map, length, Option, Some, None, Result, Ok, Err}
use Rattle.std.specs.Ordering.{nat_cmp}
use Rattle.std.proofs.Common.{arith, refl, sym, ap, subst, ◌∙◌, inl, inr, ⊎_elim}
use Rattle.std.proofs.lemmas.Bool.{cases_lt}
use Rattle.std.proofs.lemmas.Option.{same_Some}
use Rattle.ob_base.specs.declared.fault.Fault.{Fault}
use Rattle.ob_base.specs.declared.fault.Fault.TheVariants as fault
use Rattle.ob_base.specs.declared.params.Params.{Params}
use Rattle.ob_base.specs.declared.value.Write.{Write}
use Rattle.ob_end.specs.EndRuns.{AreEntriesWritten, IsAtContent, MayEndEpoch, TakeBucketWords, standing_at_end, table_ended, words_for_end}
use Rattle.ob_end.proofs.Spans.{spans_so}
use Rattle.ob_end.specs.EndWrites.{SameFirst}
use Rattle.ob_end.proofs.Rows.{before_end}
use Rattle.ob_end.specs.Moments.{AreMadeBut, EndSpans, IsEndMadeButSet}
use Rattle.ob_end.specs.Shown.{before_gate}
use Rattle.ob_end.specs.Stages.{EndStagesSet, IsEndSetStage, IsEndSpanned}
use Rattle.ob_fetch.specs.Fetches.{AreFirstMade, DrawsWords, FetchStages, IsFetchInStages, IsRecordInStages, KeepsFirst, words_since}
use Rattle.ob_base.specs.Layout.{log_gate}
use Rattle.ob_log.specs.Appends.{append_notes, body_notes}
use Rattle.ob_fetch.specs.declared.run.Run.{Run}
use Rattle.ob_fresh.specs.Drawn.{DrawInTurn, WordsKept}
use Rattle.ob_log.specs.Logs.{BatchRecord}
use Rattle.ob_opening.specs.OpeningActs.{IsLeftAt}
use Rattle.ob_recover.specs.Life.{Append, End as EndAct, IsLife, LifeAct, LifeBatch, LifeState, ShowBatch, ShowLifts, WordId, reached}
use Rattle.ob_recover.specs.Known.{fills_with_lifts, public_of_kept, slot_kept}
use Rattle.ob_recover.specs.Lives.{life_batch}
use Rattle.ob_fetch.proofs.NextLaws.{stands_listed}
use Rattle.ob_ring.specs.FlatTable.{FlatTable}
use Rattle.ob_ring.specs.Ring.{StandsFor}
use Rattle.ob_stand.specs.Table.{flat_of}
use Rattle.ob_recover.specs.Repeats.{content_of_ring, table_after_records}
use Rattle.ob_schedule.specs.Phases.{Phase, end_phases, phases_of}
use Rattle.ob_schedule.specs.Schedule.{Fills, Public, record_notes}
use Rattle.ob_seal.specs.declared.keys.Keys.{Keys}
use Rattle.ob_serial.specs.Serial.{Map}
use Rattle.ob_serial.specs.VaultKinds.{Called, Kind}
use Rattle.ob_serial.specs.Vaults.{DoubtBy, End, Ended, Fetch, RefusedBy, Values, VaultAnswer, VaultCall}
use Rattle.ob_serial.specs.declared.vault.EndErr.{EndErr}
use Rattle.ob_serial.specs.declared.vault.EndErr.TheVariants as end
use Rattle.ob_stand.specs.Stands.{OneOf, RingStanding, Stands, with_record}
use Rattle.ob_store.proofs.Events.{none_noted}
use Rattle.ob_store.proofs.Moments.{no_later}
use Rattle.ob_store.specs.Calls.{Notes}
use Rattle.ob_store.specs.Told.{events_of}
use Rattle.ob_store.specs.declared.watch.Note.TheVariants as note
use Rattle.ob_store.specs.Disk.{Clock, Disk, Image, NotAfter}
use Rattle.ob_store.specs.Images.{LeavesOnly}
use Rattle.ob_store.specs.declared.event.Event.{Event}
use Rattle.ob_store.specs.declared.watch.Note.{Note}
use Rattle.ob_tables.specs.declared.entry.Entry.{Entry}
use Rattle.ob_twin.specs.Keyed.{tagging}
use Rattle.ob_twin.specs.Opening.{is_closed_first}
use Rattle.ob_twin.specs.Register.{place_of}
use Rattle.ob_twin.specs.Stages.{AreSpans, made_before}
use Rattle.ob_twin.specs.Stops.{IsRegisterLeft}
use Rattle.ob_vault.proofs.Cutting.{filled_batch, filled_end}
use Rattle.ob_vault.proofs.DrawnChains.{drawn_shown}
use Rattle.ob_vault.proofs.Calling as calling
use Rattle.ob_vault.proofs.SetParts.{made_further}
use Rattle.ob_vault.proofs.Ending as ending
use Rattle.ob_vault.proofs.Fetching as fetching
use Rattle.ob_vault.proofs.Joining.{runs_are_one_life}
use Rattle.ob_vault.proofs.Leaving as leaving
use Rattle.ob_vault.proofs.SealCalls.{kept_by}
use Rattle.ob_vault.specs.Acts.{AreBatchesSmall, AreTapeWords, RunsInLife, id_write}
use Rattle.ob_vault.specs.Hidden.{AreFirst, RingDrawsCut, RingHidden}
use Rattle.ob_vault.specs.KindShown.{AreDrawn}
use Rattle.ob_vault.specs.Lives.{AreFirstActs, IsCutInLife, IsLeftInLife, IsShownInLife, RingGoesOn}
use Rattle.ob_vault.specs.RingKind.{IsRingMap, RingFound, ring_hidden, ring_kind}
use Rattle.ob_vault.specs.RingSteps.{HasRingWords, RingAt, RunIsAtHidden}
use Rattle.ob_vault.specs.RingVaults.{EndCalled, FetchCalled, KeepsRun, RingCalled, Running, record_of_fetch, write_from, writes_of_end}
use Rattle.ob_vault.specs.Seen.{RingPublic, ring_phases}
use Rattle.ob_vault.specs.Shapes.{Ends, Shape}
use Rattle.ob_vault.specs.Shown.{AreFilledBy, AreOfLife, IsInLife}
use Rattle.ob_vault.specs.Spans.{AreRegistersIn, IsCalledBefore, IsCutIn, IsMadeIn, IsSeenIn, RowsOfStages, RunsStopInStages, StopsIn, set_from, span}
use Rattle.ob_vault.specs.Stages.{IsStage, StageActs}

-- stages whose numbers begin with one more
spans_later : {S : Type 0} (IsSo : ℕ → S × S → Type 0) (stage : ℕ) (old : S) (ends : List S) (new : S) → AreSpans (λ n x. IsSo (suc n) x) stage old ends new → AreSpans IsSo (suc stage) old ends new
spans_later IsSo stage old [] new are = are
spans_later IsSo stage old (end ∷ ends) new are = (are.0, spans_later IsSo (suc stage) end ends new are.1)

module _ {V S : Type 0} (k : Kind V) (disk : S → Disk) (runs : V → Running S) (words : HasRingWords k disk runs)
    (counts_now : (x : S) (t : Clock) (c : Image) → NotAfter t (disk x).moment → (disk x).may_leave c → (disk x).left_since t c) (only_now : (x : S) (c : Image) → (disk x).left_since (disk x).moment c → (disk x).may_leave c)
    (keys : Keys) (most : ℕ) (p : Params) (f : RingFound) (opened : Disk) (calls : List VaultCall) (steps : List (Shape × Fills)) (q : RingPublic) (h : RingHidden) (n : ℕ) (v : V)
    (drawn : AreDrawn ring_kind p (ring_hidden f) calls steps h) (at : RingAt k disk runs keys most p f opened q h n v) (m : Map nat_cmp) (is_map : IsRingMap keys p opened f m) where
  abbrev run : Run
  run = (runs v).run

  abbrev own_keys : Keys
  own_keys = (run.sealer).keys

  abbrev lies : RunIsAtHidden run h.content h.records (disk (runs v).store)
  lies = at.stands m is_map

  abbrev st : RingStanding
  st = lies.standing

  abbrev table : RingStanding → FlatTable
  table s = table_after_records run.params (flat_of run.params s.content) s.records

  stands0 : StandsFor run.ring (table st)
  stands0 = stands_listed run.ring (table st) (((lies.at).runs).planner).table

  module _ (call : VaultCall) (answer : VaultAnswer) (w : V) (one : Called k v call answer w) where
    -- a stage of the call, where a life is
    record IsStageThere (stage : ℕ) (word_of : WordId → ℕ) (t : LifeState) (x : S × S) (seen : List Event) : Type 0 where
      row : StageActs
      made : IsMadeIn call stage row.0 row.1
      staged : IsStage disk own_keys run.params word_of t row x.0 x.1
      first : AreFirstActs (Some call) row.0 row.1
      shown : IsShownInLife most p word_of t h call (runs w).drawn seen row.0

    abbrev left_in : (stage : ℕ) (word_of : WordId → ℕ) (t : LifeState) (x : S × S) (seen : List Event) → IsStageThere stage word_of t x seen → IsLeftInLife keys most p word_of t h (Some call) (runs w).drawn seen (span disk x)
    left_in stage word_of t x seen l = record {
      made = (l.row).0;
      in_flight = (l.row).1;
      first = l.first;
      shown = λ other same. subst (λ (a : VaultCall). IsShownInLife most p word_of t h a (runs w).drawn seen (l.row).0) (same_Some call other same) l.shown;
      is_life = subst (λ (y : Params). IsLife y word_of t (l.row).0) at.params (l.staged).is_life;
      images = λ i left. subst (λ (y : Keys). IsLeftAt y p word_of (reached p word_of t (l.row).0) (l.row).1 i) at.keys_are
          (subst (λ (y : Params). IsLeftAt own_keys y word_of (reached y word_of t (l.row).0) (l.row).1 i) at.params (((l.staged).leaves).each i left));
      small = (subst (λ (y : Params). AreBatchesSmall (reached y word_of t (l.row).0).log) at.params ((l.staged).small).0, ((l.staged).small).1);
    }

    left_turn : (stage : ℕ) (word_of : WordId → ℕ) (t : LifeState) (x : S × S) (seen : List Event) (l : IsStageThere stage word_of t x seen) (y : WordsKept) → y.drawn ≡ t.drawn → DrawInTurn p word_of t y (l.row).0 (l.row).1
    left_turn stage word_of t x seen l y so_far = subst (λ (z : Params). DrawInTurn z word_of t y (l.row).0 (l.row).1) at.params ((l.staged).turn y so_far)

    -- a run that is cut off in it
    abbrev IsThere : (stage : ℕ) → S × S → List Event → Type 0
    IsThere stage x seen = (word_of : WordId → ℕ) (t : LifeState) → IsInLife p word_of h t → AreTapeWords word_of h.generation (runs w).drawn → IsStageThere stage word_of t x seen

    goes_on : (stage : ℕ) (x : S × S) (seen : List Event) → IsThere stage x seen → RingGoesOn keys most p f opened calls steps h (Some call) (runs w).drawn seen (span disk x)
    goes_on stage x seen each word_of s here tape =
        let kept : KeepsRun disk (runs v) (runs w) one.notes = kept_by disk (runs v) (runs w) one.notes call answer (words.called v call answer one.notes w one.called) in
        let grown : (runs w).drawn ≡ h.words ++ words_since (runs v).drawn (runs w).drawn = kept.grows ∙ ap (λ (ws : List ℕ). ws ++ words_since (runs v).drawn (runs w).drawn) at.tape in
        let l : AreOfLife p word_of s calls steps h =
        drawn_shown p word_of s (ring_hidden f) h calls steps here drawn (leaving.own_words k disk runs words counts_now only_now keys most p f opened calls steps q h n v drawn at word_of (runs w).drawn grown tape) in
        let tape' : AreTapeWords word_of h.generation (runs w).drawn = subst (λ g. AreTapeWords word_of g (runs w).drawn) (sym (leaving.on k disk runs words counts_now only_now keys most p f opened calls steps q h n v drawn at).generation) tape in
        let there : IsStageThere stage word_of (reached p word_of s l.acts) x seen = each word_of (reached p word_of s l.acts) l.then tape' in
        record {
          acts = l.acts;
          is_life = l.is_life;
          shown = l.shown;
          then = l.then;
          fresh = l.fresh;
          cut = λ other c same draws. subst (λ (y : VaultCall). IsCutInLife p word_of (reached p word_of s l.acts) y c) (same_Some call other same)
              (leaving.cut_by k disk runs words counts_now only_now keys most p f opened calls steps q h n v drawn at word_of (reached p word_of s l.acts) l.then call answer w one c (subst (λ (y : VaultCall). RingDrawsCut p h y c (runs w).drawn) (sym (same_Some call other same)) draws) tape');
          left = λ m' is. left_in stage word_of (reached p word_of s l.acts) x seen there;
          turn = l.turn;
          turn_left = λ m' is y so_far. left_turn stage word_of (reached p word_of s l.acts) x seen there y so_far;
        }

    goes : (stage : ℕ) (x : S × S) (seen : List Event) → IsThere stage x seen → StopsIn keys most p f opened calls steps h call (runs w).drawn seen (span disk x) stage
    unfolding goes_on
    goes stage x seen each = (goes_on stage x seen each, λ word_of s here tape m' is. (each word_of _ _ _).made)

    abbrev IsCut : ℕ → S × S → Type 0
    IsCut stage x = IsCutIn disk keys most p f opened calls steps q h call (runs w).drawn (runs v).store stage x

    abbrev Left : ℕ → S × S → Type 0
    Left stage x = (image : Image) → (span disk x).may_leave image → AreRegistersIn keys h.epoch (disk (runs v).store).cells call stage image

    abbrev Before : ℕ → S → Type 0
    Before stage a = IsCalledBefore most p q h call stage (disk (runs v).store).seen (disk a).seen

    cut_in : (stage : ℕ) (x : S × S) → Left stage x → Before stage x.0 → ((seen : List Event) → IsSeenIn most p q call stage seen → IsThere stage x seen) → IsCut stage x
    cut_in stage x left made each = record { stops = λ seen may. goes stage x seen (each seen may); registers = left; made = made }

    abbrev Spans : Type 0
    Spans = (ends : List S) × AreSpans IsCut 0 (runs v).store ends (runs w).store

    abbrev runs_in : (word_of : WordId → ℕ) (t : LifeState) → IsInLife p word_of h t → AreTapeWords word_of h.generation (runs w).drawn → RunsInLife word_of t run (disk (runs v).store)
    runs_in word_of t here tape = leaving.runs_here k disk runs words counts_now only_now keys most p f opened q h n v at word_of t here lies call answer w one tape

  -- ---- a batch

  module _ (asks : List (Option ℕ)) (answer : VaultAnswer) (w : V) (one : Called k v (Fetch asks) answer w) (was_drawn : run.drawn ≡ length (runs v).drawn) (whole : length asks ≡ (run.params).places) (draws : DrawsWords (run.params).places (runs v).drawn (runs w).drawn)
      (few : run.drawn + (run.params).places ≤ 2 ^ 62) (some : 0 < run.left) where
    abbrev r : BatchRecord
    r = record_of_fetch disk (runs v) (runs w) one.notes asks

    abbrev b : LifeBatch
    b = life_batch r

    abbrev Kept : S → S → Type 0
    Kept a x = KeepsFirst (disk (runs v).store) (disk a) (disk x)

    own_tape : (word_of : WordId → ℕ) → AreTapeWords word_of h.generation (runs w).drawn → AreTapeWords word_of (run.sealer).generation (runs w).drawn
    own_tape word_of tape = subst (λ g. AreTapeWords word_of g (runs w).drawn) (sym at.generation) tape

    -- the steps of its record, by the life's names
    public_phases : (word_of : WordId → ℕ) (t : LifeState) → IsInLife p word_of h t → AreTapeWords word_of h.generation (runs w).drawn → (seen : List Event) → AreFirst most (phases_of (record_notes p (((q.known).epoch + 1) % 2) q.shown)) seen
        → AreFirst most (phases_of (record_notes p ((t.epoch + 1) % 2) (length t.log))) seen
    public_phases word_of t here tape seen first =
        subst (λ (row : List Note). AreFirst most (phases_of row) seen) (sym (leaving.public_is k disk runs words counts_now only_now keys most p f opened q h n v at word_of t here lies (Fetch asks) answer w one tape)) first

    -- by the names of what is public
    body_called : (a : S) → Notes (events_of (body_notes run.params (suc run.epoch) r.batch)) (disk (runs v).store).seen (disk a).seen → Before (Fetch asks) answer w one 1 a
    body_called a made =
        subst (λ (row : List Note). Notes (events_of row) (disk (runs v).store).seen (disk a).seen)
        (sym (before_end (body_notes run.params (suc run.epoch) r.batch) (note.Write (log_gate run.params (suc run.epoch % 2) r.batch)) note.Sync) ∙ ap (λ (row : List Note). before_gate row) (calling.record_is k disk runs words keys most p f opened q h [] n v w at)) made

    log_called : (a : S) → Notes (events_of (append_notes run.params (suc run.epoch) r.batch)) (disk (runs v).store).seen (disk a).seen → Before (Fetch asks) answer w one 2 a
    log_called a made = subst (λ (row : List Note). Notes (events_of row) (disk (runs v).store).seen (disk a).seen) (calling.record_is k disk runs words keys most p f opened q h [] n v w at) made

    -- its record's body
    keeping : (x : S) → LeavesOnly (disk (runs v).store) (disk x) (Stands own_keys run.params st) → Kept (runs v).store x → IsCut (Fetch asks) answer w one 0 ((runs v).store, x)
    keeping x all kept = cut_in (Fetch asks) answer w one 0 ((runs v).store, x) kept (none_noted (disk (runs v).store).seen) (λ seen barely word_of t here tape. record {
      row = ([], None);
      made = (refl, refl);
      staged = fetching.keeping disk word_of t (runs v) (runs w) one.notes asks (runs_in (Fetch asks) answer w one word_of t here tape) (own_tape word_of tape) was_drawn whole draws few (runs v).store x all;
      first = (Append b ∷ ShowBatch ∷ [], (b, refl, refl), inl refl);
      shown = inr (refl, public_phases word_of t here tape seen barely);
    })

    -- and its gate
    logging : (a x : S) → LeavesOnly (disk a) (disk x) (OneOf own_keys run.params st (with_record st r)) → Kept a x → Notes (events_of (body_notes run.params (suc run.epoch) r.batch)) (disk (runs v).store).seen (disk a).seen → IsCut (Fetch asks) answer w one 1 (a, x)
    logging a x all kept made = cut_in (Fetch asks) answer w one 1 (a, x) kept (body_called a made) (λ seen barely word_of t here tape. record {
      row = ([], Some (Append b));
      made = refl;
      staged = fetching.logging disk word_of t (runs v) (runs w) one.notes asks (runs_in (Fetch asks) answer w one word_of t here tape) (own_tape word_of tape) was_drawn whole draws few some a x all;
      first = (Append b ∷ ShowBatch ∷ [], (b, refl, refl), inr (Append b, ShowBatch ∷ [], refl, refl));
      shown = inr (refl, public_phases word_of t here tape seen barely);
    })

    -- and what it shows
    reading : (a x : S) (stage : ℕ) → LeavesOnly (disk a) (disk x) (Stands own_keys run.params (with_record st r)) → Kept a x → Notes (events_of (append_notes run.params (suc run.epoch) r.batch)) (disk (runs v).store).seen (disk a).seen → IsCut (Fetch asks) answer w one (suc (suc stage)) (a, x)
    reading a x stage all kept made = cut_in (Fetch asks) answer w one (suc (suc stage)) (a, x) kept (log_called a made) (λ seen any word_of t here tape. record {
      row = (Append b ∷ ShowBatch ∷ [], None);
      made = ((b, refl, refl), refl);
      staged = fetching.reading disk word_of t (runs v) (runs w) one.notes asks (runs_in (Fetch asks) answer w one word_of t here tape) (own_tape word_of tape) was_drawn whole draws few some a x all;
      first = ([], (b, refl, refl), inl refl);
      shown = inl (
        inl (b, refl, refl),
        λ f' d.
            subst (λ (acts : List LifeAct). AreFilledBy p word_of t acts (Fetch asks) f')
            (ap (λ (y : LifeBatch). Append y ∷ ShowBatch ∷ []) (leaving.drawn_record k disk runs words counts_now only_now keys most p f opened q h n v at word_of t here lies (Fetch asks) answer w one tape asks ((d.1).next) ((d.1).is_next)))
            (filled_batch p word_of t h here asks f' d.0 d.1 (runs w).drawn d.2 (leaving.some_left k disk runs words counts_now only_now keys most p f opened h run.left at.left some) tape),
      );
    })

    both : IsFetchInStages disk run st r (runs v).store (runs w).store → Spans (Fetch asks) answer w one
    both x =
        let log = (x.logs).stages in (
          log.between ∷ x.between ∷ (runs w).store ∷ [],
          (keeping log.between log.until (x.logs).kept.0, (logging log.between x.between log.since (x.logs).kept.1 log.made, (reading x.between (runs w).store 0 x.since x.kept x.made, refl))),
        )

    by_store : (unsure : Option ℕ) → FetchStages disk run st r (runs v).store (runs w).store (Err (fault.StoreFault unsure)) → Spans (Fetch asks) answer w one
    by_store unsure (inl x) = both x
    by_store unsure (inr x) = ⊎_elim
        (λ (alone : AreFirstMade (body_notes run.params (suc run.epoch) r.batch) (disk (runs v).store).seen (disk (runs w).store).seen × LeavesOnly (disk (runs v).store) (disk (runs w).store) (Stands own_keys run.params st)).
        ((runs w).store ∷ [], (keeping (runs w).store alone.1 x.kept, refl)))
        (λ (logs : IsRecordInStages disk run st r (runs v).store (runs w).store).
        let log = logs.stages in (log.between ∷ (runs w).store ∷ [], (keeping log.between log.until logs.kept.0, (logging log.between (runs w).store log.since logs.kept.1 log.made, refl))))
        x.how

  module _ (asks : List (Option ℕ)) (answer : VaultAnswer) (w : V) (one : Called k v (Fetch asks) answer w) where
    few_words : (2 ^ 62 < run.drawn + (run.params).places → ⊥) → run.drawn + (run.params).places ≤ 2 ^ 62
    few_words none = ⊎_elim (λ (more : 2 ^ 62 < run.drawn + (run.params).places). absurd (none more)) (λ few. few) (cases_lt (2 ^ 62) (run.drawn + (run.params).places))

    fetch_ok : FetchCalled disk (runs v) (runs w) one.notes asks (Ok tt) → Spans (Fetch asks) answer w one
    fetch_ok is = both asks answer w one (is.run).was_drawn is.whole is.draws (few_words (λ more. (is.worn).1 (inl more))) is.some_left (is.stages st lies.at)

    fetch_err : (f' : Fault) → FetchCalled disk (runs v) (runs w) one.notes asks (Err f') → Spans (Fetch asks) answer w one
    fetch_err fault.Memory is = absurd is.refusal
    fetch_err fault.Usage is = absurd is.refusal
    fetch_err (fault.BadScript line) is = absurd is.refusal
    fetch_err (fault.BadParams what) is = absurd is.refusal
    fetch_err fault.NotStore is = absurd is.refusal
    fetch_err (fault.Damaged cell what kept computed) is = absurd (is.undamaged st lies.at)
    fetch_err (fault.StoreFault unsure) is =
        by_store asks answer w one (is.run).was_drawn is.whole is.draws (few_words (λ more. (is.worn).1 (inl more))) is.some_left unsure (is.stages st lies.at)
    fetch_err (fault.StashFull rows) is = absurd is.refusal
    fetch_err (fault.Worn number) is = ([], is.idle tt)
    fetch_err fault.SourceFault is = absurd is.refusal
    fetch_err fault.SinkFault is = absurd is.refusal

  -- ---- an end

  module _ (ws : List (ℕ × Option (List ℕ))) (answer : VaultAnswer) (w : V) (one : Called k v (End ws) answer w) (none : run.left ≡ 0) where
    abbrev writes : List Write
    writes = map write_from ws

    abbrev fs : List (Write × Entry)
    fs = writes_of_end disk (runs v) (runs w) one.notes writes

    abbrev the_end : LifeAct
    the_end = EndAct (map id_write fs) ((runs w).run).drawn (slot_kept (content_of_ring ((runs w).run).ring))

    end_tape : (word_of : WordId → ℕ) → AreTapeWords word_of h.generation (runs w).drawn → AreTapeWords word_of (run.sealer).generation (runs w).drawn
    end_tape word_of tape = subst (λ g. AreTapeWords word_of g (runs w).drawn) (sym at.generation) tape

    lifts_shown : (word_of : WordId → ℕ) (t : LifeState) (seen : List Event) → IsInLife p word_of h t → IsShownInLife most p word_of t h (End ws) (runs w).drawn seen (ShowLifts ∷ [])
    lifts_shown word_of t seen here = inl (inr refl, λ f' d. filled_end p word_of t h here ws f' d)

    -- a stage before the gate is opened
    filling : (stage : ℕ) (a x : S) → IsMadeIn (End ws) stage (ShowLifts ∷ []) None → LeavesOnly (disk a) (disk x) (Stands own_keys run.params st) → Left (End ws) answer w one stage (a, x) → Before (End ws) answer w one stage a → IsCut (End ws) answer w one stage (a, x)
    filling stage a x made all left before = cut_in (End ws) answer w one stage (a, x) left before (λ seen any word_of t here tape. record {
      row = (ShowLifts ∷ [], None);
      made = made;
      staged = ending.filling disk word_of t (runs v) (runs w) one.notes ws (runs_in (End ws) answer w one word_of t here tape) (end_tape word_of tape) (λ u c. counts_now (runs w).store u c) none a x all;
      first = (the_end ∷ [], (map id_write fs, ((runs w).run).drawn, slot_kept (content_of_ring ((runs w).run).ring), refl), inl refl);
      shown = lifts_shown word_of t seen here;
    })

    abbrev Set : S → S → Type 0
    Set a x = (word_of : WordId → ℕ) (t : LifeState) → IsInLife p word_of h t → AreTapeWords word_of h.generation (runs w).drawn → LeavesOnly (disk a) (disk x) (OneOf own_keys run.params st (standing_at_end st (runs w).run fs))
        → IsStage disk own_keys run.params word_of t (ShowLifts ∷ [], Some the_end) a x

    -- and while it is
    setting : (stage : ℕ) (a x : S) → Set a x → LeavesOnly (disk a) (disk x) (OneOf own_keys run.params st (standing_at_end st (runs w).run fs)) → Left (End ws) answer w one (suc (suc (suc stage))) (a, x) → Before (End ws) answer w one (suc (suc (suc stage))) a
        → IsCut (End ws) answer w one (suc (suc (suc stage))) (a, x)
    setting stage a x staged all left before = cut_in (End ws) answer w one (suc (suc (suc stage))) (a, x) left before (λ seen any word_of t here tape. record {
      row = (ShowLifts ∷ [], Some the_end);
      made = refl;
      staged = staged word_of t here tape all;
      first = (the_end ∷ [], (map id_write fs, ((runs w).run).drawn, slot_kept (content_of_ring ((runs w).run).ring), refl), inr (the_end, [], refl, refl));
      shown = lifts_shown word_of t seen here;
    })

    abbrev closed : Bool
    closed = is_closed_first (run.gates).epoch (place_of (suc run.epoch))

    abbrev SetStage : S → ℕ → S × S → Type 0
    SetStage wrote stage x = IsEndSetStage disk own_keys run.params st (standing_at_end st (runs w).run fs) closed (runs v).store wrote stage x

    -- by the names of what is hidden
    own_epoch : st.epoch ≡ h.epoch
    own_epoch = sym ((lies.at).runs).epoch_is ∙ at.epoch_hidden

    registers : (wrote : S) (stage : ℕ) (x : S × S) → SetStage wrote stage x → Left (End ws) answer w one (suc stage) x
    registers wrote stage x is image left = (
      is.generation image left,
      λ lacking few. subst (λ (e : ℕ). IsRegisterLeft (tagging keys) 5 (suc e) (disk (runs v).store).cells lacking image) own_epoch
          (subst (λ (y : Keys). IsRegisterLeft (tagging y) 5 (suc st.epoch) (disk (runs v).store).cells lacking image) at.keys_are (is.gates lacking few image left)),
    )

    -- by the names of what is public
    pub named_made : (stage : ℕ) (a b : Option (List Event)) → AreMadeBut (set_from closed (suc run.epoch) stage) (runs v).lanes (end_phases run.params (public_of_kept run.params h.content h.records run.epoch run.gates) (fills_with_lifts run.params h.content h.records)) a b
        → AreMadeBut (set_from closed ((q.known).epoch + 1) stage) most (ring_phases p q Ends (fills_with_lifts p h.content h.records)) a b
    named_made stage a b made =
        subst (λ (e : ℕ). AreMadeBut (set_from closed e stage) most (ring_phases p q Ends (fills_with_lifts p h.content h.records)) a b) (let same = ap (λ (y : Public). y.epoch) at.known in omega (arith, same))
        (subst (λ (l : List Phase). AreMadeBut (set_from closed (suc run.epoch) stage) most l a b) (calling.end_is k disk runs words keys most p f opened q h [] n v w at)
        (subst (λ (i : ℕ). AreMadeBut (set_from closed (suc run.epoch) stage) i (end_phases run.params (public_of_kept run.params h.content h.records run.epoch run.gates) (fills_with_lifts run.params h.content h.records)) a b) at.lanes made))

    abbrev Wrote : S → Type 0
    Wrote wrote = IsEndMadeButSet (runs v).lanes run (disk (runs v).store).seen (disk wrote).seen

    set_called : (wrote : S) → Wrote wrote → (stage : ℕ) (x : S × S) → SetStage wrote stage x → Before (End ws) answer w one (suc stage) x.0
    set_called wrote all stage x is = (
      closed,
      named_made stage (disk (runs v).store).seen (disk x.0).seen
          (made_further (runs v).lanes closed (suc run.epoch) stage (end_phases run.params (public_of_kept run.params h.content h.records run.epoch run.gates) (fills_with_lifts run.params h.content h.records)) (disk (runs v).store).seen (disk wrote).seen (disk x.0).seen
          (all h.content h.records at.planned)
          (subst (λ (e : ℕ). Notes (events_of (made_before closed 5 (suc e) stage)) (disk wrote).seen (disk x.0).seen) (sym ((lies.at).runs).epoch_is) is.made)),
    )

    set_cut : (bound : ℕ) → ((a x : S) → 2 < bound → Set a x) → (wrote : S) → Wrote wrote → (stage : ℕ) (x : S × S) → stage < bound → SetStage wrote stage x → IsCut (End ws) answer w one (suc stage) x
    set_cut bound staged wrote all zero x low is = filling 1 x.0 x.1 (refl, refl) is.stands (registers wrote 0 x is) (set_called wrote all 0 x is)
    set_cut bound staged wrote all (suc zero) x low is = filling 2 x.0 x.1 (refl, refl) is.stands (registers wrote 1 x is) (set_called wrote all 1 x is)
    set_cut bound staged wrote all (suc (suc stage)) x low is = setting stage x.0 x.1 (staged x.0 x.1 (omega (arith, low))) is.stands (registers wrote (suc (suc stage)) x is) (set_called wrote all (suc (suc stage)) x is)

    -- its writes, and so many stages of its set
    spanned : (bound : ℕ) (IsMany : ℕ → Type 0) → ((many : ℕ) → IsMany many → many ≤ bound) → ((a x : S) → 2 < bound → Set a x)
        → IsEndSpanned disk own_keys run.params st (standing_at_end st (runs w).run fs) closed (IsEndMadeButSet (runs v).lanes run) IsMany (runs v).store (runs w).store → Spans (End ws) answer w one
    spanned bound IsMany few staged x = (
      x.wrote ∷ x.ends,
      (filling 0 (runs v).store x.wrote (refl, refl) x.writing (λ image left. first_left image (passed_back image left)) (none_noted (disk (runs v).store).seen), ⊎_elim none_set all_set x.made),
    )
      where
        passed_back : (image : Image) → (span disk ((runs v).store, x.wrote)).may_leave image → (disk (runs v).store).may_leave image ⊎ ((d : Image) × (disk (runs v).store).may_leave d × SameFirst image d)
        passed_back image left = ⊎_elim (λ before. inl (only_now (runs v).store image before)) (λ back. inr back) ((x.kept).since (disk (runs v).store).moment image (no_later (disk (runs v).store).moment) left)

        first_left : (image : Image) → (disk (runs v).store).may_leave image ⊎ ((d : Image) × (disk (runs v).store).may_leave d × SameFirst image d) → SameFirst image (disk (runs v).store).cells
        first_left image (inl now) j low = (lies.at).settled image now j
        first_left image (inr back) j low = back.2 j low ∙ (lies.at).settled back.0 back.1 j

        none_set : x.ends ≡ [] → AreSpans (IsCut (End ws) answer w one) 1 x.wrote x.ends (runs w).store
        none_set none = subst (λ (ends : List S). AreSpans (SetStage x.wrote) 0 x.wrote ends (runs w).store → AreSpans (IsCut (End ws) answer w one) 1 x.wrote ends (runs w).store) (sym none) (λ same. same) x.setting

        all_set : Wrote x.wrote → AreSpans (IsCut (End ws) answer w one) 1 x.wrote x.ends (runs w).store
        all_set all = spans_later (IsCut (End ws) answer w one) 0 x.wrote x.ends (runs w).store
            (spans_so (SetStage x.wrote) (λ stage y. IsCut (End ws) answer w one (suc stage) y) bound (λ stage y low is. set_cut bound staged x.wrote all stage y low is) 0 x.wrote x.ends (runs w).store (let most_are = few (length x.ends) x.many in omega (arith, most_are)) x.setting)

    -- all was written, but maybe for the register
    ended : (result : Result (Unit {0}) EndErr) (was_drawn : run.drawn ≡ length (runs v).drawn) (drawn' : ((runs w).run).drawn ≡ length (runs w).drawn) (few : length writes ≤ (run.params).writes)
        (may : MayEndEpoch run.params (table st) run.epoch run.drawn (run.sealer).next fs) (draws : DrawsWords (words_for_end run.params (table st)) (runs v).drawn (runs w).drawn) (then : StandsFor ((runs w).run).ring (table_ended run.params (table st) fs))
        (entries : AreEntriesWritten fs run.ring ((runs w).run).ring) (filled : TakeBucketWords run.params (table st) (words_since (runs v).drawn (runs w).drawn) (run.sealer).generation (run.sealer).next run.ring ((runs w).run).ring)
        (content : IsAtContent run.params ((runs w).run).ring) → ((many : ℕ) → EndStagesSet result many → many ≤ 3) → EndSpans disk (runs v).lanes st fs run (runs w).run (runs v).store (runs w).store result → Spans (End ws) answer w one
    ended result was_drawn drawn' few may draws then entries filled content most_are x =
        spanned 3 (EndStagesSet result) most_are
        (λ a y low word_of t here tape all. ending.setting disk word_of t (runs v) (runs w) one.notes ws (runs_in (End ws) answer w one word_of t here tape) (end_tape word_of tape) (λ u c. counts_now (runs w).store u c) none was_drawn drawn' few may draws then entries filled content a y all) x

    end_ok : EndCalled disk (runs v) (runs w) one.notes writes (Ok tt) → Spans (End ws) answer w one
    end_ok is = ended (Ok tt) (is.run).was_drawn (is.run).drawn is.few (is.answers (table st) stands0) (is.draws (table st) stands0) (is.table (table st) stands0) is.entries (is.filled (table st) stands0) is.content (λ many all. omega (arith, all)) (is.spans st lies.at)

    end_unsure : (f' : Fault) → EndCalled disk (runs v) (runs w) one.notes writes (Err (end.Unsure f')) → Spans (End ws) answer w one
    end_unsure f' is = ended (Err (end.Unsure f')) (is.run).was_drawn (is.run).drawn is.few (is.answers (table st) stands0) (is.draws (table st) stands0) (is.table (table st) stands0) is.entries (is.filled (table st) stands0) is.content (λ many all. omega (arith, all)) (is.spans st lies.at)

    end_before : (f' : Fault) → EndCalled disk (runs v) (runs w) one.notes writes (Err (end.Before f')) → Spans (End ws) answer w one
    end_before f' is = spanned 2 (EndStagesSet (Err (end.Before f'))) (λ many few. few) (λ a x low. absurd (omega (arith, low))) (is.spans st lies.at)

  -- ---- by the answer

  pub stops_in : (call : VaultCall) (answer : VaultAnswer) (w : V) (one : Called k v call answer w) → RingCalled disk (runs v) (runs w) one.notes call answer → Spans call answer w one
  stops_in (Fetch asks) (Values out) w one is = fetch_ok asks (Values out) w one is
  stops_in (Fetch asks) (RefusedBy f') w one is = fetch_err asks (RefusedBy f') w one f' is
  stops_in (Fetch asks) Ended w one is = absurd is
  stops_in (Fetch asks) (DoubtBy f') w one is = absurd is
  stops_in (End ws) Ended w one is = end_ok ws Ended w one is.none_left is
  stops_in (End ws) (RefusedBy f') w one is = end_before ws (RefusedBy f') w one is.none_left f' is
  stops_in (End ws) (DoubtBy f') w one is = end_unsure ws (DoubtBy f') w one is.none_left f' is
  stops_in (End ws) (Values out) w one is = absurd is

-- ---- the laws

pub runs_stop_in_stages : {V S : Type 0} (k : Kind V) (disk : S → Disk) → ((x : S) (t : Clock) (c : Image) → NotAfter t (disk x).moment → (disk x).may_leave c → (disk x).left_since t c) → ((x : S) (c : Image) → (disk x).left_since (disk x).moment c → (disk x).may_leave c)
    → RunsStopInStages k disk
runs_stop_in_stages k disk counts_now only_now runs words keys most p f first calls steps q h n v drawn at m is_map call answer w one =
    stops_in k disk runs words counts_now only_now keys most p f (disk (runs first).store) calls steps q h n v drawn at m is_map call answer w one (words.called v call answer one.notes w one.called)

pub rows_of_stages : {S : Type 0} (disk : S → Disk) → ((x : S) (t : Clock) (c : Image) → NotAfter t (disk x).moment → (disk x).may_leave c → (disk x).left_since t c) → ((x : S) (c : Image) → (disk x).left_since (disk x).moment c → (disk x).may_leave c)
    → RowsOfStages disk
rows_of_stages disk counts_now only_now = record {
  one_life = runs_are_one_life (span disk);
  alone = λ x c. ((λ left. only_now x c left), (λ may. counts_now x (disk x).moment c (λ part. omega arith) may));
}
