-- A call of a vault over a ring store, as a step of the store's course.
use Rattle.std.specs.Ordering.{nat_cmp}
use Rattle.std.proofs.Common.{◌≡◌, ◌⊎◌, inl, inr, ℕ, suc, ◌<◌, true, List, [], ◌∷◌, ◌++◌, length, length-append, map, Option, Some, None, Err, refl, sym, ap, subst, ◌∙◌, arith}
use Rattle.std.specs.Prelude.{drop, take}
use Rattle.std.proofs.lemmas.List.{append-nil, take-append-drop}
use Rattle.std.proofs.lemmas.Option.{none-some}
use Rattle.ob_base.specs.declared.params.Params.{Params}
use Rattle.ob_store.specs.declared.event.Event.{Event}
use Rattle.ob_store.specs.declared.watch.Note.{Note}
use Rattle.ob_store.specs.Images.{LeavesOnly}
use Rattle.ob_store.specs.Disk.{Clock, Disk, Image, NotAfter}
use Rattle.ob_seal.specs.declared.keys.Keys.{Keys}
use Rattle.ob_serial.specs.Serial.{Map}
use Rattle.ob_serial.specs.VaultKinds.{Called, Kind}
use Rattle.ob_serial.specs.Vaults.{DoubtBy, End, Ended, Fetch, MayStand, RefusedBy, Standing, Values, VaultAnswer, VaultCall, VaultState, vault_next}
use Rattle.ob_stand.specs.Stands.{StandsRing}
use Rattle.ob_recover.specs.Life.{Append, IsLife, LifeAct, LifeBatch, LifeState, WordId, formatted_life, reached}
use Rattle.ob_recover.specs.Known.{gates_open, public_of_kept}
use Rattle.ob_recover.specs.LifePublic.{public_in}
use Rattle.ob_recover.specs.Lives.{life_batch}
use Rattle.ob_vault.proofs.Publics.{public_is}
use Rattle.std.proofs.lemmas.List.{length-map}
use Rattle.std.specs.Prelude.{Bool}
use Rattle.ob_recover.specs.Telling.{AreDealt}
use Rattle.ob_recover.proofs.Pads.{life_goes_on}
use Rattle.ob_pads.specs.Seals.{pads_between}
use Rattle.ob_schedule.specs.Schedule.{Fills}
use Rattle.ob_opening.specs.OpeningActs.{IsLeftAt}
use Rattle.ob_vault.proofs.Batches as batches
use Rattle.ob_vault.proofs.Calling.{ring_calls_do}
use Rattle.ob_vault.proofs.Ends as ends
use Rattle.ob_vault.proofs.Leaving as leaving
use Rattle.ob_vault.proofs.Moments.{moments as call_moments}
use Rattle.ob_vault.proofs.SealCalls.{kept_by}
use Rattle.ob_vault.proofs.Whole.{reached_join}
use Rattle.ob_vault.specs.Acts.{AreBatchesSmall, AreTapeWords, IsBatchSmall, IsCallInLife, IsLeftWithin, is_answered}
use Rattle.ob_vault.specs.Hidden.{AreFirst, IsOfTape, RingHidden}
use Rattle.ob_vault.specs.Lives.{IsCutInLife, IsLeftInLife}
use Rattle.ob_vault.specs.RingKind.{IsRingMap, RingFound, ring_kind}
use Rattle.ob_vault.specs.RingSteps.{RingAt, RunIsAtHidden}
use Rattle.ob_vault.specs.RingVaults.{EndCalled, FetchCalled, KeepsRun, Running, write_from}
use Rattle.ob_vault.specs.Seen.{RingPublic, ring_next, ring_phases}
use Rattle.ob_vault.specs.Shapes.{Ends, Fetches, Shape, shape_of}
use Rattle.ob_vault.specs.Shown.{AreActsOf, AreFilledBy, IsInLife, leaves_filled}
use Rattle.ob_vault.specs.Steps.{IsAnsweredCall, IsCallOfKind, Stops}
use Rattle.ob_serial.specs.declared.vault.EndErr.{EndErr}
use Rattle.ob_serial.specs.declared.vault.EndErr.TheVariants.{Before, Unsure}
use Rattle.ob_base.specs.declared.fault.Fault.{Fault}
use Rattle.ob_store.specs.Calls.{Notes}
use Rattle.ob_vault.proofs.Cutting.{cut_batch, cut_end}
use Rattle.ob_ring_world.proofs.Fronts.{IsFirstShown, IsRefusedShown, all_first, batch_refused, end_refused, first_only}
use Rattle.ob_ring_world.specs.Pasts.{GoesOnBehind, OfCall, RingPast, ShownRow, events_of_rows, row_leaves, state_behind}
use Rattle.ob_ring_world.specs.Runs.{IsOverRing}
use Rattle.ob_ring_world.specs.Steps.{IsAnsweredBy, IsCutCall, IsPartOf, IsRefusedBy, IsRingCall, IsShownInActs, IsShownOf, SealsOn, part_left, rows_with}

same_leaves : (p : Params) (batch : ℕ) (call : VaultCall) (f : Fills) → leaves_filled p batch call f ≡ row_leaves p batch (OfCall (shape_of call)) f
same_leaves p batch (Fetch asks) f = refl
same_leaves p batch (End writes) f = refl

-- a front of nothing is nothing
front_none : (xs ys : List Event) → xs ++ ys ≡ [] → xs ≡ []
front_none [] ys none = refl
front_none (x ∷ xs) ys none = (let e : ◌≡◌ {A = List Event} (x ∷ (xs ++ ys)) [] = none in absurd (cc))

-- ---- where an opening can go on

module _ (keys : Keys) (p : Params) (word_of : WordId → ℕ) (slot : ℕ → ℕ → ℕ) where
  pub record CanOpen (x : RingPast) (image : Image) : Type 0 where
    pub is_life : IsLife p word_of (formatted_life slot) x.acts
    pub left : IsLeftAt keys p word_of (state_behind p word_of slot x.acts) x.in_flight image
    pub small : AreBatchesSmall (state_behind p word_of slot x.acts).log × ((b : LifeBatch) → x.in_flight ≡ Some (Append b) → IsBatchSmall b)

module _ {V S : Type 0} (k : Kind V) (disk : S → Disk) (runs : V → Running S) (over : IsOverRing k disk runs)
    (counts_now : (x : S) (t : Clock) (c : Image) → NotAfter t (disk x).moment → (disk x).may_leave c → (disk x).left_since t c) (only_now : (x : S) (c : Image) → (disk x).left_since (disk x).moment c → (disk x).may_leave c)
    (keys : Keys) (most : ℕ) (p : Params) (f : RingFound) (first : V) (content : Map nat_cmp) (is_map : IsRingMap keys p (disk (runs first).store) f content) (word_of : WordId → ℕ) (slot : ℕ → ℕ → ℕ) (gen : ℕ) where
  -- the vault serves, and is where the life is
  pub record IsServing (v : V) (x : RingPast) : Type 0 where
    pub public : RingPublic
    pub hidden : RingHidden
    pub epochs : ℕ
    pub at : RingAt k disk runs keys most p f (disk (runs first).store) public hidden epochs v
    pub here : IsInLife p word_of hidden (state_behind p word_of slot x.acts)
    pub is_life : IsLife p word_of (formatted_life slot) x.acts
    pub generation : hidden.generation ≡ gen
    pub idle : x.in_flight ≡ None
    pub rows : (shape : Shape) → GoesOnBehind p x.rows (OfCall shape) public
    pub sealer : x.sealer ≡ Some ((runs v).run).sealer

  -- it serves no more, and an opening can go on from each image that a crash leaves
  pub record IsSpent (v : V) (x : RingPast) : Type 0 where
    pub can : (c : Image) → (disk (runs v).store).may_leave c → CanOpen keys p word_of slot x c
    pub keys_are : (((runs v).run).sealer).keys ≡ keys
    pub params : ((runs v).run).params ≡ p

  -- the rows that were shown from one vault to the other are these, and all that the store was called for
  pub record AreRowsSeen (v w : V) (x y : RingPast) : Type 0 where
    pub rows : List ShownRow
    pub rows_are : y.rows ≡ rows ++ x.rows
    pub seen : Notes (events_of_rows rows) (disk (runs v).store).seen (disk (runs w).store).seen

  module _ (v : V) (x : RingPast) (s : IsServing v x) where
    abbrev now : LifeState
    now = state_behind p word_of slot x.acts

    abbrev h : RingHidden
    h = s.hidden

    lies : RunIsAtHidden (runs v).run h.content h.records (disk (runs v).store)
    lies = s.at.stands content is_map

    here_on : (acts : List LifeAct) → state_behind p word_of slot (x.acts ++ acts) ≡ reached p word_of now acts
    here_on acts = reached_join p word_of (formatted_life slot) x.acts acts

    pub serving_opens : (c : Image) → (disk (runs v).store).may_leave c → CanOpen keys p word_of slot x c
    serving_opens c left =
        let l : IsLeftInLife keys most p word_of now h None [] [] (disk (runs v).store) = leaving.at_rest k disk runs over.words counts_now only_now keys most p f (disk (runs first).store) s.public h s.epochs v s.at word_of now s.here lies [] [] in
        subst (λ (pending : Option LifeAct). CanOpen keys p word_of slot (record x { in_flight = pending }) c) (sym s.idle)
        (record {
          is_life = s.is_life;
          left = subst (λ (made : List LifeAct). IsLeftAt keys p word_of (reached p word_of now made) None c) l.first.0 (subst (λ (pending : Option LifeAct). IsLeftAt keys p word_of (reached p word_of now l.made) pending c) l.first.1 (l.images c left));
          small = (subst (λ (made : List LifeAct). AreBatchesSmall (reached p word_of now made).log) l.first.0 l.small.0, λ b e. absurd (none-some (Append b) e));
        })

    -- what is public of the vault is what is public of the life
    own_gates : ℕ → Bool
    own_gates = gates_open ((runs v).run).gates

    known_here : s.public.known ≡ public_in p word_of now own_gates
    unfolding own_gates
    known_here = sym s.at.known ∙ ap (λ (e : ℕ). public_of_kept p h.content h.records e ((runs v).run).gates) s.at.epoch_hidden ∙ public_is p word_of now h s.here ((runs v).run).gates

    shown_here : s.public.shown ≡ now.begun
    shown_here =
        let many : length now.log ≡ length h.records = ap (λ (log : List LifeBatch). length log) ((s.here).life).log ∙ length-map h.records life_batch in
        let begun = (s.here).begun in
        let seen = s.at.shown in
        omega (arith, many, begun, seen)

    -- what was shown of a call that was refused or cut off
    record FrontShown (call : VaultCall) (events : List Event) : Type 0 where
      pub shown : Option ShownRow
      pub fronts : IsShownOf p word_of slot x call shown
      pub rows : List ShownRow
      pub rows_are : rows_with shown x.rows ≡ rows ++ x.rows
      pub events_are : events_of_rows rows ≡ events

    abbrev none_shown : (call : VaultCall) (events : List Event) → events ≡ [] → FrontShown call events
    none_shown call events none = record { shown = None; fronts = tt; rows = []; rows_are = refl; events_are = sym none }

    -- these events, where these would have come behind
    abbrev some_shown : (call : VaultCall) (events behind : List Event) (fills : Fills) → IsCutInLife p word_of now call fills → AreFirst most (ring_phases p s.public (shape_of call) fills) (events ++ behind) → FrontShown call events
    some_shown call events behind fills c first_made =
        let row : ShownRow = record { kind = OfCall (shape_of call); public = s.public; fills = fills; lanes = most; events = events; before = x.acts; acts = c.acts } in
        record {
          shown = Some row;
          fronts = (
            refl,
            refl,
            c.shows,
            (behind, first_made),
            record { gates = own_gates; known = known_here; shown = shown_here; is_life = life_goes_on p word_of (formatted_life slot) x.acts c.acts s.is_life c.is_life; labels = c.filled.labels ∙ same_leaves p (length now.log) call fills; slots = c.filled.slots },
            s.rows (shape_of call),
          );
          rows = row ∷ [];
          rows_are = refl;
          events_are = refl;
        }

    front_shown : (call : VaultCall) (events behind : List Event) → IsFirstShown p most word_of now s.public call (events ++ behind) → FrontShown call events
    front_shown call events behind (inl none) = none_shown call events (front_none events behind none)
    front_shown call events behind (inr (fills, c, first_made)) = some_shown call events behind fills c first_made

    -- all that a call called its store for, whatever it answered, is the first of its row
    record CallSeen (call : VaultCall) (w : V) : Type 0 where
      pub all : List Event
      pub noted : Notes all (disk (runs v).store).seen (disk (runs w).store).seen
      pub begins : IsFirstShown p most word_of now s.public call all

    -- of one that was refused, beside the acts that were made of it
    record RefusedSeen (call : VaultCall) (w : V) : Type 0 where
      pub all : List Event
      pub noted : Notes all (disk (runs v).store).seen (disk (runs w).store).seen
      pub left : IsLeftInLife keys most p word_of now h (Some call) (runs w).drawn all (disk (runs w).store)
      pub begins : IsRefusedShown p most word_of now s.public call all left.made

    refused_seen : (call : VaultCall) (w : V) → RefusedSeen call w → CallSeen call w
    refused_seen call w r = record { all = r.all; noted = r.noted; begins = first_only p most word_of now s.public call r.all r.left.made r.begins }

    -- and the first so many of it
    part_shown : (call : VaultCall) (w : V) (n : ℕ) (c : CallSeen call w) → FrontShown call (take n c.all)
    part_shown call w n c = front_shown call (take n c.all) (drop n c.all) (subst (λ (l : List Event). IsFirstShown p most word_of now s.public call l) (sym (take-append-drop n c.all)) c.begins)

    module _ (call : VaultCall) (answer : VaultAnswer) (w : V) (one : Called k v call answer w) (tape : AreTapeWords word_of gen (runs w).drawn) where
      kept : KeepsRun disk (runs v) (runs w) one.notes
      kept = kept_by disk (runs v) (runs w) one.notes call answer (over.words.called v call answer one.notes w one.called)

      abbrev seals : SealsOn x
      seals = record { was = ((runs v).run).sealer; now = ((runs w).run).sealer; sealed = s.sealer; further = record { keys = kept.keys; generation = kept.generation; on = kept.on } }

      own : AreTapeWords word_of h.generation (runs w).drawn
      own = subst (λ (g : ℕ). AreTapeWords word_of g (runs w).drawn) (sym s.generation) tape

      -- ---- answered

      module _ (fills : Fills) (behind : RingHidden) (events : List Event) (n : ℕ) (acts : List LifeAct) where
        abbrev row : ShownRow
        row = record { kind = OfCall (shape_of call); public = s.public; fills = fills; lanes = most; events = events; before = x.acts; acts = acts }

        abbrev after : RingPast
        after = record { acts = x.acts ++ acts; in_flight = None; rows = row ∷ x.rows; pads = x.pads ++ pads_between (Some ((runs v).run).sealer) ((runs w).run).sealer; sealer = Some ((runs w).run).sealer }

        answered_on : AreDealt most (ring_phases p s.public (shape_of call) fills) events → RingAt k disk runs keys most p f (disk (runs first).store) (ring_next p s.public (shape_of call) fills) behind n w → AreActsOf call acts → IsLife p word_of now acts
            → IsInLife p word_of behind (reached p word_of now acts) → AreFilledBy p word_of now acts call fills → behind.generation ≡ h.generation → Notes events (disk (runs v).store).seen (disk (runs w).store).seen
            → (y : RingPast) × IsAnsweredBy p word_of slot x call y × IsServing w y × AreRowsSeen v w x y
        answered_on dealt at' are life then filled same noted =
            let whole : IsLife p word_of (formatted_life slot) (x.acts ++ acts) = life_goes_on p word_of (formatted_life slot) x.acts acts s.is_life life in (
              after,
              record {
                row = row;
                kind = refl;
                before = refl;
                acts = are;
                whole = dealt;
                filled = record { gates = own_gates; known = known_here; shown = shown_here; is_life = whole; labels = filled.labels ∙ same_leaves p (length now.log) call fills; slots = filled.slots };
                behind = s.rows (shape_of call);
                seals = seals;
                state = refl;
              },
              record {
                public = ring_next p s.public (shape_of call) fills;
                hidden = behind;
                epochs = n;
                at = at';
                here = subst (λ (t : LifeState). IsInLife p word_of behind t) (sym (here_on acts)) then;
                is_life = whole;
                generation = same ∙ s.generation;
                idle = refl;
                rows = λ shape. (dealt, refl);
                sealer = refl;
              },
              record { rows = row ∷ []; rows_are = refl; seen = noted },
            )

      -- ---- refused

      module _ (more : List Event) (left_so : IsLeftInLife keys most p word_of now h (Some call) (runs w).drawn more (disk (runs w).store)) (r : FrontShown call more) (tied : IsShownInActs p word_of slot call left_so.made r.shown) where
        abbrev part : IsPartOf p word_of slot x call
        part = record { made = left_so.made; in_flight = left_so.in_flight; first = left_so.first; is_life = life_goes_on p word_of (formatted_life slot) x.acts left_so.made s.is_life left_so.is_life; shown = r.shown; fronts = r.fronts; seals = seals }

        abbrev spent_past : RingPast
        spent_past = part_left p word_of slot x call part (Some ((runs w).run).sealer)

        refused_on : IsRefusedBy p word_of slot x call spent_past × IsSpent w spent_past
        refused_on = (
          record { part = part; shown_by = tied; state = refl },
          record {
            can = λ c left. record {
              is_life = part.is_life;
              left = subst (λ (t : LifeState). IsLeftAt keys p word_of t left_so.in_flight c) (sym (here_on left_so.made)) (left_so.images c left);
              small = (subst (λ (t : LifeState). AreBatchesSmall t.log) (sym (here_on left_so.made)) left_so.small.0, left_so.small.1);
            };
            keys_are = kept.keys ∙ s.at.keys_are;
            params = kept.params ∙ s.at.params;
          },
        )

      -- ---- a crash inside it

      in_life : IsCallInLife disk word_of (runs v) (runs w) one.notes now call (is_answered answer)
      in_life = leaving.made k disk runs over.words counts_now only_now keys most p f (disk (runs first).store) s.public h s.epochs v s.at word_of now s.here lies call answer w one own

      -- at each moment of it
      within : LeavesOnly (disk (runs v).store) (disk (runs w).store) (IsLeftWithin disk word_of (runs v) (runs w) one.notes now call)
      within = call_moments disk word_of now (runs v) (runs w) one.notes (leaving.runs_here k disk runs over.words counts_now only_now keys most p f (disk (runs first).store) s.public h s.epochs v s.at word_of now s.here lies call answer w one own)
          call (is_answered answer) in_life.staged

      module _ (events : List Event) (front : FrontShown call events) (image : Image) (left : IsLeftWithin disk word_of (runs v) (runs w) one.notes now call image) where
        life_within : IsLife p word_of now left.made
        life_within = subst (λ (q : Params). IsLife q word_of now left.made) s.at.params left.is_life

        left_within : IsLeftAt keys p word_of (reached p word_of now left.made) left.pending image
        left_within = subst (λ (q : Params). IsLeftAt keys q word_of (reached q word_of now left.made) left.pending image) s.at.params
            (subst (λ (y : Keys). IsLeftAt y ((runs v).run).params word_of (reached ((runs v).run).params word_of now left.made) left.pending image) s.at.keys_are left.left)

        small_within : AreBatchesSmall (reached p word_of now left.made).log
        small_within = subst (λ (q : Params). AreBatchesSmall (reached q word_of now left.made).log) s.at.params left.small.0

        abbrev part_within : IsPartOf p word_of slot x call
        part_within = record {
          made = left.made;
          in_flight = left.pending;
          first = leaving.first_of k disk runs over.words counts_now only_now keys most p f (disk (runs first).store) s.public h s.epochs v s.at word_of now s.here lies call answer w one own left.made left.pending (inr (left.rest, left.acts, left.next));
          is_life = life_goes_on p word_of (formatted_life slot) x.acts left.made s.is_life life_within;
          shown = front.shown;
          fronts = front.fronts;
          seals = seals;
        }

        abbrev cut_past : RingPast
        cut_past = part_left p word_of slot x call part_within None

        cut_on : IsCutCall p word_of slot keys x call image cut_past × CanOpen keys p word_of slot cut_past image
        cut_on =
            let at : IsLeftAt keys p word_of (state_behind p word_of slot (x.acts ++ left.made)) left.pending image = subst (λ (t : LifeState). IsLeftAt keys p word_of t left.pending image) (sym (here_on left.made)) left_within in (
              record { part = part_within; left = at; state = refl },
              record { is_life = part_within.is_life; left = at; small = (subst (λ (t : LifeState). AreBatchesSmall t.log) (sym (here_on left.made)) small_within, left.small.1) },
            )

      abbrev pub IsCutSeen : (n : ℕ) → List ShownRow → Type 0
      IsCutSeen n rows = (all : List Event) × Notes all (disk (runs v).store).seen (disk (runs w).store).seen × (events_of_rows rows ≡ take n all)

      cut_seen : (n : ℕ) (c : CallSeen call w) (image : Image) → (disk (runs w).store).left_since (disk (runs v).store).moment image
          → (y : RingPast) × IsCutCall p word_of slot keys x call image y × CanOpen keys p word_of slot y image × ((rows : List ShownRow) × (y.rows ≡ rows ++ x.rows) × IsCutSeen n rows)
      cut_seen n c image since =
          let left = within.each image since in
          let front = part_shown call w n c in
          let cut = cut_on (take n c.all) front image left in
          (cut_past (take n c.all) front image left, cut.0, cut.1, (front.rows, front.rows_are, (c.all, c.noted, front.events_are)))

    -- ---- by the answer

    abbrev pub IsNext : VaultCall → VaultAnswer → V → Type 0
    IsNext call answer w = (y : RingPast) × IsRingCall p word_of slot x call answer y × (IsServing w y ⊎ (((u : VaultState) → (vault_next u call answer).spent ≡ true) × IsSpent w y)) × AreRowsSeen v w x y

    tape_behind : (behind : RingHidden) (w : V) (same : behind.generation ≡ h.generation) → (runs w).drawn ≡ behind.words → AreTapeWords word_of gen (runs w).drawn → AreTapeWords word_of behind.generation behind.words
    tape_behind behind w same words tape = subst (λ (l : List ℕ). AreTapeWords word_of behind.generation l) words (subst (λ (g : ℕ). AreTapeWords word_of g (runs w).drawn) (sym (same ∙ s.generation)) tape)

    abbrev pub Does : VaultCall → VaultAnswer → (w : V) → List Note → Type 0
    Does call answer w notes = IsCallOfKind ring_kind keys most p f (disk (runs first).store) (λ q' h' so_far' n' v'. RingAt k disk runs keys most p f (disk (runs first).store) q' h' n' v') (disk (runs v).store) (disk (runs w).store) (runs w).drawn w notes s.public h [] s.epochs call answer

    does : (call : VaultCall) (answer : VaultAnswer) (w : V) (one : Called k v call answer w) → Does call answer w one.notes
    does call answer w one = ring_calls_do k disk runs over.words keys most p f first s.public h [] s.epochs v call answer w s.at one

    abbrev Answered : VaultCall → (w : V) → (n : ℕ) → List Note → Type 0
    Answered call w n notes = IsAnsweredCall ring_kind most p (λ q' h' so_far' n' v'. RingAt k disk runs keys most p f (disk (runs first).store) q' h' n' v') (disk (runs v).store) (disk (runs w).store) w s.public h [] call n notes

    abbrev Stopped : VaultCall → (w : V) → Fault → List Note → Type 0
    Stopped call w fault notes = Stops ring_kind keys most p f (disk (runs first).store) (disk (runs v).store) (disk (runs w).store) (runs w).drawn s.public h [] s.epochs call fault notes

    words_of : (behind : RingHidden) (w : V) → (runs w).drawn ≡ behind.words → IsOfTape behind (runs w).drawn
    words_of behind w same = ([], same ∙ sym (append-nil behind.words))

    -- ---- what was seen of it

    seen_batch : (asks : List (Option ℕ)) (w : V) (n : ℕ) (notes : List Note) → AreTapeWords word_of h.generation (runs w).drawn → Answered (Fetch asks) w n notes → CallSeen (Fetch asks) w
    seen_batch asks w n notes tape a =
        let (d, fit) = a.draws in
        let some : length h.records < p.batches = (let few = fit.few in let is = ap (λ (y : RingHidden). length y.records) d.behind_is in omega (arith, few, is, length-append h.records (d.next ∷ []))) in
        record {
          all = a.seen.events;
          noted = a.seen.noted;
          begins = inr (a.drawn, cut_batch p word_of now h s.here asks a.drawn a.behind d (runs w).drawn (words_of a.behind w a.at.tape) some tape, all_first most (ring_phases p s.public Fetches a.drawn) a.seen.events a.seen.dealt);
        }

    seen_end : (writes : List (ℕ × Option (List ℕ))) (w : V) (n : ℕ) (notes : List Note) → Answered (End writes) w n notes → CallSeen (End writes) w
    seen_end writes w n notes a = record {
      all = a.seen.events;
      noted = a.seen.noted;
      begins = inr (a.drawn, cut_end p word_of now h s.here writes a.drawn (a.draws).fills (a.draws).all, all_first most (ring_phases p s.public Ends a.drawn) a.seen.events a.seen.dealt);
    }

    module _ (call : VaultCall) (answer : VaultAnswer) (w : V) (one : Called k v call answer w) (tape : AreTapeWords word_of gen (runs w).drawn) (refused : Fault) (stops : Stopped call w refused one.notes) where
      left_by : IsLeftInLife keys most p word_of now h (Some call) (runs w).drawn stops.more (disk (runs w).store)
      left_by = leaving.at_refusal k disk runs over.words counts_now only_now keys most p f (disk (runs first).store) s.public h s.epochs v s.at word_of now s.here lies call answer w one (own call answer w one tape) stops.cut.0 refused stops.more stops.cut.1 stops.shown

    refused_batch : (asks : List (Option ℕ)) (answer : VaultAnswer) (w : V) (one : Called k v (Fetch asks) answer w)
        → AreTapeWords word_of gen (runs w).drawn → (refused : Fault) → FetchCalled disk (runs v) (runs w) one.notes asks (Err refused) → Stopped (Fetch asks) w refused one.notes → RefusedSeen (Fetch asks) w
    refused_batch asks answer w one tape refused called stops =
        let some : length h.records < p.batches = (let left = s.at.left in let one_more = called.some_left in omega (arith, left, one_more)) in
        let l : IsLeftInLife keys most p word_of now h (Some (Fetch asks)) (runs w).drawn stops.more (disk (runs w).store) = left_by (Fetch asks) answer w one tape refused stops in
        record {
          all = stops.more;
          noted = stops.seen;
          left = l;
          begins = batch_refused p most word_of now s.public h s.here (runs w).drawn (own (Fetch asks) answer w one tape) stops.more l.made l.is_life asks stops.cut.0 refused some stops.cut.1 (l.shown (Fetch asks) refl);
        }

    refused_end : (writes : List (ℕ × Option (List ℕ))) (answer : VaultAnswer) (w : V) (one : Called k v (End writes) answer w) → AreTapeWords word_of gen (runs w).drawn → (err : EndErr) (refused : Fault)
        → EndCalled disk (runs v) (runs w) one.notes (map write_from writes) (Err err) → Stopped (End writes) w refused one.notes → RefusedSeen (End writes) w
    refused_end writes answer w one tape err refused called stops =
        let all : length h.records ≡ p.batches = (let left = s.at.left in let none = called.none_left in omega (arith, left, none)) in
        let l : IsLeftInLife keys most p word_of now h (Some (End writes)) (runs w).drawn stops.more (disk (runs w).store) = left_by (End writes) answer w one tape refused stops in
        record {
          all = stops.more;
          noted = stops.seen;
          left = l;
          begins = end_refused p most word_of now s.public h s.here (runs w).drawn (own (End writes) answer w one tape) stops.more l.made l.is_life writes stops.cut.0 refused all stops.cut.1 (l.shown (End writes) refl);
        }

    -- by the answer, where that is no refusal there is none
    refused_fetch : (asks : List (Option ℕ)) (fault : Fault) (w : V) (one : Called k v (Fetch asks) (RefusedBy fault) w) → AreTapeWords word_of gen (runs w).drawn → RefusedSeen (Fetch asks) w
    refused_fetch asks fault w one tape = refused_batch asks (RefusedBy fault) w one tape fault (over.words.called v (Fetch asks) (RefusedBy fault) one.notes w one.called) (does (Fetch asks) (RefusedBy fault) w one)

    ended_before : (writes : List (ℕ × Option (List ℕ))) (fault : Fault) (w : V) (one : Called k v (End writes) (RefusedBy fault) w) → AreTapeWords word_of gen (runs w).drawn → RefusedSeen (End writes) w
    ended_before writes fault w one tape = refused_end writes (RefusedBy fault) w one tape (Before fault) fault (over.words.called v (End writes) (RefusedBy fault) one.notes w one.called) (does (End writes) (RefusedBy fault) w one)

    ended_unsure : (writes : List (ℕ × Option (List ℕ))) (fault : Fault) (w : V) (one : Called k v (End writes) (DoubtBy fault) w) → AreTapeWords word_of gen (runs w).drawn → RefusedSeen (End writes) w
    ended_unsure writes fault w one tape = refused_end writes (DoubtBy fault) w one tape (Unsure fault) fault (over.words.called v (End writes) (DoubtBy fault) one.notes w one.called) (does (End writes) (DoubtBy fault) w one)

    seen_of : (call : VaultCall) (answer : VaultAnswer) (w : V) (one : Called k v call answer w) → AreTapeWords word_of gen (runs w).drawn → CallSeen call w
    seen_of (Fetch asks) (Values out) w one tape = seen_batch asks w s.epochs one.notes (own (Fetch asks) (Values out) w one tape) (does (Fetch asks) (Values out) w one)
    seen_of (End writes) Ended w one tape = seen_end writes w (suc s.epochs) one.notes (does (End writes) Ended w one)
    seen_of (Fetch asks) (RefusedBy fault) w one tape = refused_seen (Fetch asks) w (refused_fetch asks fault w one tape)
    seen_of (End writes) (RefusedBy fault) w one tape = refused_seen (End writes) w (ended_before writes fault w one tape)
    seen_of (End writes) (DoubtBy fault) w one tape = refused_seen (End writes) w (ended_unsure writes fault w one tape)
    seen_of (Fetch asks) Ended w one tape = absurd (over.words.called v (Fetch asks) Ended one.notes w one.called)
    seen_of (Fetch asks) (DoubtBy fault) w one tape = absurd (over.words.called v (Fetch asks) (DoubtBy fault) one.notes w one.called)
    seen_of (End writes) (Values out) w one tape = absurd (over.words.called v (End writes) (Values out) one.notes w one.called)

    -- a crash inside it, behind so many of the calls that it would have made of its store
    pub cut_call : (call : VaultCall) (answer : VaultAnswer) (w : V) (one : Called k v call answer w) (tape : AreTapeWords word_of gen (runs w).drawn) (n : ℕ) (image : Image) → (disk (runs w).store).left_since (disk (runs v).store).moment image
        → (y : RingPast) × IsCutCall p word_of slot keys x call image y × CanOpen keys p word_of slot y image × ((rows : List ShownRow) × (y.rows ≡ rows ++ x.rows) × IsCutSeen call answer w one tape n rows)
    cut_call call answer w one tape n image since = cut_seen call answer w one tape n (seen_of call answer w one tape) image since

    -- ---- what comes of it

    refused_next : (call : VaultCall) (answer : VaultAnswer) (w : V) → Called k v call answer w → AreTapeWords word_of gen (runs w).drawn → RefusedSeen call w → (y : RingPast) × IsRefusedBy p word_of slot x call y × IsSpent w y × AreRowsSeen v w x y
    refused_next call answer w one tape c = by_seen c.begins
      where
        by_front : (r : FrontShown call c.all) → IsShownInActs p word_of slot call c.left.made r.shown → (y : RingPast) × IsRefusedBy p word_of slot x call y × IsSpent w y × AreRowsSeen v w x y
        by_front r tied =
            let is = refused_on call answer w one tape c.all c.left r tied in
            (spent_past call answer w one tape c.all c.left r tied, is.0, is.1, record { rows = r.rows; rows_are = r.rows_are; seen = subst (λ (l : List Event). Notes l (disk (runs v).store).seen (disk (runs w).store).seen) (sym r.events_are) c.noted })

        by_seen : IsRefusedShown p most word_of now s.public call c.all c.left.made → (y : RingPast) × IsRefusedBy p word_of slot x call y × IsSpent w y × AreRowsSeen v w x y
        by_seen (inl none) = by_front (none_shown call c.all none) tt
        by_seen (inr (fills, cut, first, tied)) = by_front (some_shown call c.all [] fills cut (subst (λ (l : List Event). AreFirst most (ring_phases p s.public (shape_of call) fills) l) (sym (append-nil c.all)) first)) tied

    pub call_on : (call : VaultCall) (answer : VaultAnswer) (w : V) → Called k v call answer w → AreTapeWords word_of gen (runs w).drawn → IsNext call answer w
    call_on (Fetch asks) (Values out) w one tape =
        let a : Answered (Fetch asks) w s.epochs one.notes = does (Fetch asks) (Values out) w one in
        let (d, fit) = a.draws in
        let same : a.behind.generation ≡ h.generation = ap (λ (y : RingHidden). y.generation) d.behind_is in
        let words = subst (λ (y : RingHidden). AreTapeWords word_of y.generation y.words) d.behind_is (tape_behind a.behind w same a.at.tape tape) in
        let some : length h.records < p.batches = (let few = fit.few in let is = ap (λ (y : RingHidden). length y.records) d.behind_is in omega (arith, few, is, length-append h.records (d.next ∷ []))) in
        let is = answered_on (Fetch asks) (Values out) w one tape a.drawn a.behind a.seen.events s.epochs (batches.acts p word_of now h s.here asks a.drawn a.behind d some words) a.seen.dealt a.at (_, d.is_next.asked, refl)
        (batches.batch_life p word_of now h s.here asks a.drawn a.behind d some words) (batches.batch_then p word_of now h s.here asks a.drawn a.behind d some words fit) (batches.batch_filled p word_of now h s.here asks a.drawn a.behind d some words) same a.seen.noted in
        (is.0, is.1, inl is.2, is.3)
    call_on (End writes) Ended w one tape =
        let a : Answered (End writes) w (suc s.epochs) one.notes = does (End writes) Ended w one in
        let d = a.draws in
        let words = subst (λ (l : List ℕ). AreTapeWords word_of h.generation l) d.grows (subst (λ (g : ℕ). AreTapeWords word_of g a.behind.words) d.generation (tape_behind a.behind w d.generation a.at.tape tape)) in
        let is = answered_on (End writes) Ended w one tape a.drawn a.behind a.seen.events (suc s.epochs) (ends.acts p word_of now h s.here writes a.drawn a.behind d words) a.seen.dealt a.at (_, _, _, refl)
        (ends.end_life p word_of now h s.here writes a.drawn a.behind d words) (ends.end_then p word_of now h s.here writes a.drawn a.behind d words) (ends.end_filled p word_of now h s.here writes a.drawn a.behind d words) d.generation a.seen.noted in
        (is.0, is.1, inl is.2, is.3)
    call_on (Fetch asks) (RefusedBy fault) w one tape = let (y, by, spent, rows) = refused_next (Fetch asks) (RefusedBy fault) w one tape (refused_fetch asks fault w one tape) in (y, by, inr (λ u. refl, spent), rows)
    call_on (End writes) (RefusedBy fault) w one tape = let (y, by, spent, rows) = refused_next (End writes) (RefusedBy fault) w one tape (ended_before writes fault w one tape) in (y, by, inr (λ u. refl, spent), rows)
    call_on (End writes) (DoubtBy fault) w one tape = let (y, by, spent, rows) = refused_next (End writes) (DoubtBy fault) w one tape (ended_unsure writes fault w one tape) in (y, by, inr (λ u. refl, spent), rows)
    call_on (Fetch asks) Ended w one tape = absurd (over.words.called v (Fetch asks) Ended one.notes w one.called)
    call_on (Fetch asks) (DoubtBy fault) w one tape = absurd (over.words.called v (Fetch asks) (DoubtBy fault) one.notes w one.called)
    call_on (End writes) (Values out) w one tape = absurd (over.words.called v (End writes) (Values out) one.notes w one.called)

  -- ---- what an image stands for

  rests_at : (v : V) (u : VaultState) → (((runs v).run).sealer).keys ≡ keys → ((runs v).run).params ≡ p → k.sound v u → (c : Image) → (disk (runs v).store).may_leave c → (at : Standing) × ((g : ℕ) × StandsRing keys p g c at) × MayStand u at
  rests_at v u keys_are params sound c left =
      let (at, stands, may) = (over.sound v u sound).images c (inl left) in
      (at, ((((runs v).run).sealer).generation, subst (λ (q : Params). StandsRing keys q (((runs v).run).sealer).generation c at) params (subst (λ (y : Keys). StandsRing y ((runs v).run).params (((runs v).run).sealer).generation c at) keys_are stands)), may)

  -- behind calls, answered or refused
  abbrev pub Goes : V → RingPast → Type 0
  Goes v x = IsServing v x ⊎ IsSpent v x

  pub goes_opens : (v : V) (u : VaultState) (x : RingPast) → Goes v x → k.sound v u → (c : Image) → (disk (runs v).store).may_leave c → CanOpen keys p word_of slot x c × ((at : Standing) × ((g : ℕ) × StandsRing keys p g c at) × MayStand u at)
  goes_opens v u x (inl s) sound c left = (serving_opens v x s c left, rests_at v u s.at.keys_are s.at.params sound c left)
  goes_opens v u x (inr s) sound c left = (s.can c left, rests_at v u s.keys_are s.params sound c left)
