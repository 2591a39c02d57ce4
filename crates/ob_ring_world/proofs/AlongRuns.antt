-- Runs over a ring store, one behind the other, are one list of events of its course.
use Rattle.std.specs.Ordering.{nat_cmp}
use Rattle.std.proofs.Common.{◌≡◌, ◌⊎◌, inl, inr, ⊎_elim, ℕ, suc, ◌≤◌, List, [], ◌∷◌, ◌++◌, length, Option, Some, None, refl, sym, ap, subst, ◌∙◌, append_assoc, arith}
use Rattle.std.specs.Prelude.{drop, take}
use Rattle.std.proofs.lemmas.List.{append-nil, length-map, take-append-drop}
use Rattle.std.proofs.lemmas.Option.{none-some}
use Rattle.ob_base.proofs.Repeats.{has_push}
use Rattle.ob_base.specs.Repeats.{Has}
use Rattle.ob_base.specs.declared.params.Params.{Params}
use Rattle.ob_store.specs.Calls.{Notes}
use Rattle.ob_store.specs.Disk.{Clock, Disk, Image, NotAfter}
use Rattle.ob_store.specs.declared.event.Event.{Event}
use Rattle.ob_store.specs.Images.{IsSynced, Passes, Same}
use Rattle.ob_opening.specs.OpeningRuns.{OpensFrom}
use Rattle.ob_seal.specs.Sealing.{Sealing}
use Rattle.ob_seal.specs.declared.keys.Keys.{Keys}
use Rattle.ob_serial.specs.Serial.{Map}
use Rattle.ob_serial.specs.VaultKinds.{Called, Kind}
use Rattle.ob_serial.specs.Vaults.{MayStand, Standing, VaultAnswer, VaultCall}
use Rattle.ob_stand.proofs.OnceLaws.{ring_stands_once, stands_once}
use Rattle.ob_stand.specs.Once.{SameStanding}
use Rattle.ob_stand.specs.Stands.{RingStanding, StandsRing, ring_standing}
use Rattle.ob_desk.specs.Desk.{Setup, new_desk}
use Rattle.ob_recover.proofs.Pads.{life_goes_on}
use Rattle.ob_recover.proofs.ShownOpening.{openings_are_scheduled}
use Rattle.ob_recover.specs.Calls.{Finds, repeated}
use Rattle.ob_recover.specs.Telling.{AreDealt}
use Rattle.ob_schedule.specs.Phases.{Reads}
use Rattle.ob_vault.specs.Seen.{opening_phases}
use Rattle.ob_recover.specs.Known.{fills_of, gates_open, public_of_kept}
use Rattle.ob_recover.specs.Life.{Append, End, IsLife, LifeAct, LifeBatch, LifeState, Open as OpenAct, ShowBatch, ShowLifts, WordId, formatted_life, life_step, reached}
use Rattle.ob_recover.specs.Finds.{IsFoundOf}
use Rattle.ob_recover.specs.LifePublic.{public_in}
use Rattle.ob_recover.specs.Lives.{life_batch}
use Rattle.ob_vault.proofs.Founding.{found_is_standing}
use Rattle.ob_schedule.specs.Schedule.{after_open}
use Rattle.ob_opening.specs.OpeningActs.{IsLeftAt, StandsInLife}
use Rattle.ob_vault.proofs.OpenedLife.{opened_lives}
use Rattle.ob_vault.proofs.OpenedRun.{IsFurther, further}
use Rattle.ob_vault.proofs.Whole.{reached_join}
use Rattle.ob_vault.specs.Acts.{AreBatchesSmall, AreTapeWords, IsBatchSmall}
use Rattle.ob_vault.specs.Hidden.{AreFirst}
use Rattle.ob_vault.specs.Lives.{IsOpenedInLife, opening_acts}
use Rattle.ob_vault.specs.RingKind.{IsRingMap, RingFound, ring_hidden, ring_public}
use Rattle.ob_vault.specs.RingVaults.{Running}
use Rattle.ob_vault.specs.Shown.{IsInLife}
use Rattle.ob_world.proofs.Holding.{inv_first, world_append}
use Rattle.ob_world.proofs.Keeping.{Ran, ran}
use Rattle.ob_world.specs.Courses.{Course, course_of}
use Rattle.ob_world.specs.Drivers.{AtRest, IsDown}
use Rattle.ob_world.specs.Worlds.{WorldEvent, Crash, Open, World, IsWorld, OpenEvent, cut_vault, ended_with, first_world, opened_vault}
use Rattle.ob_ring_world.proofs.AlongEvents.{Mapped, mapped, other, setup_stays, serving}
use Rattle.ob_ring_world.proofs.InCalls.{CanOpen, IsServing, cut_call, goes_opens}
use Rattle.ob_ring_world.proofs.InOpenings.{IsFound, found_at, openings_moment_by_moment}
use Rattle.ob_ring_world.proofs.OpeningRows.{OpeningFront, fills, has_open, log_many, public_begun, opening_front, opening_labels, opening_life, opening_slots, phases_at, public_at}
use Rattle.ob_ring_world.specs.OpeningMoments.{IsLeftInOpening}
use Rattle.ob_ring_world.specs.Pasts.{IsFrontRow, IsRowFilled, OfOpening, RingPast, ShownRow, events_of_rows, formatted_past, state_behind}
use Rattle.ob_ring_world.specs.RingCourses.{RingPromises, ring_course}
use Rattle.ob_ring_world.specs.Runs.{AreRingPartsFrom, AreRowsOf, BeginsWorld, Crashes, CrashesIn, IsEndOfRun, IsOverRing, IsRingRun, IsSeenOpening, IsShownAtEnd, OpensOrRefuses}
use Rattle.ob_ring_world.specs.Runs.{left_by_format, Returns, RingPart, RingRun, RingRunsAreWorlds, RunEnd, Runs, Serves, Stops, end_leaves, events_of_end, events_of_parts}
use Rattle.ob_ring_world.specs.Steps.{IsCutOpening, IsOpenedBy}

open_append : (g : ℕ) (b : LifeBatch) → ◌≡◌ {A = Option LifeAct} (Some (OpenAct g)) (Some (Append b)) → ⊥
open_append g b e = cc

-- ---- batches of the log stay small

module _ (p : Params) (word_of : WordId → ℕ) where
  small_step : (t : LifeState) (a : LifeAct) → AreBatchesSmall t.log → ((b : LifeBatch) → ◌≡◌ {A = Option LifeAct} (Some a) (Some (Append b)) → IsBatchSmall b) → AreBatchesSmall (life_step p word_of t a).log
  small_step t (OpenAct g) small own = small
  small_step t (Append r) small own = λ b has. ⊎_elim (λ (was : Has t.log b). small b was) (λ (is : r ≡ b). subst IsBatchSmall is (own r refl)) (has_push t.log r b has)
  small_step t ShowBatch small own = small
  small_step t ShowLifts small own = small
  small_step t (End ws drawn slot) small own = λ b none. absurd none

  small_found : (t : LifeState) (pending : Option LifeAct) (found : List LifeAct) → Finds pending found → AreBatchesSmall t.log → ((b : LifeBatch) → pending ≡ Some (Append b) → IsBatchSmall b) → AreBatchesSmall (reached p word_of t found).log
  small_found t pending found (inl none) small own = subst (λ (l : List LifeAct). AreBatchesSmall (reached p word_of t l).log) (sym none) small
  small_found t pending found (inr (a, flies, is)) small own = subst (λ (l : List LifeAct). AreBatchesSmall (reached p word_of t l).log) (sym is) (small_step t a small (λ b e. own b (flies ∙ e)))

module _ {V S : Type 0} (k : Kind V) (disk : S → Disk) (runs : V → Running S) (over : IsOverRing k disk runs)
    (counts_now : (x : S) (t : Clock) (c : Image) → NotAfter t (disk x).moment → (disk x).may_leave c → (disk x).left_since t c) (only_now : (x : S) (c : Image) → (disk x).left_since (disk x).moment c → (disk x).may_leave c)
    (setup : Setup) (keys : Keys) (word_of : WordId → ℕ) (slot : ℕ → ℕ → ℕ) (kept : RingPromises keys setup.params word_of slot) where
  abbrev p : Params
  p = setup.params

  abbrev ring : Course
  ring = ring_course keys setup.params word_of slot kept

  -- an opening can go on from this world, and this image
  record Ready (w : World RingPast) (image : Image) : Type 0 where
    pub batches : w.vault.batches ≡ p.batches
    pub setup_is : w.desk.setup ≡ setup
    pub can : CanOpen keys p word_of slot w.past image
    pub at : Standing
    pub stands : (g : ℕ) × StandsRing keys p g image at
    pub may : MayStand w.vault at

  -- ---- an opening

  module _ (w : World RingPast) (run : RingRun V S) (r : IsRingRun k disk runs setup keys word_of run) (ready : Ready w run.image) where
    abbrev x : RingPast
    x = w.past

    abbrev f : RingFound
    f = run.found

    there : IsFound keys p word_of (state_behind p word_of slot x.acts) x.in_flight run.image
    there = found_at keys p word_of (state_behind p word_of slot x.acts) x.in_flight run.image ready.can.left

    abbrev before : List LifeAct
    before = x.acts ++ there.found

    abbrev t : LifeState
    t = state_behind p word_of slot before

    t_is : t ≡ reached p word_of (state_behind p word_of slot x.acts) there.found
    t_is = reached_join p word_of (formatted_life slot) x.acts there.found

    here : StandsInLife keys p word_of t run.image
    here = subst (λ (s : LifeState). StandsInLife keys p word_of s run.image) (sym t_is) there.here

    small : AreBatchesSmall t.log
    small = subst (λ (s : LifeState). AreBatchesSmall s.log) (sym t_is) (small_found p word_of (state_behind p word_of slot x.acts) x.in_flight there.found there.finds ready.can.small.0 ready.can.small.1)

    o : IsOpenedInLife p word_of f t
    o = opened_lives keys p word_of t run.image f r.found_in here small

    on : IsFurther (life_step p word_of t (OpenAct (suc t.generation))) (reached p word_of t (opening_acts t)) (length t.log)
    on = further p word_of (life_step p word_of t (OpenAct (suc t.generation))) (length t.log)

    generation_is : (f.run.sealer).generation ≡ suc t.generation
    generation_is = sym o.then.generation ∙ on.generation

    many_is : length f.records ≡ length t.log
    many_is = sym (length-map f.records life_batch) ∙ ap (λ (l : List LifeBatch). length l) (sym o.then.life.log ∙ on.log)

    life_before : IsLife p word_of (formatted_life slot) before
    life_before = life_goes_on p word_of (formatted_life slot) x.acts there.found ready.can.is_life there.is_life

    whole_life : IsLife p word_of (formatted_life slot) (before ++ opening_acts t)
    whole_life = life_goes_on p word_of (formatted_life slot) before (opening_acts t) life_before o.is_life

    -- what the store was called for behind the head's read
    record OpeningSeen : Type 0 where
      pub all : List Event
      pub seen : IsSeenOpening run.lanes all (disk run.before).seen (disk (runs run.first).store).seen
      pub dealt : AreDealt run.lanes (opening_phases p f.content f.records f.run.epoch (f.run.sealer).generation r.found_in.found.gates) all

    opening_seen : OpeningSeen
    opening_seen = by r.shown.dealt
      where
        by : AreDealt run.lanes (Reads (0 ∷ []) ∷ opening_phases p f.content f.records f.run.epoch (f.run.sealer).generation r.found_in.found.gates) r.shown.events → OpeningSeen
        by (head, rest, is, first, more) = record { all = rest; seen = inr (head, first, subst (λ (l : List Event). Notes l (disk run.before).seen (disk (runs run.first).store).seen) is r.shown.noted); dealt = more }

    abbrev row : ShownRow
    row = record {
      kind = OfOpening (gates_open r.found_in.found.gates) (f.run.sealer).generation (length f.records);
      public = record { known = public_of_kept p f.content [] f.run.epoch r.found_in.found.gates; shown = 0 };
      fills = fills_of p f.content f.records;
      lanes = run.lanes;
      events = opening_seen.all;
      before = before;
      acts = opening_acts t;
    }

    abbrev past : RingPast
    past = record { acts = before ++ opening_acts t; in_flight = None; rows = row ∷ x.rows; pads = x.pads; sealer = Some ((runs run.first).run).sealer }

    -- what is public where it begins is what is public of the life
    known_begun : row.public.known ≡ public_in p word_of (life_step p word_of t (OpenAct (f.run.sealer).generation)) (gates_open r.found_in.found.gates)
    known_begun =
        let st : RingStanding = here.standing in
        let same : IsFoundOf st r.found_in.found = found_is_standing keys p st run.image r.found_in.found here.stands r.found_in.found_in in
        let content : f.content ≡ st.content = sym r.found_in.goes_on.content ∙ same.content in
        let epoch : f.run.epoch ≡ st.epoch = r.found_in.goes_on.epoch ∙ same.epoch in
        (λ i. public_of_kept p (content i) [] (epoch i) r.found_in.found.gates) ∙ public_begun keys p word_of t run.image here r.found_in.found.gates (f.run.sealer).generation

    epoch_is : t.epoch ≡ run.standing.epoch
    epoch_is =
        let (g, is) = r.stands in
        let same : SameStanding (ring_standing run.standing g is.content is.records) here.standing = stands_once keys p (ring_standing run.standing g is.content is.records) here.standing run.image is.stands here.stands in
        sym here.epoch ∙ sym same.epoch

    opened : IsOpenedBy p word_of slot x run.standing past
    opened = record {
      found = there.found;
      finds = there.finds;
      epoch = epoch_is;
      row = row;
      gates = gates_open r.found_in.found.gates;
      kind = λ i. OfOpening (gates_open r.found_in.found.gates) (generation_is i) (many_is i);
      before = refl;
      acts = refl;
      whole = opening_seen.dealt;
      filled = record { gates = gates_open r.found_in.found.gates; known = known_begun; shown = refl; is_life = whole_life; labels = o.labels; slots = o.slots };
      sealing = ((runs run.first).run).sealer;
      generation = r.at.generation ∙ generation_is;
      none_sealed = r.at.sealed;
      state = refl;
    }

    same_at : ready.at ≡ run.standing
    same_at = (ring_stands_once keys p ready.stands.0 r.stands.0 run.image ready.at run.standing ready.stands.1 r.stands.1).1

    abbrev first : World V
    first = first_world setup run.clients run.standing f.run.left run.first

    abbrev begun : World RingPast
    begun = other first past w.ended

    few : f.run.left ≤ w.vault.batches
    few = let left = r.found_in.goes_on.left in let same = ready.batches in omega (arith, left, same)

    open_event : OpenEvent ring w run.clients begun
    open_event = record {
      found = run.standing;
      left = f.run.left;
      may = subst (MayStand w.vault) same_at ready.may;
      past = past;
      opened = opened;
      few = few;
      state = λ i. record {
        desk = new_desk ((sym ready.setup_is) i) (suc run.standing.epoch) f.run.left run.clients;
        vault = opened_vault ((sym ready.batches) i) run.standing f.run.left;
        past = past;
        driver = AtRest;
        found = run.standing.content;
        ended = w.ended;
      };
    }

    -- ---- what was done since

    abbrev map : Map nat_cmp
    map = run.standing.content

    is_map : IsRingMap keys p (disk (runs run.first).store) f map
    is_map = r.opened_at.content

    abbrev gen : ℕ
    gen = (ring_hidden f).generation

    abbrev Serving : V → RingPast → Type 0
    Serving v y = IsServing k disk runs over counts_now only_now keys run.lanes p f run.first map is_map word_of slot gen v y

    gates_begun_at : after_open p (public_of_kept p f.content [] f.run.epoch r.found_in.found.gates) (fills_of p f.content f.records) (gates_open r.found_in.found.gates) (f.run.sealer).generation (length f.records) ≡ (ring_public p f).known
    gates_begun_at =
        let found = r.found_in.found in
        let is_open = has_open 1 run.image found.generation found.gates.generation r.found_in.found_in.registers.generation_counts r.found_in.found_in.generation_gates in
        let law = openings_are_scheduled p f.content f.records f.run.epoch found.generation found.gates [] found.gates o.then.obeys o.then.fit is_open in
        ap (λ (g : ℕ). after_open p (public_of_kept p f.content [] f.run.epoch found.gates) (fills_of p f.content f.records) (gates_open found.gates) g (length f.records)) (ap (λ (s : Sealing). s.generation) r.found_in.goes_on.sealer)
        ∙ law.behind ∙ ap (λ g. public_of_kept p f.content f.records f.run.epoch g) (sym r.found_in.goes_on.gates)

    serving_first : Serving run.first past
    serving_first = record {
      public = ring_public p f;
      hidden = ring_hidden f;
      epochs = 0;
      at = r.at;
      here = subst (λ (s : LifeState). IsInLife p word_of (ring_hidden f) s) (sym (reached_join p word_of (formatted_life slot) before (opening_acts t))) o.then;
      is_life = whole_life;
      generation = refl;
      idle = refl;
      rows = λ shape. (opening_seen.dealt, λ i. record { known = (sym gates_begun_at) i; shown = length f.records });
      sealer = refl;
    }

    along : Mapped k disk runs over counts_now only_now keys run.lanes p f run.first map is_map word_of slot gen kept first run.last run.events past w.ended
    along = mapped k disk runs over counts_now only_now keys run.lanes p f run.first map is_map word_of slot gen kept run.events first run.last past w.ended r.one r.leads (record { sound = r.sound; goes = inl serving_first }) r.tape

    -- the world behind it
    abbrev last : World RingPast
    last = other run.last along.past along.after

    run_leads : IsWorld ring w (Open run.clients ∷ run.events) last
    run_leads = (begun, open_event, along.leads)

    last_setup : run.last.desk.setup ≡ setup
    last_setup = setup_stays k map [] [] first run.events run.last r.one (inv_first setup run.clients run.standing f.run.left run.first) r.leads

    last_batches : run.last.vault.batches ≡ p.batches
    last_batches =
        let all : Ran (course_of k) map [] [] first run.events run.last = ran (course_of k) map [] [] first run.events run.last (inv_first setup run.clients run.standing f.run.left run.first) r.leads in
        all.inv.alike ∙ ap (λ (s : Setup). s.params.batches) last_setup

    -- ---- its end

    goes_on : (image : Image) → (disk (runs run.last.past).store).may_leave image → CanOpen keys p word_of slot along.past image × ((at : Standing) × ((g : ℕ) × StandsRing keys p g image at) × MayStand run.last.vault at)
    goes_on image left = ⊎_elim
        (λ (s : Serving run.last.past along.past). goes_opens k disk runs over counts_now only_now keys run.lanes p f run.first map is_map word_of slot gen run.last.past run.last.vault along.past (inl s) along.tells.sound image left)
        (λ two. goes_opens k disk runs over counts_now only_now keys run.lanes p f run.first map is_map word_of slot gen run.last.past run.last.vault along.past (inr two.1) along.tells.sound image left)
        along.tells.goes

    ready_last : (image : Image) → (disk (runs run.last.past).store).may_leave image → Ready last image
    ready_last image left = let (can, (at, stands, may)) = goes_on image left in record { batches = last_batches; setup_is = last_setup; can = can; at = at; stands = stands; may = may }

    record Behind (end : RunEnd V) (image : Image) : Type 0 where
      pub world : World RingPast
      pub leads : IsWorld ring last (events_of_end end) world
      pub then : Ready world image
      pub cut : List ShownRow
      pub rows_are : world.past.rows ≡ cut ++ last.past.rows
      pub shown : IsShownAtEnd disk runs run.last.past end cut

    crashed : (image : Image) → (disk (runs run.last.past).store).may_leave image → Behind (Crashes image) image
    crashed image left =
        let (can, (at, stands, may)) = goes_on image left in
        let gone : RingPast = record along.past { sealer = None } in
        let world : World RingPast = record last { vault = cut_vault run.last.vault at; past = gone; driver = IsDown } in
        record {
          world = world;
          leads = (world, record { was = tt; left = at; may = may; stands = stands; past = gone; cut = inl (record { left = can.left; state = refl }); state = refl }, refl);
          then = record { batches = last_batches; setup_is = last_setup; can = record { is_life = can.is_life; left = can.left; small = can.small }; at = at; stands = stands; may = inl refl };
          cut = [];
          rows_are = refl;
          shown = refl;
        }

    crashed_in : (call : VaultCall) (answer : VaultAnswer) (next : World V) (calls : ℕ) (image : Image) → IsEndOfRun k disk runs setup keys word_of run (CrashesIn call answer next calls image) → Behind (CrashesIn call answer next calls image) image
    crashed_in call answer next calls image (e, since, tape) =
        let called : Called k run.last.past call answer e.past = e.called in
        let s : Serving run.last.past along.past = serving k disk runs over counts_now only_now keys run.lanes p f run.first map is_map word_of slot gen kept run.last.past run.last.vault along.past along.tells e.law.serves in
        let left : (disk (runs e.past).store).left_since (disk (runs run.last.past).store).moment image = subst (λ (m : World V). (disk (runs m.past).store).left_since (disk (runs run.last.past).store).moment image) e.state since in
        let words : AreTapeWords word_of gen (runs e.past).drawn = subst (λ (m : World V). AreTapeWords word_of gen (runs m.past).drawn) e.state tape in
        let (gone, cut, can, (rows, rows_are, (all, noted, events_are))) = cut_call k disk runs over counts_now only_now keys run.lanes p f run.first map is_map word_of slot gen run.last.past along.past s call answer e.past called words calls image left in
        let (at, own, may) = (called.images run.last.vault along.tells.sound).each image (over.since run.last.past e.past image left) in
        let g : ℕ = (((runs run.last.past).run).sealer).generation in
        let stands : (n : ℕ) × StandsRing keys p n image at = (g, subst (λ (q : Params). StandsRing keys q g image at) s.at.params (subst (λ (y : Keys). StandsRing y ((runs run.last.past).run).params g image at) s.at.keys_are (over.stands run.last.past image at own))) in
        let world : World RingPast = record last { vault = cut_vault run.last.vault at; past = gone; driver = IsDown; ended = ended_with (Some call) run.last.desk run.last.vault along.after } in
        record {
          world = world;
          leads = (world, record { was = e.was; left = at; may = may; stands = stands; past = gone; cut = cut; state = refl }, refl);
          then = record { batches = last_batches; setup_is = last_setup; can = can; at = at; stands = stands; may = inl refl };
          cut = rows;
          rows_are = rows_are;
          shown = (all, subst (λ (m : World V). Notes all (disk (runs run.last.past).store).seen (disk (runs m.past).store).seen) (sym e.state) noted, events_are);
        }

  -- ---- an opening that was refused, or inside which a crash came

  module _ (w : World RingPast) (old new : S) (image : Image) (ready : Ready w (disk old).cells) (tells : (disk old).tells) (synced : IsSynced (disk old)) (leaves : Passes Same (disk old) (disk new) ⊎ OpensFrom disk keys p old new) (since : (disk new).left_since (disk old).moment image)
      (lanes : ℕ) (some : 1 ≤ lanes) (did : OpensOrRefuses keys lanes p (disk old) (disk new)) (calls : ℕ) where
    abbrev was : RingPast
    was = w.past

    all_left : IsLeftInOpening disk keys p word_of (state_behind p word_of slot was.acts) was.in_flight old new
    all_left = openings_moment_by_moment disk only_now keys p word_of (state_behind p word_of slot was.acts) was.in_flight old new tells synced ready.can.left leaves

    abbrev settled : List LifeAct
    settled = was.acts ++ all_left.found

    abbrev u : LifeState
    u = state_behind p word_of slot settled

    u_is : u ≡ reached p word_of (state_behind p word_of slot was.acts) all_left.found
    u_is = reached_join p word_of (formatted_life slot) was.acts all_left.found

    abbrev begins : LifeAct
    begins = OpenAct (suc u.generation)

    settled_life : IsLife p word_of (formatted_life slot) settled
    settled_life = life_goes_on p word_of (formatted_life slot) was.acts all_left.found ready.can.is_life all_left.is_life

    settled_here : StandsInLife keys p word_of u (disk old).cells
    settled_here = subst (λ (t : LifeState). StandsInLife keys p word_of t (disk old).cells) (sym u_is) all_left.here

    left_at : IsLeftAt keys p word_of u (Some begins) image
    left_at = subst (λ (t : LifeState). IsLeftAt keys p word_of t (Some (OpenAct (suc t.generation))) image) (sym u_is) (all_left.images.each image since).0

    stands_at : (g : ℕ) × StandsRing keys p g image ready.at
    stands_at = (all_left.images.each image since).1 ready.at ready.stands

    -- none of the opening's acts is made, and the first may be in flight
    abbrev none_made : List LifeAct
    none_made = settled ++ []

    none_is : none_made ≡ settled
    none_is = append-nil settled

    front : OpeningFront keys p word_of u (disk old) settled_here tells lanes some (disk new)
    front = opening_front keys p word_of u (disk old) settled_here tells lanes some (disk new) did

    abbrev standing : RingStanding
    standing = settled_here.standing

    abbrev cut_row : ShownRow
    cut_row = record {
      kind = OfOpening (gates_open front.gates) (suc standing.generation) (length standing.records);
      public = record { known = public_at keys p word_of u (disk old) settled_here front.gates; shown = 0 };
      fills = fills keys p word_of u (disk old) settled_here;
      lanes = lanes;
      events = take calls front.all;
      before = settled;
      acts = opening_acts u;
    }

    as_many : length standing.records ≡ length u.log
    as_many = sym (log_many keys p word_of u (disk old) settled_here)

    cut_front : IsFrontRow p cut_row
    cut_front = (
      drop calls front.all ++ front.behind,
      subst (λ (l : List Event). AreFirst lanes (phases_at keys p word_of u (disk old) settled_here front.gates) l)
          (ap (λ (l : List Event). l ++ front.behind) (sym (take-append-drop calls front.all)) ∙ append_assoc (take calls front.all) (drop calls front.all) front.behind) front.first,
    )

    cut_filled : IsRowFilled p word_of slot cut_row
    cut_filled = record {
      gates = gates_open front.gates;
      known = public_begun keys p word_of u (disk old).cells settled_here front.gates (suc standing.generation);
      shown = refl;
      is_life = life_goes_on p word_of (formatted_life slot) settled (opening_acts u) settled_life (opening_life keys p word_of u (disk old) settled_here);
      labels = opening_labels keys p word_of u (disk old) settled_here;
      slots = opening_slots keys p word_of u (disk old) settled_here;
    }

    abbrev gone : RingPast
    gone = record { acts = none_made; in_flight = Some begins; rows = cut_row ∷ was.rows; pads = was.pads; sealer = None }

    abbrev cut_world : World RingPast
    cut_world = record w { vault = cut_vault w.vault ready.at; past = gone; driver = IsDown }

    life_none : IsLife p word_of (formatted_life slot) none_made
    life_none = subst (λ (l : List LifeAct). IsLife p word_of (formatted_life slot) l) (sym none_is) settled_life

    left_none : IsLeftAt keys p word_of (state_behind p word_of slot none_made) (Some begins) image
    left_none = subst (λ (l : List LifeAct). IsLeftAt keys p word_of (state_behind p word_of slot l) (Some begins) image) (sym none_is) left_at

    few_none : AreBatchesSmall (state_behind p word_of slot none_made).log
    few_none = subst (λ (l : List LifeAct). AreBatchesSmall (state_behind p word_of slot l).log) (sym none_is)
        (subst (λ (t : LifeState). AreBatchesSmall t.log) (sym u_is) (small_found p word_of (state_behind p word_of slot was.acts) was.in_flight all_left.found all_left.finds ready.can.small.0 ready.can.small.1))

    cut_opening : IsCutOpening p word_of slot keys was image gone
    cut_opening = record {
      found = all_left.found;
      finds = all_left.finds;
      made = [];
      rest = opening_acts u;
      acts = refl;
      in_flight = Some begins;
      next = inr (begins, repeated (length u.log), refl, refl);
      is_life = life_none;
      left = left_none;
      shown = Some cut_row;
      fronts = (gates_open front.gates, λ i. OfOpening (gates_open front.gates) (suc (settled_here.generation i)) (as_many i), refl, refl, cut_front, cut_filled);
      state = refl;
    }

    stopped : (world : World RingPast) × IsWorld ring w (Crash None image ∷ []) world × Ready world image
        × ((cut : List ShownRow) × (world.past.rows ≡ cut ++ w.past.rows) × ((all : List Event) × IsSeenOpening lanes all (disk old).seen (disk new).seen × (events_of_rows cut ≡ take calls all)))
    stopped = (
      cut_world,
      (cut_world, record { was = tt; left = ready.at; may = ready.may; stands = stands_at; past = gone; cut = inr cut_opening; state = refl }, refl),
      record { batches = ready.batches; setup_is = ready.setup_is; can = record { is_life = life_none; left = left_none; small = (few_none, λ b e. absurd (open_append (suc u.generation) b e)) }; at = ready.at; stands = stands_at; may = inl refl },
      (cut_row ∷ [], refl, (front.all, front.seen, refl)),
    )

  -- ---- all of them

  abbrev Here : World RingPast → List (RingPart V S) → Type 0
  Here w [] = Unit {0}
  Here w (Runs run end ∷ parts) = Ready w run.image
  Here w (Stops old new lanes calls image ∷ parts) = Ready w (disk old).cells

  here_next : (w : World RingPast) (image : Image) (parts : List (RingPart V S)) → Ready w image → AreRingPartsFrom k disk runs setup keys word_of (λ c. c ≡ image) parts → Here w parts
  here_next w image [] ready from = tt
  here_next w image (Runs run end ∷ parts) ready from = subst (λ (c : Image). Ready w c) (sym from.0) ready
  here_next w image (Stops old new lanes calls left ∷ parts) ready from = subst (λ (c : Image). Ready w c) (sym from.0) ready

  here_none : (w : World RingPast) (parts : List (RingPart V S)) → AreRingPartsFrom k disk runs setup keys word_of (λ c. ⊥) parts → Here w parts
  here_none w [] from = tt
  here_none w (Runs run end ∷ parts) from = absurd from.0
  here_none w (Stops old new lanes calls image ∷ parts) from = absurd from.0

  record Joined (w : World RingPast) (events : List WorldEvent) (Next : World RingPast → Type 0) (rows : List ShownRow) (Shown : List ShownRow → Type 0) : Type 0 where
    pub world : World RingPast
    pub leads : IsWorld ring w events world
    pub next : Next world
    pub cut : List ShownRow
    pub rows_are : world.past.rows ≡ cut ++ rows
    pub shown : Shown cut

  ended : (run : RingRun V S) (r : IsRingRun k disk runs setup keys word_of run) (w : World RingPast) (ready : Ready w run.image) (end : RunEnd V) → IsEndOfRun k disk runs setup keys word_of run end
      → (parts : List (RingPart V S)) → AreRingPartsFrom k disk runs setup keys word_of (end_leaves end) parts
      → Joined (last w run r ready) (events_of_end end) (λ m. Here m parts) (last w run r ready).past.rows (IsShownAtEnd disk runs run.last.past end)
  ended run r w ready Serves is parts from = record { world = last w run r ready; leads = refl; next = here_none (last w run r ready) parts from; cut = []; rows_are = refl; shown = refl }
  ended run r w ready (Returns image) is parts from = record { world = last w run r ready; leads = refl; next = here_next (last w run r ready) image parts (ready_last w run r ready image is) from; cut = []; rows_are = refl; shown = refl }
  ended run r w ready (Crashes image) is parts from = let b = crashed w run r ready image is in record { world = b.world; leads = b.leads; next = here_next b.world image parts b.then from; cut = b.cut; rows_are = b.rows_are; shown = b.shown }
  ended run r w ready (CrashesIn call answer next calls image) is parts from = let b = crashed_in w run r ready call answer next calls image is in record { world = b.world; leads = b.leads; next = here_next b.world image parts b.then from; cut = b.cut; rows_are = b.rows_are; shown = b.shown }

  all_of : (parts : List (RingPart V S)) (w : World RingPast) (may_leave : Image → Type 0) → Here w parts → AreRingPartsFrom k disk runs setup keys word_of may_leave parts → (m : World RingPast) × IsWorld ring w (events_of_parts parts) m × AreRowsOf disk runs w.past.rows parts m.past.rows
  all_of [] w may_leave at from = (w, refl, refl)
  all_of (Runs run end ∷ parts) w may_leave at (may, r, is, more) =
      let b = ended run r w at end is parts more in
      let (m, rest, rows) = all_of parts b.world (end_leaves end) b.next more in
      let one : IsWorld ring w (Open run.clients ∷ run.events) (last w run r at) = run_leads w run r at in
      let two : IsWorld ring w ((Open run.clients ∷ run.events) ++ events_of_end end) b.world = world_append ring w (Open run.clients ∷ run.events) (events_of_end end) (last w run r at) b.world one b.leads in (
        m,
        world_append ring w ((Open run.clients ∷ run.events) ++ events_of_end end) (events_of_parts parts) b.world m two rest,
        (
          row w run r at,
          (along w run r at).seen.rows,
          b.cut,
          (opening_seen w run r at).seen,
          (along w run r at).seen.seen,
          b.shown,
          subst (λ (l : List ShownRow). AreRowsOf disk runs l parts m.past.rows) (b.rows_are ∙ ap (λ (l : List ShownRow). b.cut ++ l) (along w run r at).seen.rows_are) rows,
        ),
      )
  all_of (Stops old new lanes calls image ∷ parts) w may_leave at (may, tells, synced, leaves, some, did, since, more) =
      let (world, one, ready, (cut, rows_are, (all, seen, events_are))) = stopped w old new image at tells synced leaves since lanes some did calls in
      let (m, rest, rows) = all_of parts world (λ c. c ≡ image) (here_next world image parts ready more) more in
      (m, world_append ring w (Crash None image ∷ []) (events_of_parts parts) world m one rest, (cut, all, seen, events_are, subst (λ (l : List ShownRow). AreRowsOf disk runs l parts m.past.rows) rows_are rows))

  begun_here : (leaves : Image → Type 0) (empty : Standing) (calls : ℕ) (parts : List (RingPart V S)) → BeginsWorld keys p word_of slot leaves empty → AreRingPartsFrom k disk runs setup keys word_of leaves parts → Here (first_world setup [] empty 0 (formatted_past p calls)) parts
  begun_here leaves empty calls parts begins from = by_parts parts from
    where
      ready_at : (c : Image) → leaves c → Ready (first_world setup [] empty 0 (formatted_past p calls)) c
      ready_at c left = record {
        batches = refl;
        setup_is = refl;
        can = record {
          is_life = tt;
          left = record { allowed = λ a e. absurd (none-some a e); stands = λ i same. inl (subst (λ (y : Image). StandsInLife keys p word_of (formatted_life slot) y) same (begins.begins c left)) };
          small = (begins.small, λ b e. absurd (none-some (Append b) e));
        };
        at = empty;
        stands = begins.stands c left;
        may = inl refl;
      }

      by_parts : (parts : List (RingPart V S)) → AreRingPartsFrom k disk runs setup keys word_of leaves parts → Here (first_world setup [] empty 0 (formatted_past p calls)) parts
      by_parts [] from = tt
      by_parts (Runs run end ∷ parts) from = ready_at run.image from.0
      by_parts (Stops old new lanes calls image ∷ parts) from = ready_at (disk old).cells from.0

pub ring_runs_are_worlds : {V S : Type 0} (k : Kind V) (disk : S → Disk) → ((x : S) (t : Clock) (c : Image) → NotAfter t (disk x).moment → (disk x).may_leave c → (disk x).left_since t c) → ((x : S) (c : Image) → (disk x).left_since (disk x).moment c → (disk x).may_leave c) → RingRunsAreWorlds k disk
ring_runs_are_worlds k disk counts_now only_now runs over setup keys word_of slot made end empty calls parts begins from kept =
    all_of k disk runs over counts_now only_now setup keys word_of slot kept parts (first_world setup [] empty 0 (formatted_past setup.params calls)) (left_by_format (disk made) end)
    (begun_here k disk runs over counts_now only_now setup keys word_of slot kept (left_by_format (disk made) end) empty calls parts begins from) from
