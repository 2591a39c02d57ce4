-- Between what an end makes and what it writes: what the writing asks for, and what the run is at behind it.
use Rattle.std.specs.Prelude.{◌≡◌, ℕ, suc, ◌+◌, ◌*◌, ◌<◌, ◌≤◌, ◌^◌, false, List, [], ◌∷◌, ◌++◌, Option, Some, length}
use Rattle.std.proofs.Common.{arith, sym, ap, ◌∙◌, subst}
use Rattle.ob_base.specs.declared.params.Params.{Params}
use Rattle.ob_base.specs.declared.value.Write.{Write}
use Rattle.ob_base.specs.Layout.{checkpoint_cells}
use Rattle.ob_base.specs.Planned.{most_jobs}
use Rattle.ob_base.specs.Tree.{buckets, width}
use Rattle.ob_tables.specs.Content.{Content, Obeys}
use Rattle.ob_end.specs.EndWrites.{AreSealedFrom, IsEndOfRing, all_seals, content_left, end_write_notes, rows_left}
use Rattle.ob_end.specs.Lifts.{lift_cells, lift_notes}
use Rattle.ob_tables.specs.Buckets.{Buckets, is_lifted}
use Rattle.ob_stand.proofs.Reading.{rings_stand}
use Rattle.ob_stand.specs.Table.{flat_of}
use Rattle.ob_fetch.specs.declared.run.Run.{Run}
use Rattle.ob_fetch.specs.Fetches.{RunIsAt, RunsAt}
use Rattle.ob_fetch.proofs.FetchLaws.{cells_same, settled_then}
use Rattle.ob_fetch.proofs.NextLaws.{stands_listed}
use Rattle.ob_log.specs.Logs.{BatchRecord}
use Rattle.ob_recover.specs.Repeats.{BatchIsShown, content_of_ring, table_after_records}
use Rattle.ob_ring.specs.FlatTable.{FlatTable}
use Rattle.ob_ring.specs.Ring.{Kept, StandsFor}
use Rattle.ob_ring.specs.Writing.{entries_after, write_at}
use Rattle.ob_recover.specs.Ends.{gates_ended}
use Rattle.ob_recover.specs.Known.{PlansFrom, fills_with_lifts, public_of_kept}
use Rattle.ob_schedule.specs.Phases.{Reads, end_phases, phases_of}
use Rattle.ob_schedule.specs.Schedule.{Fills, Public, end_notes}
use Rattle.ob_seal.specs.Sealing.{Sealing}
use Rattle.ob_seal.specs.declared.keys.Keys.{Keys}
use Rattle.ob_stand.specs.Ends.{RingEnd, standing_after}
use Rattle.ob_stand.specs.Stands.{OneOf, RingStanding, Stands}
use Rattle.ob_stand.proofs.EndLaws.{end_spares}
use Rattle.ob_store.specs.Calls.{Keeps, Notes}
use Rattle.ob_store.specs.Lines.{Trace}
use Rattle.ob_store.specs.Told.{events_of}
use Rattle.ob_store.specs.declared.event.Event.{Event}
use Rattle.ob_store.specs.Disk.{Disk, Image}
use Rattle.ob_store.specs.Images.{IsSynced, LeavesOnly, Passes, Same}
use Rattle.ob_store.specs.declared.watch.Note.{Note}
use Rattle.ob_store.proofs.Moments.{leaves_of, then_on}
use Rattle.ob_tables.specs.Kept.{Held, entry_at}
use Rattle.ob_tables.specs.declared.entry.Entry.{Entry}
use Rattle.ob_tables.specs.declared.tables.Tables.{Tables}
use Rattle.ob_stand.specs.Values.{Values, with_entries}
use Rattle.ob_twin.specs.Opening.{is_closed_first}
use Rattle.ob_twin.specs.Orders.{set_notes}
use Rattle.ob_twin.specs.Register.{place_of}
use Rattle.ob_twin.specs.declared.gates.Gates.{Gates}
use Rattle.ob_end.specs.EndRuns.{AreEntriesWritten, IsAtContent, IsEndMade, IsEndReady, LeadsOn, MayEndEpoch, TakeBucketWords, end_writes, rows_ended, seals_for_end, table_ended}
use Rattle.ob_recover.specs.Fits.{IsPlannerFit}
use Rattle.ob_end.proofs.EndLaws.{IsEndWith, content_is, end_with, runs_then}
use Rattle.ob_end.proofs.MadeLaws as made_laws
use Rattle.ob_end.proofs.Moments.{made_but}
use Rattle.ob_end.proofs.ToldEnds.{has_written}
use Rattle.ob_end.specs.Moments.{IsEndMadeButSet, end_setting}
use Rattle.ob_end.proofs.ScheduledEnds as scheduled

module _ (run mid : Run) (disk : Disk) (writes : List Write) (words : List ℕ) (kept : mid ≡ record run { drawn = mid.drawn; ring = mid.ring; jobs = mid.jobs; words = mid.words }) (ready : IsEndReady run)
    (made : IsEndMade (run.sealer).keys disk writes words (run.sealer).generation run.drawn (run.sealer).next run.ring mid.ring)
    (low : (i : ℕ) → i < length writes → (write_at writes i).key < (run.params).keys) (short : (i : ℕ) (value : List ℕ) → i < length writes → (write_at writes i).value ≡ Some value → length value ≤ 64)
    (may : (t : FlatTable) → StandsFor run.ring t → MayEndEpoch run.params t run.epoch run.drawn (run.sealer).next (end_writes run.params writes words (run.sealer).generation run.drawn)) where
  abbrev g : ℕ
  g = (run.sealer).generation

  abbrev fit : IsPlannerFit run.ring
  fit = ready.planner

  ring_p : (run.ring).p ≡ run.params
  ring_p = (ready.ready).params

  low_at : (i : ℕ) → i < length writes → (write_at writes i).key < ((run.ring).p).keys
  low_at i lt = subst (λ (q : Params). (write_at writes i).key < q.keys) (sym ring_p) (low i lt)

  few_fit : rows_ended (run.ring).p fit.table (end_writes (run.ring).p writes words g run.drawn) ≤ ((run.ring).p).room
  few_fit = subst (λ (q : Params). rows_ended q fit.table (end_writes q writes words g run.drawn) ≤ q.room) (sym ring_p) (may fit.table fit.stands).rows

  small : g < 2 ^ 64
  small = let low = (ready.ready).generation in omega (arith, low)

  pub same_sealer : mid.sealer ≡ run.sealer
  same_sealer = ap (λ (m : Run). m.sealer) kept

  pub same_params : mid.params ≡ run.params
  same_params = ap (λ (m : Run). m.params) kept

  pub mid_p : (mid.ring).p ≡ run.params
  mid_p = made_laws.new_p (run.sealer).keys disk writes words g run.drawn (run.sealer).next run.ring mid.ring made low_at short ∙ ring_p

  -- ---- what is asked for

  pub params_are : mid.params ≡ (mid.ring).p
  params_are = same_params ∙ sym mid_p

  pub epoch_low : suc run.epoch < 2 ^ 62
  epoch_low = ((may fit.table fit.stands).has).epochs

  pub generation_low : (mid.sealer).generation < 2 ^ 62
  generation_low = subst (λ (x : Sealing). x.generation < 2 ^ 62) (sym same_sealer) (ready.ready).generation

  pub seals_are : (t : FlatTable) → StandsFor run.ring t → all_seals mid.ring ≡ seals_for_end run.params t
  seals_are t stands = made_laws.seals_are_for (run.sealer).keys disk writes words g run.drawn (run.sealer).next run.ring mid.ring made low_at short t stands ∙ ap (λ (q : Params). seals_for_end q t) ring_p

  pub room_left : (mid.sealer).next + all_seals mid.ring ≤ 2 ^ 62
  room_left = subst (λ (x : Sealing). x.next + all_seals mid.ring ≤ 2 ^ 62) (sym same_sealer)
      (subst (λ n. (run.sealer).next + n ≤ 2 ^ 62) (sym (seals_are fit.table fit.stands)) (may fit.table fit.stands).seals)

  pub sealed_from : AreSealedFrom mid.ring (mid.sealer).generation (mid.sealer).next
  sealed_from = subst (λ (x : Sealing). AreSealedFrom mid.ring x.generation x.next) (sym same_sealer)
      (made_laws.sealed (run.sealer).keys disk writes words g run.drawn (run.sealer).next run.ring mid.ring made low_at short)

  pub obeys_left : Obeys (mid.ring).p (content_left mid.ring)
  obeys_left = made_laws.obeys (run.sealer).keys disk writes words g run.drawn (run.sealer).next run.ring mid.ring made low_at short fit small few_fit

  pub sheet_long : length mid.sheet ≡ 96 * checkpoint_cells (mid.ring).p
  sheet_long = ap (λ (m : Run). length m.sheet) kept ∙ ready.sheet ∙ ap (λ (q : Params). 96 * checkpoint_cells q) (sym mid_p)

  -- ---- as the store knows it

  module _ (c : Content) (rs : List BatchRecord) (from : PlansFrom run.params g run.gates run.ring c rs) where
    abbrev t1 : FlatTable
    t1 = table_after_records run.params (flat_of run.params c) rs

    few1 : rows_ended run.params t1 (end_writes run.params writes words g run.drawn) ≤ (run.params).room
    few1 = (may t1 (stands_listed run.ring t1 (from.planner).table)).rows

    -- the lifts of the planner's table, the writes and the register, as notes and as phases
    abbrev steps : List Note
    steps = end_write_notes mid.ring (suc run.epoch) ++ set_notes (is_closed_first (run.gates).epoch (place_of (suc run.epoch))) 5 (suc run.epoch)

    abbrev known : Public
    known = public_of_kept run.params c rs run.epoch run.gates

    abbrev fills : Fills
    fills = fills_with_lifts run.params c rs

    pub whole : (lift_notes run.params (run.ring.metas).versions fit.table ++ steps ≡ end_notes run.params known fills) × (Reads (lift_cells run.params (run.ring.metas).versions fit.table) ∷ phases_of steps ≡ end_phases run.params known fills)
    whole = (
      scheduled.whole_at (run.sealer).keys disk writes words g run.drawn (run.sealer).next run.ring mid.ring made low_at short fit small few_fit run.params ring_p run.epoch run.gates c rs from few1 fit.table fit.stands,
      scheduled.phases_whole (run.sealer).keys disk writes words g run.drawn (run.sealer).next run.ring mid.ring made low_at short fit small few_fit run.params ring_p run.epoch run.gates c rs from few1 fit.table fit.stands,
    )

    pub leads_then : (last : Kept) → last ≡ record mid.ring { stash = last.stash } → (last.stash).rows ≡ rows_left mid.ring → (last.stash).room ≡ (mid.ring.stash).room
        → LeadsOn run.params g c rs run.epoch run.gates last (gates_ended run.gates run.epoch)
    leads_then last stash rows room = scheduled.leads_on (run.sealer).keys disk writes words g run.drawn (run.sealer).next run.ring mid.ring made low_at short fit small few_fit run.params ring_p run.epoch run.gates c rs from few1 last stash rows room

  -- the lifts were read, and then these writes made: all but the set of the register
  pub made_set : (most : ℕ) (a m b : Option (List Event)) (k j : Trace) → BatchIsShown most (lift_cells run.params (run.ring.metas).versions fit.table) (lift_notes run.params (run.ring.metas).versions fit.table) a m k j
      → Notes (events_of (end_write_notes mid.ring (mid.epoch + 1))) m b → IsEndMadeButSet most run a b
  made_set most a m b k j told seen c rs from =
      let one : mid.epoch + 1 ≡ suc run.epoch = (let same : mid.epoch ≡ run.epoch = ap (λ (m : Run). m.epoch) kept in omega (arith, same)) in
      made_but most (lift_cells run.params (run.ring.metas).versions fit.table) (lift_notes run.params (run.ring.metas).versions fit.table) (end_write_notes mid.ring (suc run.epoch)) (end_setting run) (end_phases run.params (known c rs from) (fills c rs from)) a m b k j
      (has_written most mid.ring (suc run.epoch)) (whole c rs from).1 told (subst (λ (n : ℕ). Notes (events_of (end_write_notes mid.ring n)) m b) one seen)

  -- ---- behind it

  module _ (last : Kept) (stash : last ≡ record mid.ring { stash = last.stash }) (rows : (last.stash).rows ≡ rows_left mid.ring) where
    pub fit_last : IsPlannerFit last
    fit_last = made_laws.fit_then (run.sealer).keys disk writes words g run.drawn (run.sealer).next run.ring mid.ring made low_at short fit small few_fit last stash rows

    pub last_p : last.p ≡ run.params
    last_p = ap (λ (r : Kept). r.p) stash ∙ mid_p

    obeys_here : Obeys run.params (content_left mid.ring)
    obeys_here = subst (λ (q : Params). Obeys q (content_left mid.ring)) mid_p obeys_left

    -- its tables are a content that obeys, and stand for that
    pub content_last : IsAtContent run.params last
    content_last =
        let obeys : Obeys run.params (content_of_ring last) = subst (λ (c : Content). Obeys run.params c) (sym (content_is run.params mid.ring last stash rows mid_p)) obeys_here in
        let none = made_laws.none_lifted (run.sealer).keys disk writes words g run.drawn (run.sealer).next run.ring mid.ring made low_at short fit small few_fit in
        let tables : Tables Buckets = record { book = last.book; metas = last.metas; stash = last.stash; counter = last.counter } in
        record {
          obeys = obeys;
          stands = subst (λ (q : Params). StandsFor (record last { p = q }) (flat_of run.params (content_of_ring last))) (sym last_p)
              (rings_stand run.params tables obeys (λ u. ap (λ (r : Kept). is_lifted r.metas u) stash ∙ none u));
        }

    -- so the run is ready again
    pub ready_then : (gates : Gates) (later : Sealing) (sheet : List ℕ) → later.generation ≡ (mid.sealer).generation → length sheet ≡ length mid.sheet
        → ((mid.jobs).room ≡ (run.jobs).room) × ((mid.jobs).place_room ≡ (run.jobs).place_room) → length (mid.words).items ≡ length (run.words).items
        → IsEndReady (record { params = mid.params; gates = gates; sealer = later; drawn = mid.drawn; epoch = mid.epoch + 1; left = (mid.params).batches; spent = false; ring = last; jobs = mid.jobs; sheet = sheet; words = mid.words })
    ready_then gates later sheet gs long rooms many = record {
      ready = record {
        params = last_p ∙ sym same_params;
        rooms = (rooms.0 ∙ (ready.ready).rooms.0 ∙ ap most_jobs (sym same_params), rooms.1 ∙ (ready.ready).rooms.1 ∙ ap (λ (q : Params). q.places) (sym same_params));
        words = subst (λ (q : Params). q.places ≤ length (mid.words).items) (sym same_params) (let room = (ready.ready).words in omega (arith, room, many));
        few = omega arith;
        small = (let same : mid.epoch ≡ run.epoch = ap (λ (m : Run). m.epoch) kept in let low = epoch_low in omega (arith, same, low));
        generation = (let low = generation_low in omega (arith, gs, low));
        table = (fit_last.table, fit_last.stands);
      };
      own_words = subst (λ (q : Params). q.writes ≤ length (mid.words).items) (sym same_params) (let room = ready.own_words in omega (arith, room, many));
      all_words = subst (λ (q : Params). buckets q * width q ≤ length (mid.words).items) (sym same_params) (let room = ready.all_words in omega (arith, room, many));
      sheet = long ∙ sheet_long ∙ ap (λ (q : Params). 96 * checkpoint_cells q) (sym params_are);
      planner = fit_last;
    }

  -- ---- the tables then

  module _ (last : Kept) (stash : last ≡ record mid.ring { stash = last.stash }) where
    pub table_last : (t : FlatTable) → StandsFor run.ring t → StandsFor last (table_ended run.params t (end_writes run.params writes words g run.drawn))
    table_last t stands =
        subst (λ (q : Params). StandsFor last (table_ended q t (end_writes q writes words g run.drawn))) ring_p
        (made_laws.table_then (run.sealer).keys disk writes words g run.drawn (run.sealer).next run.ring mid.ring made low_at short t stands last stash)

    pub entries_last : AreEntriesWritten (end_writes run.params writes words g run.drawn) run.ring last
    entries_last k =
        ap (λ (r : Kept). entry_at r.book k) stash
        ∙ made_laws.entries_then (run.sealer).keys disk writes words g run.drawn (run.sealer).next run.ring mid.ring made low_at short k
        ∙ ap (λ (q : Params). entries_after (λ i. entry_at (run.ring).book i) (end_writes q writes words g run.drawn) k) ring_p

    pub filled_last : (t : FlatTable) → StandsFor run.ring t → TakeBucketWords run.params t words g (run.sealer).next run.ring last
    filled_last t stands =
        subst (λ (r : Kept). TakeBucketWords run.params t words g (run.sealer).next run.ring r) (sym stash)
        (subst (λ (q : Params). TakeBucketWords q t words g (run.sealer).next run.ring (record mid.ring { stash = last.stash })) ring_p (at_mid last.stash))
      where
        at_mid : (held : Held) → TakeBucketWords (run.ring).p t words g (run.sealer).next run.ring (record mid.ring { stash = held })
        at_mid held =
            let f = made_laws.filled_then (run.sealer).keys disk writes words g run.drawn (run.sealer).next run.ring mid.ring made low_at short t stands in
            record { within = f.within; filled = f.filled }

  -- ---- where the store stood

  module _ (s : RingStanding) (was : RunIsAt run s disk) (mids : Disk) (keeps : Keeps disk mids) (passes : Passes Same disk mids) where
    abbrev ws : List (Write × Entry)
    ws = end_writes run.params writes words g run.drawn

    abbrev t0 : FlatTable
    t0 = table_after_records run.params (flat_of run.params s.content) s.records

    few0 : rows_ended run.params t0 ws ≤ (run.params).room
    few0 = (may t0 (stands_listed run.ring t0 ((was.runs).planner).table)).rows

    the_end : IsEndWith s g mid.ring ws
    the_end = end_with (run.sealer).keys disk writes words g run.drawn (run.sealer).next run.ring mid.ring made low_at short fit small few_fit run.params ring_p s was.tells was.stands (was.runs).planner (was.runs).read (was.runs).generation_is few0

    pub end : RingEnd
    end = the_end.end

    pub is_end : IsEndOfRing s end (mid.sealer).generation mid.ring
    unfolding end
    is_end = subst (λ (x : Sealing). IsEndOfRing s the_end.end x.generation mid.ring) (sym same_sealer) the_end.is

    pub map_is : end.map ≡ with_entries s.map ws
    unfolding end
    map_is = the_end.map

    pub tells_mid : mids.tells
    tells_mid = keeps.tells was.tells

    pub synced_mid : IsSynced mids
    synced_mid = settled_then disk mids was.tells was.settled keeps passes

    pub stands_mid : Stands (mid.sealer).keys (mid.ring).p s mids.cells
    stands_mid =
        subst (λ (x : Sealing). Stands x.keys (mid.ring).p s mids.cells) (sym same_sealer)
        (subst (λ (q : Params). Stands (run.sealer).keys q s mids.cells) (sym mid_p)
        (subst (λ (c : Image). Stands (run.sealer).keys run.params s c) (sym (cells_same disk mids was.tells keeps)) was.stands))

    pub epoch_at : run.epoch + 1 ≡ suc s.epoch
    epoch_at = omega (arith, (was.runs).epoch_is)

    pub mid_epoch_at : mid.epoch + 1 ≡ suc s.epoch
    mid_epoch_at = ap (λ (m : Run). m.epoch + 1) kept ∙ epoch_at

    -- with the reads before it
    module _ (new : Disk) (only : (c : Image) → disk.left_since disk.moment c → disk.may_leave c) where
      with_reads : (P : Image → Type 0) → ((c : Image) → Stands (run.sealer).keys run.params s c → P c) → LeavesOnly mids new P → LeavesOnly disk new P
      with_reads P as_old leaves = then_on disk mids new P
          (leaves_of Same P P disk mids passes only (λ c left. as_old c (end_spares (run.sealer).keys run.params s c disk.cells (λ k off. was.settled c left k) was.stands)) (λ tells. as_old disk.cells was.stands) (λ c d before same. subst P (sym same) before) (λ c before. before))
          leaves

      pub refused_leaves : LeavesOnly mids new (Stands (mid.sealer).keys (mid.ring).p s) → LeavesOnly disk new (Stands (run.sealer).keys run.params s)
      refused_leaves leaves = with_reads (Stands (run.sealer).keys run.params s) (λ c before. before)
          (subst (λ (x : Sealing). LeavesOnly mids new (Stands x.keys run.params s)) same_sealer (subst (λ (q : Params). LeavesOnly mids new (Stands (mid.sealer).keys q s)) mid_p leaves))

      module _ (last : Kept) (stash : last ≡ record mid.ring { stash = last.stash }) (rows : (last.stash).rows ≡ rows_left mid.ring) where
        abbrev then : RingStanding
        then = record { epoch = suc s.epoch; generation = s.generation; map = with_entries s.map ws; content = content_of_ring last; records = [] }

        then_is : standing_after s end ≡ then
        then_is =
            ap (λ (m : Values). record { epoch = suc s.epoch; generation = s.generation; map = m; content = end.content; records = [] }) map_is
            ∙ ap (λ (c : Content). record { epoch = suc s.epoch; generation = s.generation; map = with_entries s.map ws; content = c; records = [] }) (is_end.content ∙ sym (content_is run.params mid.ring last stash rows mid_p))

        -- as the run names it
        pub either_as : (a : Disk) → LeavesOnly a new (OneOf (mid.sealer).keys (mid.ring).p s (standing_after s end)) → LeavesOnly a new (OneOf (run.sealer).keys run.params s then)
        either_as a leaves =
            subst (λ (x : RingStanding). LeavesOnly a new (OneOf (run.sealer).keys run.params s x)) then_is
            (subst (λ (x : Sealing). LeavesOnly a new (OneOf x.keys run.params s (standing_after s end))) same_sealer (subst (λ (q : Params). LeavesOnly a new (OneOf (mid.sealer).keys q s (standing_after s end))) mid_p leaves))

        pub stands_then : (later : Sealing) → later.keys ≡ (mid.sealer).keys → Stands (mid.sealer).keys (mid.ring).p (standing_after s end) new.cells → Stands later.keys mid.params then new.cells
        stands_then later ks stands =
            subst (λ (k : Keys). Stands k mid.params then new.cells) (sym ks)
            (subst (λ (q : Params). Stands (mid.sealer).keys q then new.cells) (sym params_are)
            (subst (λ (x : RingStanding). Stands (mid.sealer).keys (mid.ring).p x new.cells) then_is stands))

        pub runs_last : (later : Sealing) (epoch left : ℕ) → later.generation ≡ (mid.sealer).generation → epoch ≡ run.epoch + 1 → left ≡ (mid.params).batches → (last.stash).room ≡ (mid.ring.stash).room
            → RunsAt later.keys mid.params epoch later.generation left last then new.cells
        runs_last later epoch left gs at all room =
            subst (λ (q : Params). RunsAt later.keys q epoch later.generation left last then new.cells) (sym same_params)
            (runs_then run.params mid.ring last stash rows mid_p obeys_at (made_laws.none_lifted (run.sealer).keys disk writes words g run.drawn (run.sealer).next run.ring mid.ring made low_at short fit small few_fit) room_at
            later.keys s new.cells (with_entries s.map ws) epoch later.generation left (at ∙ epoch_at) (gs ∙ ap (λ (x : Sealing). x.generation) same_sealer ∙ (was.runs).generation_is) (all ∙ ap (λ (q : Params). q.batches) same_params))
          where
            obeys_at : Obeys run.params (content_left mid.ring)
            obeys_at = subst (λ (q : Params). Obeys q (content_left mid.ring)) mid_p obeys_left

            room_at : (last.stash).room ≡ (run.params).keys
            room_at = room ∙ made_laws.room_kept (run.sealer).keys disk writes words g run.drawn (run.sealer).next run.ring mid.ring made low_at short ∙ ((was.runs).planner).room
