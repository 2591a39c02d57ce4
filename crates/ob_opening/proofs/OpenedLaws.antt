-- What stands behind what was found: the planner, the register, the images.
use Rattle.std.proofs.Common.{◌≡◌, inl, inr, ⊎_elim, ℕ, suc, ◌*◌, ◌%◌, ◌+◌, Bool, List, [], ◌∷◌, ◌++◌, length, Option, Result, Err, sym, ◌∙◌, ap, subst, arith}
use Rattle.std.proofs.lemmas.List.{map-append}
use mathlib.Core.Path.{fun_ext}
use Rattle.ob_base.specs.declared.params.Params.{Params}
use Rattle.ob_base.specs.declared.fault.Fault.{Fault}
use Rattle.ob_base.specs.Layout.{checkpoint_cells, log_cell, record_cells}
use Rattle.ob_store.specs.declared.event.Event.{Event}
use Rattle.ob_store.specs.declared.watch.Note.{Note}
use Rattle.ob_store.specs.declared.watch.Note.TheVariants as note
use Rattle.ob_store.specs.Calls.{GoesOn, Keeps, Notes}
use Rattle.ob_store.specs.Disk.{Disk, Image}
use Rattle.ob_store.specs.Images.{IsSynced, LeavesOnly, Passes, Same}
use Rattle.ob_store.specs.Lines.{Trace}
use Rattle.ob_store.specs.Runs.{from_on}
use Rattle.ob_store.specs.Told.{Tells, events_of}
use Rattle.ob_store.proofs.Doing.{events_join, first_behind, tells_then}
use Rattle.ob_store.proofs.Events.{joined}
use Rattle.ob_store.proofs.Moments.{then_on, weakened}
use Rattle.ob_seal.specs.declared.keys.Keys.{Keys}
use Rattle.ob_twin.specs.Keyed.{tagging}
use Rattle.ob_twin.specs.Opening.{is_closed_first}
use Rattle.ob_twin.specs.Register.{KeepsAt, OldOrNew, StandsAt, place_of}
use Rattle.ob_twin.specs.Stages.{AreSpans}
use Rattle.ob_twin.proofs.Stages.{spans_more}
use Rattle.ob_check.specs.Written.{area_of}
use Rattle.ob_start.specs.Beginning.{BeginsFrom, IsBeginStage, IsBegun, IsSyncedLeft, ReadsThenSync}
use Rattle.ob_start.specs.Orders.{registers_notes}
use Rattle.ob_start.proofs.Early.{AreRead, noted_reads, reads_called}
use Rattle.ob_start.proofs.Moments.{stood_before}
use Rattle.ob_tables.specs.Content.{content_of}
use Rattle.ob_ring.specs.Ring.{Kept}
use Rattle.ob_stand.specs.Stands.{OneOf, RingStanding, Stands, with_generation}
use Rattle.ob_stand.proofs.Frames.{stands_all}
use Rattle.ob_stand.proofs.OpenLaws.{open_begins}
use Rattle.ob_recover.specs.declared.found.Found.{Found}
use Rattle.ob_recover.specs.Finds.{IsFoundInRing, ObeysFound, finding_notes}
use Rattle.ob_recover.specs.Repeats.{IsPlannerOf, IsReplayed}
use Rattle.ob_recover.proofs.FindLaws.{keeps_both, number_found, reads_both}
use Rattle.ob_opening.specs.OpeningRuns.{BeginsAt, BeginsFirst, BeginsInStages, OpensFrom, RepeatsBehind}
use Rattle.ob_opening.proofs.Movings.{kept_in, leaves_on}

-- ---- the planner

pub planner_of : (p : Params) (found : Found) (ring : Kept) (left : ℕ) → ObeysFound p found → IsReplayed p found ring left → IsPlannerOf p (content_of found.tables) found.records ring
planner_of p found ring left obeys replayed =
    let r = replayed.repeated in
    record {
      params = r.params;
      table = r.table;
      entries = r.entries;
      seals = record { homes = r.seals.homes; generations = r.seals.generations; bases = r.seals.bases; ranks = r.seals.ranks; order = r.seals.order ∙ obeys.idle.order };
      counter = r.counter;
      room = r.room ∙ obeys.idle.room;
    }

-- ---- the register

-- what is found is where it stood
pub generation_is : (keys : Keys) (p : Params) (image : Image) (found : Found) (h : ℕ) → IsFoundInRing keys p image found → StandsAt (tagging keys) 1 image h → found.generation ≡ h
generation_is keys p image found h is stands = number_found keys 1 image h found.generation stands is.registers.generation_whole is.registers.generation_counts

pub found_same : (keys : Keys) (p : Params) (found : Found) (a b : Image) → ((k : ℕ) → b k ≡ a k) → IsFoundInRing keys p a found → IsFoundInRing keys p b found
found_same keys p found a b same is = subst (λ (image : Image). IsFoundInRing keys p image found) (sym (fun_ext (λ k. same k))) is

pub register_same : (keys : Keys) (n : ℕ) (a b : Image) → ((k : ℕ) → b k ≡ a k) → StandsAt (tagging keys) 1 a n → StandsAt (tagging keys) 1 b n
register_same keys n a b same stands = subst (λ (image : Image). StandsAt (tagging keys) 1 image n) (sym (fun_ext (λ k. same k))) stands

-- where it stands decides
one_of : (keys : Keys) (p : Params) (s : RingStanding) (d : Image) → Stands keys p s d → (c : Image) → OldOrNew (tagging keys) 1 d s.generation (suc s.generation) c → OneOf keys p s (with_generation s (suc s.generation)) c
one_of keys p s d stands c either = ⊎_elim
    (λ kept. inl ((open_begins keys p s (suc s.generation) c d stands).old kept))
    (λ kept. inr ((open_begins keys p s (suc s.generation) c d stands).new (omega arith) kept))
    either

pub next_stands : (keys : Keys) (p : Params) (s : RingStanding) (d c : Image) → Stands keys p s d → KeepsAt (tagging keys) 1 d (suc s.generation) c → Stands keys p (with_generation s (suc s.generation)) c
next_stands keys p s d c stands kept = (open_begins keys p s (suc s.generation) c d stands).new (omega arith) kept

-- ---- what is called for

-- all that is done to find a store is reads
pub finding_read : (p : Params) (epoch : ℕ) (a b : Option (List Event)) → Notes (events_of (finding_notes p epoch)) a b → AreRead a b
finding_read p epoch a b seen =
    let checkpoint : List ℕ = from_on (area_of p epoch) (checkpoint_cells p) in
    let log : List ℕ = from_on (log_cell p (suc epoch % 2) 0 0) (p.batches * (record_cells p + 1)) in
    noted_reads (1 ∷ 2 ∷ 3 ∷ 4 ∷ 5 ∷ 6 ∷ 7 ∷ 8 ∷ checkpoint ++ log) a b
    (subst (λ (ns : List Note). Notes (events_of ns) a b) (ap (λ (ns : List Note). registers_notes ++ ns) (sym (map-append (λ cell. note.Read cell) checkpoint log))) seen)

-- ---- what a crash leaves

module _ {S : Type 0} (disk : S → Disk) (keys : Keys) (p : Params) where
  -- the register says it all
  opens_by : (old synced new : S) → ReadsThenSync (disk old) (disk synced) → Passes Same (disk old) (disk synced) → Keeps (disk old) (disk synced) → ((disk old).tells → IsSynced (disk synced))
      → ((g : ℕ) → (disk old).tells → StandsAt (tagging keys) 1 (disk old).cells g → LeavesOnly (disk synced) (disk new) (OldOrNew (tagging keys) 1 (disk synced).cells g (suc g))) → ((disk old).tells → BeginsInStages disk keys p old synced new)
      → OpensFrom disk keys p old new
  opens_by old synced new called until keeps settled register in_stages = record {
    synced = synced;
    called = called;
    until = until;
    keeps = keeps;
    settled = settled;
    register = register;
    since = λ s tells stands.
        weakened (disk synced) (disk new) (OldOrNew (tagging keys) 1 (disk synced).cells s.generation (suc s.generation)) (OneOf keys p s (with_generation s (suc s.generation)))
        (one_of keys p s (disk synced).cells (stands_all keys p s (disk synced).cells (disk old).cells (keeps.cells tells) stands))
        (register s.generation tells stands.generation);
    in_stages = in_stages;
  }

  module _ (found : Found) (old : S) (is : (disk old).tells → IsFoundInRing keys p (disk old).cells found) where
    number : (h : ℕ) → (disk old).tells → StandsAt (tagging keys) 1 (disk old).cells h → found.generation ≡ h
    number h tells stands = generation_is keys p (disk old).cells found h (is tells) stands

    -- a begin
    pub begun_opens : (new : S) → BeginsFrom disk keys found.generation old new → OpensFrom disk keys p old new
    begun_opens new b = opens_by old b.synced new b.called b.until b.keeps b.settled
        (λ h tells stands.
        subst (λ n. LeavesOnly (disk b.synced) (disk new) (OldOrNew (tagging keys) 1 (disk b.synced).cells n (suc n))) (number h tells stands)
        (b.since tells (subst (λ n. StandsAt (tagging keys) 1 (disk old).cells n) (sym (number h tells stands)) stands)))
        (λ tells. record { found = found; found_in = is tells; ends = b.ends; stages = λ stands. b.stages tells stands found.gates.generation (is tells).generation_gates })

    -- and then reads, of a store that was settled with the next generation
    module _ (mid new : S) (b : BeginsFrom disk keys found.generation old mid) (whole : IsBegun disk keys found.generation old mid b) (only : (c : Image) → (disk mid).left_since (disk mid).moment c → (disk mid).may_leave c)
        (counts : (c : Image) → (disk mid).may_leave c → (disk mid).left_since (disk mid).moment c) (reads : Passes Same (disk mid) (disk new)) where
      abbrev closes : Bool
      closes = is_closed_first found.gates.generation (place_of (suc found.generation))

      abbrev Stage : ℕ → S × S → Type 0
      Stage stage x = IsBeginStage disk keys closes (suc found.generation) b.synced stage x

      -- the images are those that were left before
      repeats_stage : Stage 3 (mid, mid) → Stage 3 (mid, new)
      repeats_stage last = record {
        made = last.made;
        left = λ lacking is image since.
            ⊎_elim
            (λ before. last.left lacking is image before)
            (λ now. let (d, may, same) = now in subst (λ (i : Image). IsSyncedLeft keys (suc found.generation) (disk b.synced).cells lacking i) (sym same) (last.left lacking is d (counts d may)))
            (reads.since (disk mid).moment image (λ part. omega arith) since);
      }

      all_stages : (disk old).tells → StandsAt (tagging keys) 1 (disk old).cells found.generation → AreSpans Stage 0 b.synced (b.ends ++ new ∷ []) new
      all_stages tells stands =
          let known = (is tells).generation_gates in
          let at : 3 ≡ 0 + length b.ends = (let three = whole.three in omega (arith, three)) in
          spans_more Stage 0 b.synced b.ends mid new (b.stages tells stands found.gates.generation known)
          (subst (λ (n : ℕ). Stage n (mid, new)) at (repeats_stage (whole.behind tells stands found.gates.generation known)))

      pub opens_then : ((disk old).tells → IsSynced (disk mid)) → ((g : ℕ) → (disk old).tells → StandsAt (tagging keys) 1 (disk old).cells g → KeepsAt (tagging keys) 1 (disk old).cells (suc g) (disk mid).cells) → OpensFrom disk keys p old new
      unfolding begun_opens opens_by
      opens_then durable kept =
          let o : OpensFrom disk keys p old mid = begun_opens mid b in
          opens_by old o.synced new o.called o.until o.keeps o.settled
          (λ g tells stands.
          let P : Image → Type 0 = OldOrNew (tagging keys) 1 (disk o.synced).cells g (suc g) in
          let now = kept g tells stands in
          let here : KeepsAt (tagging keys) 1 (disk o.synced).cells (suc g) (disk mid).cells = record { stands = now.stands; rest = λ k off. now.rest k off ∙ sym (o.keeps.cells tells k) } in
          then_on (disk o.synced) (disk mid) (disk new) P (o.register g tells stands)
          (leaves_on (disk mid) (disk new) P only reads (λ c left. inr (kept_in keys (disk mid) (disk o.synced).cells (suc g) (durable tells) here c left)) (λ told. inr here)))
          (λ tells. record { found = found; found_in = is tells; ends = b.ends ++ new ∷ []; stages = λ stands. all_stages tells stands })

  -- reads before it
  stages_behind : (old mid synced new : S) → Keeps (disk old) (disk mid) → (disk old).tells → BeginsInStages disk keys p mid synced new → BeginsInStages disk keys p old synced new
  stages_behind old mid synced new keeps tells s = record {
    found = s.found;
    found_in = found_same keys p s.found (disk mid).cells (disk old).cells (λ k. sym (keeps.cells tells k)) s.found_in;
    ends = s.ends;
    stages = λ stands. s.stages (register_same keys s.found.generation (disk old).cells (disk mid).cells (keeps.cells tells) stands);
  }

  pub opens_behind : (old mid new : S) → AreRead (disk old).seen (disk mid).seen → Passes Same (disk old) (disk mid) → Keeps (disk old) (disk mid) → OpensFrom disk keys p mid new → OpensFrom disk keys p old new
  opens_behind old mid new read passes keeps o = opens_by old o.synced new (reads_called (disk old) (disk mid) (disk o.synced) read o.called) (reads_both (disk old) (disk mid) (disk o.synced) passes o.until) (keeps_both (disk old) (disk mid) (disk o.synced) keeps o.keeps) (λ tells. o.settled (keeps.tells tells))
      (λ g tells stands. o.register g (keeps.tells tells) (register_same keys g (disk old).cells (disk mid).cells (keeps.cells tells) stands))
      (λ tells. stages_behind old mid o.synced new keeps tells (o.in_stages (keeps.tells tells)))

  -- ---- the generation, made sure of

  pub begins_then : (steps : List Note) (g : ℕ) (old mid new : S) (from : BeginsFrom disk keys g old mid) → IsBegun disk keys g old mid from → ((disk old).tells → IsSynced (disk mid)) → ((disk old).tells → StandsAt (tagging keys) 1 (disk old).cells g → KeepsAt (tagging keys) 1 (disk old).cells (suc g) (disk mid).cells)
      → Notes (events_of steps) (disk old).seen (disk mid).seen → GoesOn (disk mid) (disk new) → Keeps (disk mid) (disk new) → Passes Same (disk mid) (disk new) → BeginsAt disk keys steps g old new
  begins_then steps g old mid new from whole durable kept seen goes keeps passes = record {
    between = mid;
    sure = λ tells stands c left. (kept_in keys (disk mid) (disk old).cells (suc g) (durable tells) (kept tells stands) c left).stands;
    begun = seen;
    from = from;
    whole = whole;
    settled = durable;
    cells = kept;
    later = goes;
    keeps = keeps;
    reads = passes;
  }

  pub begins_behind : (xs ys : List Note) (g : ℕ) (old mid new : S) → Keeps (disk old) (disk mid) → Passes Same (disk old) (disk mid) → Notes (events_of xs) (disk old).seen (disk mid).seen → AreRead (disk old).seen (disk mid).seen → BeginsAt disk keys ys g mid new → BeginsAt disk keys (xs ++ ys) g old new
  begins_behind xs ys g old mid new keeps passes reads read b = record {
    between = b.between;
    sure = λ tells stands. b.sure (keeps.tells tells) (register_same keys g (disk old).cells (disk mid).cells (keeps.cells tells) stands);
    begun = subst (λ (es : List Event). Notes es (disk old).seen (disk b.between).seen) (sym (events_join xs ys)) (joined (events_of xs) (events_of ys) (disk old).seen (disk mid).seen (disk b.between).seen reads b.begun);
    from = record {
      synced = b.from.synced;
      called = reads_called (disk old) (disk mid) (disk b.from.synced) read b.from.called;
      until = reads_both (disk old) (disk mid) (disk b.from.synced) passes b.from.until;
      keeps = keeps_both (disk old) (disk mid) (disk b.from.synced) keeps b.from.keeps;
      settled = λ tells. b.from.settled (keeps.tells tells);
      since = λ tells stands. b.from.since (keeps.tells tells) (register_same keys g (disk old).cells (disk mid).cells (keeps.cells tells) stands);
      ends = b.from.ends;
      stages = stood_before keys g (disk old) (disk mid) (λ closes. AreSpans (IsBeginStage disk keys closes (suc g) b.from.synced) 0 b.from.synced b.from.ends b.between) keeps b.from.stages;
    };
    whole = record { three = b.whole.three; behind = stood_before keys g (disk old) (disk mid) (λ closes. IsBeginStage disk keys closes (suc g) b.from.synced 3 (b.between, b.between)) keeps b.whole.behind };
    settled = λ tells. b.settled (keeps.tells tells);
    cells = λ tells stands.
        let now = b.cells (keeps.tells tells) (register_same keys g (disk old).cells (disk mid).cells (keeps.cells tells) stands) in
        record { stands = now.stands; rest = λ k off. now.rest k off ∙ keeps.cells tells k };
    later = b.later;
    keeps = b.keeps;
    reads = b.reads;
  }

-- ---- what is told

module _ (most : ℕ) (p : Params) (found : Found) (xs ys : List Note) (a b c : Option (List Event)) (k l m : Trace) (reads : Tells xs xs a b k l) where
  pub repeats_behind : {T : Type 0} (r : Result T Fault) → RepeatsBehind ys most p found b c l m r → RepeatsBehind (xs ++ ys) most p found a c k m r
  repeats_behind r told = record {
    seen = told.seen;
    shown = told.shown;
    begun = tells_then xs xs ys ys a b told.seen k l told.shown reads told.begun;
    repeats = told.repeats;
  }

  pub first_of_both : (fault : Fault) → BeginsFirst ys most p found b c l m fault → BeginsFirst (xs ++ ys) most p found a c k m fault
  first_of_both fault told = ⊎_elim (λ first. inl (first_behind a b c k l m xs ys reads first)) (λ all. inr (repeats_behind {T = Unit {0}} (Err fault) all)) told
