-- An opening of a ring store, in the words of its kind of store: the head was read, and then the store was opened.
use Rattle.std.proofs.Common.{◌≡◌, ◌∙◌, ◌⊎◌, ◌≤◌, ℕ, suc, List, [], ◌∷◌, length, Ok, refl, sym, ap, subst, inl, inr, arith}
use Rattle.ob_base.specs.declared.params.Params.{Params}
use Rattle.ob_tables.specs.Content.{Content, content_of}
use Rattle.ob_vault.specs.Kinds.{AllStand, IsOpenedAt, Stands, StandsAsBefore}
use Rattle.ob_vault.specs.Openings.{OpensStanding}
use Rattle.ob_schedule.specs.Phases.{Reads, open_phases}
use Rattle.ob_log.specs.Logs.{BatchRecord}
use Rattle.ob_recover.specs.Finds.{IsFoundInRing}
use Rattle.ob_recover.specs.declared.found.Found.{Found}
use Rattle.ob_recover.specs.Known.{fills_of, gates_open, public_of_kept}
use Rattle.ob_recover.proofs.Dealing.{made_as, made_join, made_steps}
use Rattle.ob_recover.specs.Telling.{ArePhasesMade}
use Rattle.ob_vault.proofs.Opened.{opened_at as run_is_at}
use Rattle.ob_vault.specs.RingLaws.{ReadsHead, RingLeavesStanding, RingOpens, RingOpensAt, RingOpensStanding, found_ring}
use Rattle.ob_seal.specs.Sealing.{Sealing}
use Rattle.ob_start.proofs.Early.{reads_called}
use Rattle.ob_seal.specs.declared.keys.Keys.{Keys}
use Rattle.ob_serial.specs.Vaults.{Standing}
use Rattle.ob_stand.specs.Stands as stand
use Rattle.ob_stand.specs.Stands.{OneOf, RingStanding, StandsRing, ring_standing, with_generation}
use Rattle.ob_store.proofs.Moments.{leaves_of, passed_then, then_on, weakened}
use Rattle.ob_store.specs.Calls.{Keeps, Notes}
use Rattle.ob_store.specs.Disk.{Disk, Image}
use Rattle.ob_store.specs.Images.{LeavesOnly, Passes, Same}
use Rattle.ob_store.specs.Lines.{Shows, Trace}
use Rattle.ob_store.proofs.Showing.{shows_then}
use Rattle.ob_store.specs.declared.watch.Note.{Note}
use Rattle.ob_schedule.specs.Schedule.{open_notes}
use Rattle.ob_store.specs.declared.event.Event.TheVariants as event
use Rattle.ob_store.specs.declared.watch.Note.TheVariants as note
use Rattle.ob_opening.specs.OpeningActs.{AreGatesIn}
use Rattle.ob_opening.specs.OpeningRuns.{IsRingOpened, OpensFrom}
use Rattle.ob_opening.specs.Openings.{OpensWhatStood}
use Rattle.ob_opening.specs.Openings as vault
use Rattle.ob_opening.specs.declared.opening.Opening.{Opening}
use Rattle.ob_vault.proofs.Founding.{found_is_standing}
use Rattle.ob_vault.specs.RingKind.{GoesOnFrom, IsRingFound, RingFound, ring_kind}
use Rattle.ob_vault.specs.Seen.{opening_shows, opening_phases}

same_cells : (old mid : Disk) → Keeps old mid → old.tells → mid.cells ≡ old.cells
same_cells old mid keeps tells = λ i k. keeps.cells tells k i

-- ---- what a crash leaves

module _ (keys : Keys) (p : Params) (s : RingStanding) (at : Standing) (g : ℕ) (c : Content) (rs : List BatchRecord) where
  -- what stands at this generation or the next one stands at no lower one
  one_stands : (i : Image) → OneOf keys p (ring_standing at g c rs) (with_generation (ring_standing at g c rs) (suc g)) i → (later : ℕ) × (g ≤ later) × StandsRing keys p later i at
  one_stands i (inl is) = (g, omega arith, record { content = c; records = rs; stands = is })
  one_stands i (inr is) = (suc g, omega arith, record { content = c; records = rs; stands = is })

module _ (keys : Keys) (p : Params) (old : Disk) (only : (c : Image) → old.left_since old.moment c → old.may_leave c) (all : AllStand ring_kind keys p old) where
  as_before : (c : Image) → old.may_leave c → StandsAsBefore ring_kind keys p old c
  as_before c left = let (at, (g, stands)) = all c left in record { at = at; generation = g; stands = stands; earlier = g; no_lower = omega arith; was = inr (c, left, stands) }

  -- and what reads give does
  cells_before : (at : Standing) → Stands ring_kind keys p old.cells at → StandsAsBefore ring_kind keys p old old.cells
  cells_before at (g, stands) = record { at = at; generation = g; stands = stands; earlier = g; no_lower = omega arith; was = inl stands }

  -- until something is made sure of, an image stands as one did before
  left_reading : (new : Disk) (at : Standing) → Stands ring_kind keys p old.cells at → Passes Same old new → LeavesOnly old new (StandsAsBefore ring_kind keys p old)
  left_reading new at stands passes = leaves_of Same (StandsAsBefore ring_kind keys p old) (StandsAsBefore ring_kind keys p old) old new passes only as_before (λ tells. cells_before at stands)
      (λ c d was same. subst (StandsAsBefore ring_kind keys p old) (sym same) was)
      (λ c was. was)

  -- and from then on at no lower generation
  left_since : {S : Type 0} (disk : S → Disk) (new : Disk) → old.tells → OpensStanding ring_kind disk keys p old new → (at : Standing) → Stands ring_kind keys p old.cells at → LeavesOnly old new (StandsAsBefore ring_kind keys p old)
  left_since disk new tells from at (g, stands) = then_on old (disk from.synced) new (StandsAsBefore ring_kind keys p old) (left_reading (disk from.synced) at (g, stands) from.until)
      (weakened (disk from.synced) new (λ c. (later : ℕ) × (g ≤ later) × StandsRing keys p later c at) (StandsAsBefore ring_kind keys p old)
      (λ c (later, high, now). record { at = at; generation = later; stands = now; earlier = g; no_lower = high; was = inl stands }) (from.since g at tells stands))

  pub left_opening : {S : Type 0} (disk : S → Disk) (new : Disk) → old.tells → Passes Same old new ⊎ OpensStanding ring_kind disk keys p old new → (at : Standing) → Stands ring_kind keys p old.cells at → LeavesOnly old new (StandsAsBefore ring_kind keys p old)
  left_opening disk new tells (inl same) at stands = left_reading new at stands same
  left_opening disk new tells (inr from) at stands = left_since disk new tells from at stands

-- the head's read and the opening's first sync
opens_standing : {S : Type 0} (disk : S → Disk) (keys : Keys) (p : Params) (old mid new : S) → ReadsHead (disk old) (disk mid) → OpensFrom disk keys p mid new → OpensStanding ring_kind disk keys p (disk old) (disk new)
opens_standing disk keys p old mid new head f = record {
  synced = f.synced;
  called = reads_called (disk old) (disk mid) (disk f.synced) (0 ∷ [], head.seen) f.called;
  until = passed_then Same (disk old) (disk mid) (disk f.synced) (λ c d e one run. one ∙ run) head.passes f.until;
  settled = λ tells. f.settled ((head.keeps).tells tells);
  since = λ g at tells (is : StandsRing keys p g (disk old).cells at).
      let s = ring_standing at g is.content is.records in
      weakened (disk f.synced) (disk new) (OneOf keys p s (with_generation s (suc g))) (λ c. (later : ℕ) × (g ≤ later) × StandsRing keys p later c at) (one_stands keys p s at g is.content is.records)
      (f.since s ((head.keeps).tells tells) (subst (λ (i : Image). stand.Stands keys p s i) (sym (same_cells (disk old) (disk mid) head.keeps tells)) is.stands));
}

-- of one that was refused
pub opens_or_not : {S : Type 0} (disk : S → Disk) (keys : Keys) (p : Params) (old mid new : S) → ReadsHead (disk old) (disk mid) → Passes Same (disk mid) (disk new) ⊎ OpensFrom disk keys p mid new
    → Passes Same (disk old) (disk new) ⊎ OpensStanding ring_kind disk keys p (disk old) (disk new)
opens_or_not disk keys p old mid new head (inl same) = inl (passed_then Same (disk old) (disk mid) (disk new) (λ c d e one run. one ∙ run) head.passes same)
opens_or_not disk keys p old mid new head (inr from) = inr (opens_standing disk keys p old mid new head from)

-- ---- an opening that went well

module _ {L : Type 0} (keys : Keys) (p : Params) (old mid new : Disk) (found : Found) (o : Opening L) where
  abbrev pub f : RingFound
  f = found_ring found o

  -- the run goes on from what was found
  pub goes_on : vault.IsOpeningOf keys p found o → GoesOnFrom keys p found f
  goes_on is = record { content = refl; records = refl; params = is.params; sealer = is.sealer; gates = is.gates; epoch = is.epoch; drawn = refl; serving = refl; left = is.left; planner = is.planner }

  -- which the store told before the head was read
  pub finds : (keeps : Keeps old mid) → vault.IsOpeningOf keys p found o → (mid.tells → IsFoundInRing keys p mid.cells found) → old.tells → IsRingFound keys p old.cells f
  finds keeps is found_in tells = record {
    found = found;
    found_in = subst (λ (i : Image). IsFoundInRing keys p i found) (same_cells old mid keeps tells) (found_in (keeps.tells tells));
    goes_on = goes_on is;
  }

  pub starts : (keeps : Keeps old mid) → (mid.tells → IsFoundInRing keys p mid.cells found) → old.tells → AreGatesIn found.gates old.cells
  starts keeps found_in tells =
      subst (λ (i : Image). AreGatesIn found.gates i) (same_cells old mid keeps tells) (record { generation = (found_in (keeps.tells tells)).generation_gates; epoch = (found_in (keeps.tells tells)).epoch_gates })

  -- the schedule's opening
  opening_is : vault.IsOpeningOf keys p found o → open_phases p (public_of_kept p (content_of found.tables) [] found.epoch found.gates) (fills_of p (content_of found.tables) found.records) (gates_open found.gates) (suc found.generation) (length found.records)
      ≡ opening_phases p (content_of found.tables) found.records o.epoch (o.sealer).generation found.gates
  opening_is is =
      ap (λ e. opening_phases p (content_of found.tables) found.records e (suc found.generation) found.gates) (sym is.epoch)
      ∙ ap (λ g. opening_phases p (content_of found.tables) found.records o.epoch g found.gates) (sym (ap (λ (x : Sealing). x.generation) is.sealer))

  pub opened_notes : vault.IsOpeningOf keys p found o → open_notes p (public_of_kept p (content_of found.tables) [] found.epoch found.gates) (fills_of p (content_of found.tables) found.records) (gates_open found.gates) (suc found.generation) (length found.records)
      ≡ opening_shows p (content_of found.tables) found.records o.epoch (o.sealer).generation found.gates
  opened_notes is =
      ap (λ e. opening_shows p (content_of found.tables) found.records e (suc found.generation) found.gates) (sym is.epoch)
      ∙ ap (λ g. opening_shows p (content_of found.tables) found.records o.epoch g found.gates) (sym (ap (λ (x : Sealing). x.generation) is.sealer))

-- the head's read, and then the schedule's opening
pub opening_seen : {S L : Type 0} (disk : S → Disk) (keys : Keys) (most : ℕ) (p : Params) (old mid new : S) (before after : Trace) (o : Opening L) (is : IsRingOpened disk keys most p mid new before after o) → 1 ≤ most
    → Notes (event.Read 0 ∷ []) (disk old).seen (disk mid).seen → ArePhasesMade most (Reads (0 ∷ []) ∷ ring_kind.opens p (found_ring is.found o) (is.found).gates) (disk old).seen (disk new).seen
opening_seen disk keys most p old mid new before after o is some head =
    made_join most (Reads (0 ∷ []) ∷ []) (ring_kind.opens p (found_ring is.found o) (is.found).gates) (disk old).seen (disk mid).seen (disk new).seen
    (made_steps most (note.Read 0 ∷ []) (disk old).seen (disk mid).seen (some, tt) head)
    (made_as most _ (ring_kind.opens p (found_ring is.found o) (is.found).gates) (disk mid).seen (disk new).seen (opening_is keys p (disk old) (disk mid) (disk new) is.found o is.is) ((is.follows).told [] (is.found).gates).seen)

-- and what the watch is shown of both
pub opening_shown : {S L : Type 0} (disk : S → Disk) (keys : Keys) (most : ℕ) (p : Params) (old mid new : S) (first before after : Trace) (o : Opening L) (is : IsRingOpened disk keys most p mid new before after o)
    → Shows (note.Read 0 ∷ []) first before → Shows (note.Read 0 ∷ ring_kind.open_notes p (found_ring is.found o) (is.found).gates) first after
opening_shown disk keys most p old mid new first before after o is head =
    shows_then (note.Read 0 ∷ []) (ring_kind.open_notes p (found_ring is.found o) (is.found).gates) first before after head
    (subst (λ (l : List Note). Shows l before after) (opened_notes keys p (disk old) (disk mid) (disk new) is.found o is.is) ((is.follows).told [] (is.found).gates).shows)

-- ---- where the store stood

module _ {L : Type 0} (keys : Keys) (p : Params) (old mid new : Disk) (found : Found) (o : Opening L) (keeps : Keeps old mid) (tells : old.tells) (told : new.tells)
    (in_cells : IsFoundInRing keys p mid.cells found) (stands : (s : RingStanding) → mid.tells → stand.Stands keys p s mid.cells → OpensWhatStood keys p s new (Ok o)) where
  -- it found what the store stood for, which stands in the next generation, whatever crashes
  pub opened_at : (at : Standing) → Stands ring_kind keys p old.cells at → IsOpenedAt ring_kind keys p at (found_ring found o) new
  opened_at at (g, is) =
      let s = ring_standing at g is.content is.records in
      let here : stand.Stands keys p s mid.cells = subst (λ (i : Image). stand.Stands keys p s i) (sym (same_cells old mid keeps tells)) is.stands in
      let opened = stands s (keeps.tells tells) here in
      let same = found_is_standing keys p s mid.cells found here in_cells in
      let generation : (o.sealer).generation ≡ suc g = ap (λ (x : Sealing). x.generation) opened.sealer in
      record {
        epoch = opened.epoch;
        content = record {
          standing = with_generation s (suc g);
          content = sym same.content;
          records = sym same.records;
          params = opened.params;
          keys_are = ap (λ (x : Sealing). x.keys) opened.sealer;
          at = run_is_at keys p s new o told opened;
          map = λ k. refl;
        };
        stands = subst (λ n. StandsRing keys p n new.cells at) (sym generation) (record { content = is.content; records = is.records; stands = opened.stands });
        images = λ c left. subst (λ n. StandsRing keys p n c at) (sym generation) (record { content = is.content; records = is.records; stands = opened.images c left });
      }

-- ---- the laws

pub ring_opens : {S : Type 0} (L : Type 0) (disk : S → Disk) → RingOpens L disk
ring_opens L disk keys most p old mid new before after o some head is = record {
  goes_on = goes_on keys p (disk old) (disk mid) (disk new) is.found o is.is;
  finds = finds keys p (disk old) (disk mid) (disk new) is.found o head.keeps is.is (λ tells. (is.told tells).found_in);
  starts = starts keys p (disk old) (disk mid) (disk new) is.found o head.keeps (λ tells. (is.told tells).found_in);
  seen = opening_seen disk keys most p old mid new before after o is some head.seen;
}

pub ring_opens_at : {S : Type 0} (L : Type 0) (disk : S → Disk) → RingOpensAt L disk
ring_opens_at L disk keys p old mid new found o head tells told in_cells stands at is = opened_at keys p (disk old) (disk mid) (disk new) found o head.keeps tells told in_cells stands at is

pub ring_opens_standing : {S : Type 0} (disk : S → Disk) → RingOpensStanding disk
ring_opens_standing disk keys p old mid new head from = opens_standing disk keys p old mid new head from

pub ring_leaves_standing : {S : Type 0} (disk : S → Disk) → RingLeavesStanding disk
ring_leaves_standing disk keys p old new only tells all either at stands = left_opening keys p (disk old) only all disk (disk new) tells either at stands
