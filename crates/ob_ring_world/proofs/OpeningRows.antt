-- What an opening that was refused or cut off had shown is the first of its row, filled as the life would show it.
use Rattle.std.specs.Prelude.{IsTrue, ◌||◌, drop, take}
use Rattle.std.specs.List.{flat_map, range_with_len}
use Rattle.std.proofs.Common.{◌≡◌, ◌⊎◌, inl, inr, ℕ, zero, suc, ◌+◌, ◌<◌, ◌≤◌, true, false, Bool, List, [], ◌∷◌, ◌++◌, length, map, refl, sym, ap, subst, ◌∙◌, append_assoc, arith}
use Rattle.std.proofs.lemmas.Bool.{false≢true}
use Rattle.std.proofs.lemmas.List.{append-nil, length-map, take-append-drop}
use Rattle.ob_base.specs.Repeats.{Has}
use Rattle.ob_base.specs.Tree.{below}
use Rattle.ob_base.specs.declared.fault.Fault.{Fault}
use Rattle.ob_base.specs.declared.fault.Fault.TheVariants as fault
use Rattle.ob_base.specs.declared.params.Params.{Params}
use Rattle.ob_log.specs.Logs.{BatchRecord, RecordsFit}
use Rattle.ob_opening.specs.OpeningActs.{StandsInLife}
use Rattle.ob_recover.proofs.FindLaws.{number_found}
use Rattle.ob_recover.proofs.Living.{lives_show_fills}
use Rattle.ob_recover.proofs.ShownOpening.{openings_are_scheduled}
use Rattle.ob_recover.specs.Finds.{IsFoundInRing, IsFoundOf, finding_notes}
use Rattle.ob_recover.specs.Known.{fills_of, gates_open, public_of_kept}
use Rattle.ob_recover.specs.Life.{IsLife, LifeBatch, LifeState, Open, SlotFill, WordId, leaf_of_word, life_labels, life_slots, life_step}
use Rattle.ob_recover.specs.LifePublic.{public_in}
use Rattle.ob_recover.specs.Lives.{LifeShowsFills, life_batch}
use Rattle.ob_recover.specs.Repeats.{repeat_cells}
use Rattle.ob_recover.specs.ShownOpenings.{OpeningIsScheduled, began_notes, opened_phases}
use Rattle.ob_recover.specs.Telling.{AreDealt, ArePhasesMade}
use Rattle.ob_schedule.proofs.Phased.{phases_append}
use Rattle.ob_schedule.specs.Phases.{Phase, Reads, open_phases, phases_of, repeat_phases, shared}
use Rattle.ob_schedule.specs.Schedule.{Fills, Public, after_phase, batch_leaves, before_repeats, begun_public, phase_notes}
use Rattle.ob_seal.specs.Sealing.{Sealing}
use Rattle.ob_seal.specs.declared.keys.Keys.{Keys}
use Rattle.ob_ring.specs.FlatTable.{FlatTable, reads}
use Rattle.ob_stand.proofs.Reading.{reads_are_marks}
use Rattle.ob_stand.specs.Counts.{marks_of}
use Rattle.ob_stand.specs.Stands.{RingStanding}
use Rattle.ob_stand.specs.Table.{flat_of}
use Rattle.ob_start.specs.Orders.{begin_notes, registers_notes}
use Rattle.ob_store.specs.Calls.{Notes, NotesFirst}
use Rattle.ob_store.specs.Disk.{Disk, Image}
use Rattle.ob_store.specs.Told.{events_of}
use Rattle.ob_store.specs.declared.event.Event.{Event}
use Rattle.ob_store.specs.declared.event.Event.TheVariants as event
use Rattle.ob_store.specs.declared.watch.Note.{Note}
use Rattle.ob_tables.specs.Content.{Obeys, content_of}
use Rattle.ob_twin.specs.Opening.{GatesAre, HasOpen}
use Rattle.ob_twin.specs.Reading.{Counts}
use Rattle.ob_twin.specs.Register.{IsOpen}
use Rattle.ob_twin.specs.declared.gates.Gates.{Gates}
use Rattle.ob_twin.specs.declared.gates.Open.{Open as OpenGates}
use Rattle.ob_vault.proofs.Ending.{records_fit_of}
use Rattle.ob_vault.proofs.Founding.{found_is_standing}
use Rattle.ob_vault.proofs.OpenedLife.{repeats_leaves, repeats_live, repeats_slots}
use Rattle.ob_vault.specs.Hidden.{AreFirst}
use Rattle.ob_vault.specs.Lives.{opening_acts}
use Rattle.ob_vault.specs.RingKind.{IsRingFound, RingFound}
use Rattle.ob_vault.specs.Seen.{OpensInPart, ReadsFirst, RingOpensPartly, opening_phases}
use Rattle.ob_ring_world.proofs.Sounding.{dealt_one_by_one}
use Rattle.ob_ring_world.specs.Runs.{IsSeenOpening, OpensOrRefuses}

-- ---- a register that counts has an open gate

left_of : (a b : Bool) → IsTrue a → IsTrue (a || b)
left_of true b is = refl
left_of false b none = absurd (false≢true none)

right_of : (a b : Bool) → IsTrue b → IsTrue (a || b)
right_of true b is = refl
right_of false b is = is

pub has_open : (first : ℕ) (image : Image) (n : ℕ) (gates : OpenGates) → Counts first image n → GatesAre gates first image → HasOpen gates
has_open first image n gates counts are = at_place counts.some.0 counts.some.1 counts.some.2
  where
    at_place : (place : ℕ) → place < 2 → IsOpen first image place → HasOpen gates
    at_place zero low up = left_of gates.zero gates.one (are.zero.1 up)
    at_place (suc zero) low up = right_of gates.zero gates.one (are.one.1 up)
    at_place (suc (suc more)) low up = absurd (omega (arith, low))

-- ---- fronts of a row of phases

module _ (most : ℕ) (some : 1 ≤ most) where
  -- notes that are made one by one, before others
  front_of_notes : (front rest : List Note) (more all : List Phase) → all ≡ phases_of (front ++ rest) ++ more → AreFirst most all (events_of front)
  front_of_notes front rest more all is = (
    phases_of front,
    phases_of rest ++ more,
    is ∙ ap (λ (l : List Phase). l ++ more) (phases_append front rest) ∙ append_assoc (phases_of front) (phases_of rest) more,
    dealt_one_by_one most some front,
  )

  repeats_front : (p : Params) (q : Public) (f : Fills) (b m n : ℕ) → m ≤ n → (rest : List Phase) × (repeat_phases p q f b n ≡ repeat_phases p q f b m ++ rest)
  repeats_front p q f b zero n le = (repeat_phases p q f b n, refl)
  repeats_front p q f b (suc m) zero le = absurd (omega (arith, le))
  repeats_front p q f b (suc m) (suc n) le =
      let (rest, is) = repeats_front p (after_phase p q (batch_leaves p f b)) f (b + 1) m n (omega (arith, le)) in
      (rest, ap (λ (l : List Phase). shared (phase_notes p q f (batch_leaves p f b)) ∷ l) is)

  fewer : (p : Params) (q : Public) (f : Fills) (gates : ℕ → Bool) (generation m n : ℕ) (events : List Event) → m ≤ n → AreDealt most (open_phases p q f gates generation m) events → AreFirst most (open_phases p q f gates generation n) events
  fewer p q f gates generation m n events le dealt =
      let (rest, is) = repeats_front p (begun_public gates q) f 0 m n le in (
        open_phases p q f gates generation m,
        rest,
        ap (λ (l : List Phase). phases_of (before_repeats p q gates generation) ++ l) is ∙ sym (append_assoc (phases_of (before_repeats p q gates generation)) (repeat_phases p (begun_public gates q) f 0 m) rest),
        dealt,
      )

-- ---- what is public where an opening begins

module _ (keys : Keys) (p : Params) (word_of : WordId → ℕ) (s : LifeState) (image : Image) (here : StandsInLife keys p word_of s image) where
  counts_are : (u : ℕ) → reads p (s.content).table u ≡ marks_of (here.standing).content u
  counts_are u = ap (λ (t : FlatTable). reads p t u) (here.life).table ∙ reads_are_marks p (here.standing).content u ((here.stands).holds).obeys

  pub public_begun : (gates : Gates) (generation : ℕ) → public_of_kept p (here.standing).content [] (here.standing).epoch gates ≡ public_in p word_of (life_step p word_of s (Open generation)) (gates_open gates)
  public_begun gates generation i = record {
    epoch = here.epoch i;
    homes = λ u. sym ((here.life).homes u) i;
    counts = λ u. sym (counts_are u) i;
    counter = sym (ap (λ (t : FlatTable). t.counter) (here.life).table) i;
    gates = gates_open gates;
    leaves = [];
  }

-- ---- the row of an opening of what stands

abbrev both_open : Gates
both_open = record { generation = record { zero = true; one = true }; epoch = record { zero = true; one = true } }

module _ (keys : Keys) (p : Params) (word_of : WordId → ℕ) (s : LifeState) (old : Disk) (here : StandsInLife keys p word_of s old.cells) where
  abbrev st : RingStanding
  st = here.standing

  obeys : Obeys p st.content
  obeys = ((here.stands).holds).obeys

  fit : RecordsFit p st.records
  fit = records_fit_of keys p (suc st.epoch) st.records old.cells ((here.stands).holds).log

  shows : LifeShowsFills p word_of st.content st.records s
  shows = lives_show_fills p word_of st.content st.records s obeys fit here.life

  pub log_many : length s.log ≡ length st.records
  log_many = ap (λ (log : List LifeBatch). length log) (here.life).log ∙ length-map st.records life_batch

  abbrev begun : LifeState
  begun = life_step p word_of s (Open (suc s.generation))

  abbrev pub fills : Fills
  fills = fills_of p st.content st.records

  pub opening_life : IsLife p word_of s (opening_acts s)
  opening_life = (omega arith, repeats_live p word_of begun (length s.log) (omega arith))

  pub opening_labels : map (λ l. leaf_of_word p word_of l.word) (life_labels p word_of s (opening_acts s)) ≡ flat_map (λ b. batch_leaves p fills b) (below (length st.records))
  opening_labels = repeats_leaves p word_of fills begun (length s.log) (λ b lt. shows.labels b (let many = log_many in omega (arith, lt, many)))
      ∙ ap (λ n. flat_map (λ b. batch_leaves p fills b) (range_with_len 0 n)) log_many

  pub opening_slots : (x : SlotFill) → Has (life_slots p word_of s (opening_acts s)) x → x.slot ≡ fills.slot (record { bucket = x.bucket; number = x.number })
  opening_slots x has = shows.slots x (repeats_slots p word_of begun (length s.log) x has)

  abbrev pub public_at : Gates → Public
  public_at gates = public_of_kept p st.content [] st.epoch gates

  abbrev pub phases_at : Gates → List Phase
  phases_at gates = open_phases p (public_at gates) fills (gates_open gates) (suc st.generation) (length st.records)

  law : (gates : Gates) → HasOpen gates.generation → OpeningIsScheduled p st.content st.records st.epoch st.generation gates [] gates
  law gates is_open = openings_are_scheduled p st.content st.records st.epoch st.generation gates [] gates obeys fit is_open

  module _ (tells : old.tells) (most : ℕ) (some : 1 ≤ most) (new : Disk) where
    -- what it called the store for, and what would have come behind, are the first of the row
    pub record OpeningFront : Type 0 where
      pub gates : Gates
      pub all : List Event
      pub behind : List Event
      pub seen : IsSeenOpening most all old.seen new.seen
      pub first : AreFirst most (phases_at gates) (all ++ behind)

    -- some of these events
    some_of : (gates : Gates) (events : List Event) → AreFirst most (phases_at gates) events → NotesFirst (event.Read 0 ∷ events) old.seen new.seen → OpeningFront
    some_of gates events first (zero, le, noted) = record { gates = gates; all = []; behind = events; seen = inl (refl, noted); first = first }
    some_of gates events first (suc n, le, noted) = record {
      gates = gates;
      all = take n events;
      behind = drop n events;
      seen = inr (event.Read 0 ∷ [], record { lanes = 1; few = some; lane_of = λ i. 0; within = λ i lt. omega arith; seen = refl }, noted);
      first = subst (λ (l : List Event). AreFirst most (phases_at gates) l) (sym (take-append-drop n events)) first;
    }

    -- all of these phases
    all_of : (gates : Gates) (phases : List Phase) → ((events : List Event) → AreDealt most phases events → AreFirst most (phases_at gates) events) → ArePhasesMade most (Reads (0 ∷ []) ∷ phases) old.seen new.seen → OpeningFront
    all_of gates phases first made = by made.dealt
      where
        by : AreDealt most (Reads (0 ∷ []) ∷ phases) made.events → OpeningFront
        by (head, rest, is, dealt, more) = record {
          gates = gates;
          all = rest;
          behind = [];
          seen = inr (head, dealt, subst (λ (l : List Event). Notes l old.seen new.seen) is made.noted);
          first = subst (λ (l : List Event). AreFirst most (phases_at gates) l) (sym (append-nil rest)) (first rest more);
        }

    began_first : (gates : Gates) (is_open : HasOpen gates.generation) (front rest : List Note) → began_notes p st.epoch gates st.generation ≡ front ++ rest → AreFirst most (phases_at gates) (events_of front)
    began_first gates is_open front rest is =
        let repeats : List Phase = map (λ cells. Reads cells) (repeat_cells p (st.content).versions (flat_of p st.content) st.records) in
        front_of_notes most some front rest repeats (phases_at gates) (sym (law gates is_open).all_phases ∙ ap (λ (l : List Note). phases_of l ++ repeats) is)

    -- of the reads of what is found
    by_reads : ReadsFirst keys p old new → OpeningFront
    by_reads (inl first) = some_of both_open (events_of registers_notes) (began_first both_open refl registers_notes _ (append_assoc registers_notes _ (begin_notes (both_open.generation) (suc st.generation)))) first
    by_reads (inr f) =
        let regs = f.registers tells in
        let epoch : f.epoch ≡ st.epoch = number_found keys 5 old.cells st.epoch f.epoch (here.stands).epoch regs.epoch_whole regs.epoch_counts in
        some_of both_open (events_of (finding_notes p st.epoch)) (began_first both_open refl (finding_notes p st.epoch) (begin_notes (both_open.generation) (suc st.generation)) refl)
        (subst (λ (e : ℕ). NotesFirst (event.Read 0 ∷ events_of (finding_notes p e)) old.seen new.seen) epoch f.seen)

    -- of what it does behind them
    module _ (o : OpensInPart keys most p old new) where
      abbrev gates : Gates
      gates = (o.found).gates

      found_in : IsFoundInRing keys p old.cells o.found
      found_in = o.found_in tells

      same : IsFoundOf st o.found
      same = found_is_standing keys p st old.cells o.found here.stands found_in

      is_open : HasOpen gates.generation
      is_open = has_open 1 old.cells (o.found).generation gates.generation (found_in.registers).generation_counts found_in.generation_gates

      by_seen : NotesFirst (event.Read 0 ∷ events_of (began_notes p (o.found).epoch gates (o.found).generation)) old.seen new.seen
          ⊎ ((count : ℕ) × (count ≤ length (o.found).records) × ArePhasesMade most (Reads (0 ∷ []) ∷ opened_phases p (content_of (o.found).tables) (take count (o.found).records) (o.found).epoch gates (o.found).generation) old.seen new.seen) → OpeningFront
      by_seen (inl first) =
          let began : List Note = began_notes p st.epoch gates st.generation in
          some_of gates (events_of began) (began_first gates is_open began [] (sym (append-nil began)))
          (subst (λ (g : ℕ). NotesFirst (event.Read 0 ∷ events_of (began_notes p st.epoch gates g)) old.seen new.seen) same.generation
          (subst (λ (e : ℕ). NotesFirst (event.Read 0 ∷ events_of (began_notes p e gates (o.found).generation)) old.seen new.seen) same.epoch first))
      by_seen (inr (count, few, made)) =
          let less : count ≤ length st.records = subst (λ (rs : List BatchRecord). count ≤ length rs) same.records few in
          all_of gates (opened_phases p st.content (take count st.records) st.epoch gates st.generation)
          (λ events dealt. fewer most some p (public_at gates) fills (gates_open gates) (suc st.generation) count (length st.records) events less (subst (λ (l : List Phase). AreDealt most l events) ((law gates is_open).phases count less) dealt))
          (subst (λ (l : List Phase). ArePhasesMade most l old.seen new.seen) (λ i. Reads (0 ∷ []) ∷ opened_phases p (same.content i) (take count (same.records i)) (same.epoch i) gates (same.generation i)) made)

      by_part : OpeningFront
      by_part = by_seen o.seen

    by_fault : (refused : Fault) → RingOpensPartly keys most p old new refused → OpeningFront
    by_fault (fault.StoreFault unsure) (inl reads) = by_reads reads
    by_fault (fault.StoreFault unsure) (inr part) = by_part part
    by_fault (fault.Damaged cell check kept computed) (inl reads) = by_reads reads
    by_fault (fault.Damaged cell check kept computed) (inr part) = by_part part
    by_fault fault.Memory reads = by_reads reads
    by_fault fault.Usage reads = by_reads reads
    by_fault (fault.BadScript line) reads = by_reads reads
    by_fault (fault.BadParams field) reads = by_reads reads
    by_fault fault.NotStore reads = by_reads reads
    by_fault (fault.StashFull rows) reads = by_reads reads
    by_fault (fault.Worn number) reads = by_reads reads
    by_fault fault.SourceFault reads = by_reads reads
    by_fault fault.SinkFault reads = by_reads reads

    -- of one that went well
    by_opened : (f : RingFound) (is : IsRingFound keys p old.cells f)
        → ArePhasesMade most (Reads (0 ∷ []) ∷ opening_phases p f.content f.records (f.run).epoch (f.run.sealer).generation (is.found).gates) old.seen new.seen → OpeningFront
    by_opened f is made =
        let same : IsFoundOf st is.found = found_is_standing keys p st old.cells is.found here.stands is.found_in in
        let content : f.content ≡ st.content = sym (is.goes_on).content ∙ same.content in
        let records : f.records ≡ st.records = sym (is.goes_on).records ∙ same.records in
        let epoch : (f.run).epoch ≡ st.epoch = (is.goes_on).epoch ∙ same.epoch in
        let generation : (f.run.sealer).generation ≡ suc st.generation = ap (λ (x : Sealing). x.generation) (is.goes_on).sealer ∙ ap (λ (g : ℕ). suc g) same.generation in
        let gates : Gates = (is.found).gates in
        all_of gates (phases_at gates) (λ events dealt. (phases_at gates, [], sym (append-nil (phases_at gates)), dealt))
        (subst (λ (l : List Phase). ArePhasesMade most l old.seen new.seen) (λ i. Reads (0 ∷ []) ∷ opening_phases p (content i) (records i) (epoch i) (generation i) gates) made)

    pub opening_front : OpensOrRefuses keys most p old new → OpeningFront
    opening_front (inl (refused, part)) = by_fault refused part
    opening_front (inr (f, is, made)) = by_opened f is made
