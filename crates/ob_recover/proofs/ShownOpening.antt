-- An opening's calls show the schedule's opening.
use Rattle.std.specs.Prelude.{◌≡◌, ℕ, zero, suc, ◌+◌, ◌<◌, ◌≤◌, ◌%◌, Bool, List, [], ◌∷◌, ◌++◌, map, length, take, Option, slice_index, Ok}
use Rattle.std.proofs.Common.{arith, refl, sym, ap, subst, ◌∙◌, append_assoc, length-append}
use Rattle.std.proofs.lemmas.List.{append-nil, length-map, take_all, take-append-le}
use Rattle.std.proofs.lemmas.List.FromFn.{length-map-range_with_len}
use mathlib.Core.Path.{fun_ext}
use Rattle.ob_base.specs.declared.params.Params.{Params}
use Rattle.ob_base.specs.Tree.{below}
use Rattle.ob_base.specs.Layout.{LogArea, EpochTwin, GenerationTwin}
use Rattle.ob_base.proofs.Repeats.{has_left, has_right}
use Rattle.ob_tables.specs.Content.{Content, Obeys}
use Rattle.ob_stand.specs.Table.{flat_of}
use Rattle.ob_stand.specs.Counts.{public_of}
use Rattle.ob_stand.proofs.Counts.{opening_counts}
use Rattle.ob_stand.proofs.Reading.{tables_are_read}
use Rattle.ob_recover.proofs.NotesLaws.{counts_follow}
use Rattle.ob_log.specs.Logs.{BatchRecord, RecordsFit, record_at}
use Rattle.ob_recover.specs.Finds.{finding_notes}
use Rattle.ob_recover.specs.Repeats.{asked_of_record, batch_cells, record_places, repeat_cells, repeat_notes, repeated_notes}
use Rattle.ob_ring.specs.FlatTable.{Batch, FlatTable, after, after_place, leaves_shown, picks}
use Rattle.ob_ring.specs.Sound.{IsCounted, IsSound}
use Rattle.ob_ring.proofs.Batches.{batch_law}
use Rattle.ob_schedule.specs.Phases.{Phase, Reads, cells_read, open_phases, phases_of, repeat_phases}
use Rattle.ob_schedule.specs.Schedule.{Fills, Public, after_open, after_phase, after_repeats, batch_leaves, begun_public, check_cells, counts_now, gate_cell, open_notes, opens_gate, phase_notes, reads_of, region_cells, repeats, set_twin}
use Rattle.ob_store.specs.declared.watch.Note.{Note}
use Rattle.ob_store.specs.declared.watch.Note.TheVariants.{Sync}
use Rattle.ob_start.specs.Beginning.{gates_begun}
use Rattle.ob_twin.specs.Opening.{HasOpen}
use Rattle.ob_twin.specs.declared.gates.Gates.{Gates}
use Rattle.ob_recover.specs.Known.{AreFillsOf, AreSlotsOf, fills_of, gates_open, label_among, leaves_of_records, picks_of_records, public_of_kept}
use Rattle.ob_recover.specs.Fronts.{CutsOfFronts, AreFirstNotes}
use Rattle.ob_recover.specs.ShownOpenings.{OpeningIsScheduled, OpeningsAreScheduled, OpeningsBegin, began_notes, opening_notes, opened_phases}
use Rattle.ob_recover.proofs.CellsRead.{batch_read_cells}
use Rattle.ob_recover.proofs.Fills.{fills_own, flat, items_of, leaves_join, none_more, with_leaves}
use Rattle.ob_recover.proofs.Orders.{check_read, generation_known, generation_set, log_read, registers_read}
use Rattle.ob_recover.proofs.Phases.{homes_kept, phase_is}

-- ---- a batch's leaves

-- a record has as many places as a batch
abbrev pub AreWide : Params → List BatchRecord → Type 0
AreWide p rs = (b : ℕ) → b < length rs → length (record_at rs b).asks ≡ p.places

pub wide_of : (p : Params) (rs : List BatchRecord) → RecordsFit p rs → AreWide p rs
wide_of p rs fit b lt = (fit.each b lt).asks_many

pub asked_long : (p : Params) (r : BatchRecord) → length (asked_of_record p r) ≡ length r.asks
asked_long p r = length-map (record_places p r) (λ a. (a.0, (a.1).leaf)) ∙ length-map-range_with_len _ 0 (length r.asks)

pub leaves_long : (p : Params) (t : FlatTable) (asked : List (Option ℕ × ℕ)) → length (leaves_shown p t asked) ≡ length asked
leaves_long p t [] = refl
leaves_long p t (a ∷ rest) = ap suc (leaves_long p (after_place p t a.0 a.1) rest)

pub leaves_are : (p : Params) (t : FlatTable) (r : BatchRecord) (f : Fills) (b : ℕ) → length r.asks ≡ p.places → ((i : ℕ) → f.label b i ≡ slice_index (leaves_shown p t (asked_of_record p r)) i)
    → batch_leaves p f b ≡ leaves_shown p t (asked_of_record p r)
leaves_are p t r f b wide labels =
    let xs : List ℕ = leaves_shown p t (asked_of_record p r) in
    let long : length xs ≡ p.places = leaves_long p t (asked_of_record p r) ∙ asked_long p r ∙ wide in
    ap (λ (g : ℕ → ℕ). map g (below p.places)) (fun_ext labels) ∙ ap (λ (n : ℕ). map (λ i. slice_index xs i) (below n)) (sym long) ∙ items_of xs

-- ---- repeats

-- from the b-th batch on the labels are those that the records' batches show
abbrev AreLabels : Params → FlatTable → List BatchRecord → Fills → ℕ → Type 0
AreLabels p t rs f b = (j i : ℕ) → j < length rs → f.label (b + j) i ≡ label_among (leaves_of_records p t rs) j i

first_labels : (p : Params) (t : FlatTable) (r : BatchRecord) (rs : List BatchRecord) (f : Fills) (b : ℕ) → AreLabels p t (r ∷ rs) f b → (i : ℕ) → f.label b i ≡ slice_index (leaves_shown p t (asked_of_record p r)) i
first_labels p t r rs f b labels i = let z : b ≡ b + 0 = omega arith in ap (λ (n : ℕ). f.label n i) z ∙ labels 0 i (omega arith)

later_labels : (p : Params) (t : FlatTable) (r : BatchRecord) (rs : List BatchRecord) (f : Fills) (b : ℕ) → AreLabels p t (r ∷ rs) f b → AreLabels p (after p t (Batch (asked_of_record p r))) rs f (b + 1)
later_labels p t r rs f b labels j i lt = let z : (b + 1) + j ≡ b + suc j = omega arith in ap (λ (n : ℕ). f.label n i) z ∙ labels (suc j) i (omega arith)

later_wide : (p : Params) (r : BatchRecord) (rs : List BatchRecord) → AreWide p (r ∷ rs) → AreWide p rs
later_wide p r rs wide b lt = wide (suc b) (omega arith)

-- the first records' batches are the schedule's repeats, and so are their phases
abbrev AreRepeats : Params → Public → Fills → Content → FlatTable → ℕ → List BatchRecord → ℕ → Type 0
AreRepeats p q f c t b rs count =
    (repeat_notes p c.versions t (take count rs) ≡ repeats p q f b count) × (map (λ cells. Reads cells) (repeat_cells p c.versions t (take count rs)) ≡ repeat_phases p q f b count)

repeats_are : (p : Params) (q : Public) (f : Fills) (c : Content) (t : FlatTable) (b : ℕ) (rs : List BatchRecord) (count : ℕ) → q.homes ≡ homes_kept c → IsSound p t → IsCounted p t (counts_now p q) → AreWide p rs → AreLabels p t rs f b
    → AreSlotsOf c (picks_of_records p t rs) f → count ≤ length rs → AreRepeats p q f c t b rs count
repeats_are p q f c t b [] zero homes sound counted wide labels slots few = (refl, refl)
repeats_are p q f c t b [] (suc n) homes sound counted wide labels slots few = absurd (omega arith)
repeats_are p q f c t b (r ∷ rs) zero homes sound counted wide labels slots few = (refl, refl)
repeats_are p q f c t b (r ∷ rs) (suc n) homes sound counted wide labels slots few =
    let asked : List (Option ℕ × ℕ) = asked_of_record p r in
    let leaves : List ℕ = leaves_shown p t asked in
    let t1 : FlatTable = after p t (Batch asked) in
    let same : batch_leaves p f b ≡ leaves = leaves_are p t r f b (wide 0 (omega arith)) (first_labels p t r rs f b labels) in
    let here : repeated_notes p c.versions t asked ≡ phase_notes p q f (batch_leaves p f b) =
    phase_is p q f c t asked homes sound counted (λ s has. slots s (has_left (picks p t (Batch asked)) (picks_of_records p t1 rs) s has)) ∙ ap (phase_notes p q f) (sym same) in
    let cells : batch_cells p c.versions t asked ≡ cells_read (phase_notes p q f (batch_leaves p f b)) = sym (batch_read_cells p c.versions t asked) ∙ ap cells_read here in
    let rest : AreRepeats p (after_phase p q (batch_leaves p f b)) f c t1 (b + 1) rs n =
    subst (λ (l : List ℕ). AreRepeats p (after_phase p q l) f c t1 (b + 1) rs n) (sym same)
    (repeats_are p (after_phase p q leaves) f c t1 (b + 1) rs n homes (batch_law p t asked (counts_now p q) sound counted).sound (counts_follow p q t asked sound counted) (later_wide p r rs wide) (later_labels p t r rs f b labels)
    (λ s has. slots s (has_right (picks p t (Batch asked)) (picks_of_records p t1 rs) s has)) (omega arith)) in
    (λ i. here i ++ rest.0 i, λ i. Reads (cells i) ∷ rest.1 i)

behind_repeats : (p : Params) (q : Public) (f : Fills) (t : FlatTable) (b : ℕ) (rs : List BatchRecord) → AreWide p rs → AreLabels p t rs f b → after_repeats p q f b (length rs) ≡ with_leaves q (flat (leaves_of_records p t rs))
behind_repeats p q f t b [] wide labels = sym (none_more q)
behind_repeats p q f t b (r ∷ rs) wide labels =
    let leaves : List ℕ = leaves_shown p t (asked_of_record p r) in
    let t1 : FlatTable = after p t (Batch (asked_of_record p r)) in
    let same : batch_leaves p f b ≡ leaves = leaves_are p t r f b (wide 0 (omega arith)) (first_labels p t r rs f b labels) in
    ap (λ (l : List ℕ). after_repeats p (after_phase p q l) f (b + 1) (length rs)) same
    ∙ behind_repeats p (with_leaves q leaves) f t1 (b + 1) rs (later_wide p r rs wide) (later_labels p t r rs f b labels)
    ∙ leaves_join q leaves (flat (leaves_of_records p t1 rs))

-- ---- the whole

regroup : (r c l s t n : List Note) → ((r ++ (c ++ l)) ++ (s ++ t)) ++ n ≡ ((((r ++ c) ++ l) ++ s) ++ t) ++ n
regroup r c l s t n = simp append_assoc

-- what stands before the repeats
abbrev opened_by : Params → ℕ → (ℕ → Bool) → ℕ → List Note
opened_by p epoch found g =
    reads_of (region_cells p GenerationTwin ++ region_cells p EpochTwin) ++ reads_of (check_cells p (epoch % 2))
    ++ reads_of (region_cells p (LogArea ((epoch + 1) % 2)))
    ++ (Sync ∷ []) ++ set_twin p GenerationTwin g (found (gate_cell p GenerationTwin g))

finding_is : (p : Params) (epoch : ℕ) → finding_notes p epoch ≡ reads_of (region_cells p GenerationTwin ++ region_cells p EpochTwin) ++ (reads_of (check_cells p (epoch % 2)) ++ reads_of (region_cells p (LogArea ((epoch + 1) % 2))))
finding_is p epoch =
    let next : suc epoch ≡ epoch + 1 = omega arith in
    λ i. registers_read p i ++ (check_read p epoch i ++ (log_read p (suc epoch) ∙ ap (λ (n : ℕ). reads_of (region_cells p (LogArea (n % 2)))) next) i)

began_is : (p : Params) (epoch generation : ℕ) (found : Gates) (notes : List Note) → HasOpen found.generation → began_notes p epoch found generation ++ notes ≡ opened_by p epoch (gates_open found) (suc generation) ++ notes
began_is p epoch generation found notes has =
    (λ i. (finding_is p epoch i ++ ((Sync ∷ []) ++ generation_set p found (suc generation) has i)) ++ notes)
    ∙ regroup (reads_of (region_cells p GenerationTwin ++ region_cells p EpochTwin)) (reads_of (check_cells p (epoch % 2))) (reads_of (region_cells p (LogArea ((epoch + 1) % 2)))) (Sync ∷ [])
    (set_twin p GenerationTwin (suc generation) (gates_open found (gate_cell p GenerationTwin (suc generation)))) notes

began_alone : (p : Params) (epoch generation : ℕ) (found : Gates) → HasOpen found.generation → began_notes p epoch found generation ≡ opened_by p epoch (gates_open found) (suc generation)
began_alone p epoch generation found has = sym (append-nil (began_notes p epoch found generation)) ∙ began_is p epoch generation found [] has ∙ append-nil (opened_by p epoch (gates_open found) (suc generation))

module _ (p : Params) (c : Content) (rs : List BatchRecord) (epoch generation : ℕ) (found : Gates) (shown : List BatchRecord) (known : Gates) (obeys : Obeys p c) (fit : RecordsFit p rs) (has : HasOpen found.generation) where
  abbrev f : Fills
  f = fills_of p c rs

  abbrev q : Public
  q = public_of_kept p c shown epoch known

  abbrev begun : Public
  begun = begun_public (gates_open found) q

  own : AreFillsOf p c rs f
  own = fills_own p c rs obeys

  labels : AreLabels p (flat_of p c) rs f 0
  labels j i lt = let z : 0 + j ≡ j = omega arith in ap (λ (n : ℕ). f.label n i) z ∙ own.labels j i lt

  counted : IsCounted p (flat_of p c) (counts_now p begun)
  counted = opening_counts p c epoch (gates_open found) obeys

  again : (count : ℕ) → count ≤ length rs → AreRepeats p begun f c (flat_of p c) 0 rs count
  again count few = repeats_are p begun f c (flat_of p c) 0 rs count refl (tables_are_read p c obeys).orderly.sound counted (wide_of p rs fit) labels own.slots few

  phases : (count : ℕ) → count ≤ length rs → opened_phases p c (take count rs) epoch found generation ≡ open_phases p q f (gates_open found) (suc generation) count
  phases count few = λ i. phases_of (began_alone p epoch generation found has i) ++ (again count few).1 i

  notes : (count : ℕ) → count ≤ length rs → opening_notes p c (take count rs) epoch found generation ≡ open_notes p q f (gates_open found) (suc generation) count
  notes count few =
      ap (λ (ns : List Note). began_notes p epoch found generation ++ ns) (again count few).0
      ∙ began_is p epoch generation found (repeats p begun f 0 count) has

  behind : after_open p q f (gates_open found) (suc generation) (length rs) ≡ public_of_kept p c rs epoch (gates_begun generation found (Ok (suc generation)))
  behind =
      let start : Public = opens_gate begun (gate_cell p GenerationTwin (suc generation)) in
      behind_repeats p start f (flat_of p c) 0 rs (wide_of p rs fit) labels
      ∙ ap (λ (g : ℕ → Bool). record (public_of c epoch g) { leaves = flat (leaves_of_records p (flat_of p c) rs) }) (generation_known p found (suc generation))

  pub opening_is_scheduled : OpeningIsScheduled p c rs epoch generation found shown known
  opening_is_scheduled = record {
    notes = notes;
    phases = phases;
    all_phases = ap (λ (few : List BatchRecord). opened_phases p c few epoch found generation) (sym (take_all (length rs) rs (omega arith))) ∙ phases (length rs) (omega arith);
    whole = ap (λ (few : List BatchRecord). opening_notes p c few epoch found generation) (sym (take_all (length rs) rs (omega arith))) ∙ notes (length rs) (omega arith);
    behind = behind;
  }

pub openings_are_scheduled : OpeningsAreScheduled
openings_are_scheduled p c rs epoch generation found shown known obeys fit has = opening_is_scheduled p c rs epoch generation found shown known obeys fit has

-- ---- fronts

front_behind : (xs ys zs : List Note) → AreFirstNotes ys zs → AreFirstNotes (xs ++ ys) (xs ++ zs)
front_behind xs ys zs front = (front.0, ap (λ (l : List Note). xs ++ l) front.1 ∙ sym (append_assoc xs ys front.0))

front_repeats : (p : Params) (q : Public) (f : Fills) (b count batches : ℕ) → count ≤ batches → AreFirstNotes (repeats p q f b count) (repeats p q f b batches)
front_repeats p q f b zero batches few = (repeats p q f b batches, refl)
front_repeats p q f b (suc n) zero few = absurd (omega arith)
front_repeats p q f b (suc n) (suc m) few =
    front_behind (phase_notes p q f (batch_leaves p f b)) (repeats p (after_phase p q (batch_leaves p f b)) f (b + 1) n) (repeats p (after_phase p q (batch_leaves p f b)) f (b + 1) m) (front_repeats p (after_phase p q (batch_leaves p f b)) f (b + 1) n m (omega arith))

pub openings_begin : OpeningsBegin
openings_begin p q f found generation batches =
    let r : List Note = reads_of (region_cells p GenerationTwin ++ region_cells p EpochTwin) in
    let c : List Note = reads_of (check_cells p (q.epoch % 2)) in
    let l : List Note = reads_of (region_cells p (LogArea ((q.epoch + 1) % 2))) in
    let s : List Note = set_twin p GenerationTwin generation (found (gate_cell p GenerationTwin generation)) in
    let n : List Note = repeats p (begun_public found q) f 0 batches in
    let rest : List Note = ((Sync ∷ []) ++ s) ++ n in
    let whole : open_notes p q f found generation batches ≡ finding_notes p q.epoch ++ rest =
    sym (regroup r c l (Sync ∷ []) s n) ∙ append_assoc (r ++ (c ++ l)) ((Sync ∷ []) ++ s) n ∙ ap (λ (first : List Note). first ++ rest) (sym (finding_is p q.epoch)) in
    record {
      registers = ((c ++ l) ++ rest, sym (regroup r c l (Sync ∷ []) s n) ∙ append_assoc (r ++ (c ++ l)) ((Sync ∷ []) ++ s) n ∙ append_assoc r (c ++ l) rest ∙ ap (λ (first : List Note). first ++ ((c ++ l) ++ rest)) (sym (registers_read p)));
      finding = (rest, whole);
      fewer = λ count few. front_behind (opened_by p q.epoch found generation) (repeats p (begun_public found q) f 0 count) n (front_repeats p (begun_public found q) f 0 count batches few);
    }

pub cuts_of_fronts : CutsOfFronts
cuts_of_fronts steps all made shown front cut =
    let long : length all ≡ length steps + length front.0 = ap length front.1 ∙ length-append steps front.0 in
    record {
      count = cut.count;
      few = omega (arith, long, cut.few);
      made_are = cut.made_are ∙ sym (take-append-le cut.count steps front.0 cut.few) ∙ ap (λ (l : List Note). take cut.count l) (sym front.1);
      shown_are = cut.shown_are;
    }
