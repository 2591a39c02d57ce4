-- What an opening says that was refused is what a row takes of it.
use Rattle.std.specs.Prelude.{◌≡◌, ◌⊎◌, ◌<◌, ◌≤◌, ℕ, ◌+◌, ◌-◌, ◌%◌, List, [], ◌∷◌, ◌++◌, length, take}
use Rattle.std.proofs.Common.{zero, suc, append_assoc, arith, length-append, refl, sym, ap, ◌∙◌, subst, inl, inr, ⊎_elim}
use Rattle.std.proofs.lemmas.Bool.{cases_lt}
use Rattle.std.proofs.lemmas.List.{append-nil}
use mathlib.Core.Path.{fun_ext}
use Rattle.ob_base.specs.Layout.{EpochTwin, GenerationTwin, LogArea}
use Rattle.ob_base.specs.declared.fault.Fault.{Fault}
use Rattle.ob_base.specs.declared.params.Params.{Params}
use Rattle.ob_store.specs.Calls.{Keeps}
use Rattle.ob_store.specs.Disk.{Disk, Image}
use Rattle.ob_store.specs.Images.{Passes, Same, Shrinks}
use Rattle.ob_store.specs.Lines.{Trace}
use Rattle.ob_store.specs.declared.watch.Note.{Note}
use Rattle.ob_log.specs.Logs.{BatchRecord, RecordsFit}
use Rattle.ob_schedule.specs.Schedule.{Public, before_repeats, check_cells, head_notes, open_notes, reads_of, region_cells}
use Rattle.ob_seal.specs.declared.keys.Keys.{Keys}
use Rattle.ob_stand.specs.Stands.{RingStanding, Stands}
use Rattle.ob_stand.specs.Table.{flat_of}
use Rattle.ob_tables.specs.Content.{Content, Obeys, content_of}
use Rattle.ob_twin.specs.Keyed.{tagging}
use Rattle.ob_twin.specs.Register.{StandsAt}
use Rattle.ob_start.specs.Beginning.{IsSyncedLeft}
use Rattle.ob_start.specs.Orders.{registers_notes}
use Rattle.ob_start.specs.Registers as start
use Rattle.ob_recover.proofs.FindLaws.{number_found}
use Rattle.ob_recover.proofs.Orders.{check_read, log_read, registers_read}
use Rattle.ob_recover.proofs.ShownOpening.{openings_are_scheduled, openings_begin}
use Rattle.ob_recover.specs.Finds.{IsFoundInRing, IsFoundOf, finding_notes}
use Rattle.ob_recover.specs.Known.{fills_of, gates_open}
use Rattle.ob_recover.specs.Repeats.{repeat_notes}
use Rattle.ob_recover.specs.ShownOpenings.{OpeningIsScheduled}
use Rattle.ob_recover.specs.declared.found.Found.{Found}
use Rattle.ob_opening.specs.OpeningRuns.{ReadsFirst, begun_notes, next_notes}
use Rattle.ob_opening.specs.OpeningStops.{IsLeftByOpening, OpeningStops, StopsAt, next_set}
use Rattle.ob_vault.proofs.Ending.{records_fit_of}
use Rattle.ob_vault.proofs.Founding.{found_is_standing}
use Rattle.ob_admitted.specs.Refused.{RefusedHeadsAreShown, RefusedOpeningsAreShown, notes_at, notes_of_reads, notes_of_stop}
use Rattle.ob_admitted.specs.Stopped.{IsBegunLeft, IsGenerationBy, IsStopShown, begun_row, public_of_found, reads_of_opening}
use Rattle.ob_admitted.proofs.Stopped.{front_of}
use Rattle.ob_admitted.proofs.Shown.{IsFront, cut_front, front_more, front_take}

-- the reads, as the schedule groups them
finding_are : (p : Params) (epoch : ℕ) → finding_notes p epoch ≡ reads_of (region_cells p GenerationTwin ++ region_cells p EpochTwin) ++ reads_of (check_cells p (epoch % 2)) ++ reads_of (region_cells p (LogArea ((epoch + 1) % 2)))
finding_are p epoch =
    let next : suc epoch ≡ epoch + 1 = omega arith in
    (λ i. registers_read p i ++ (check_read p epoch i ++ (log_read p (suc epoch) ∙ ap (λ (n : ℕ). reads_of (region_cells p (LogArea (n % 2)))) next) i))
    ∙ sym (append_assoc (reads_of (region_cells p GenerationTwin ++ region_cells p EpochTwin)) (reads_of (check_cells p (epoch % 2))) (reads_of (region_cells p (LogArea ((epoch + 1) % 2)))))

pub reads_are : (p : Params) (epoch : ℕ) → head_notes ++ finding_notes p epoch ≡ reads_of_opening p epoch
reads_are p epoch = ap (λ (ns : List Note). head_notes ++ ns) (finding_are p epoch)

-- a front of a list that is no longer than its front is one of that
front_short : (xs ys shown : List Note) → IsFront (xs ++ ys) shown → length shown ≤ length xs → IsFront xs shown
front_short xs ys [] is few = (xs, refl)
front_short [] ys (n ∷ shown) is few = absurd (omega (arith, few))
front_short (x ∷ xs) ys (n ∷ shown) is few =
    let rest = front_short xs ys shown (is.0, same_tail is.1) (omega (arith, few)) in
    (rest.0, (λ i. same_head is.1 i ∷ rest.1 i))
  where
    same_tail : x ∷ (xs ++ ys) ≡ n ∷ (shown ++ is.0) → xs ++ ys ≡ shown ++ is.0
    same_tail e = cc e

    same_head : x ∷ (xs ++ ys) ≡ n ∷ (shown ++ is.0) → x ≡ n
    same_head e = cc e

module _ (keys : Keys) (p : Params) (old new : Disk) where
  -- some of the reads were shown
  reads_shown : (shown : List Note) → ((epoch : ℕ) → StandsAt (tagging keys) 5 old.cells epoch → IsFront (finding_notes p epoch) shown) → Shrinks old new → IsStopShown keys p old new (head_notes ++ shown)
  reads_shown shown front shrinks = inl (record {
    shown = λ epoch stands. (suc (length shown), ap (λ (ns : List Note). head_notes ++ ns) (front_take (finding_notes p epoch) shown (front epoch stands)) ∙ ap (λ (ns : List Note). take (suc (length shown)) ns) (reads_are p epoch));
    shrinks = shrinks;
  })

  module _ (found : Found) (s : RingStanding) (stands : Stands keys p s old.cells) (in_cells : IsFoundInRing keys p old.cells found) (some : start.HaveOpen found.gates) where
    abbrev c : Content
    c = content_of found.tables

    abbrev rs : List BatchRecord
    rs = found.records

    abbrev q : Public
    q = public_of_found p found

    same : IsFoundOf s found
    same = found_is_standing keys p s old.cells found stands in_cells

    obeys : Obeys p c
    obeys = subst (λ (x : Content). Obeys p x) (sym same.content) (stands.holds).obeys

    fit : RecordsFit p rs
    fit = subst (λ (xs : List BatchRecord). RecordsFit p xs) (sym same.records) (records_fit_of keys p (suc s.epoch) s.records old.cells (stands.holds).log)

    scheduled : OpeningIsScheduled p c rs found.epoch found.generation found.gates [] found.gates
    scheduled = openings_are_scheduled p c rs found.epoch found.generation found.gates [] found.gates obeys fit some.0

    -- what comes before the repeats is the schedule's
    pub begun_is : begun_notes p found ≡ before_repeats p q (gates_open found.gates) (suc found.generation)
    begun_is = sym (append-nil (begun_notes p found)) ∙ scheduled.notes 0 (omega arith) ∙ append-nil (before_repeats p q (gates_open found.gates) (suc found.generation))

    abbrev all : List Note
    all = open_notes p q (fills_of p c rs) (gates_open found.gates) (suc found.generation) (length rs)

    begun_front : (shown : List Note) → IsFront (begun_notes p found) shown → IsFront all shown
    begun_front shown front = subst (λ (ns : List Note). IsFront ns shown) scheduled.whole (front_more (begun_notes p found) (repeat_notes p c.versions (flat_of p c) rs) shown front)

    again_front : (count : ℕ) → count ≤ length rs → IsFront all (begun_notes p found ++ repeat_notes p c.versions (flat_of p c) (take count rs))
    again_front count few = subst (λ (ns : List Note). IsFront all ns) (sym (scheduled.notes count few)) ((openings_begin p q (fills_of p c rs) (gates_open found.gates) (suc found.generation) (length rs)).fewer count few)

    many : (shown : List Note) → length (begun_row p found) - suc (length shown) ≡ length (begun_notes p found) - length shown
    many shown = (let same_long = ap (λ (ns : List Note). length ns) begun_is in omega (arith, same_long))

    pub split : length (begun_notes p found) ≡ length (finding_notes p found.epoch) + suc (length (next_set found))
    split = length-append (finding_notes p found.epoch) (next_notes found)

    -- the register stood at what was found
    stood : StandsAt (tagging keys) 1 old.cells found.generation
    stood = subst (λ (n : ℕ). StandsAt (tagging keys) 1 old.cells n) (sym same.generation) stands.generation

    pub generation_by : (lack : ℕ) (image : Image) → IsSyncedLeft keys (suc found.generation) old.cells lack image → IsGenerationBy keys found.generation lack image
    generation_by zero image left = (left.number found.generation refl stood).stands
    generation_by (suc zero) image left = ⊎_elim (λ was. inl was.stands) (λ is. inr is.stands) (left.number found.generation refl stood)
    generation_by (suc (suc lack)) image left = (left.number found.generation refl stood).stands

    -- its first sync was shown
    begun_shown : (shown : List Note) → IsFront all shown → length (begun_notes p found) - length shown ≤ length (next_set found)
        → ((image : Image) → new.may_leave image → IsSyncedLeft keys (suc found.generation) old.cells (length (begun_notes p found) - length shown) image) → IsStopShown keys p old new (head_notes ++ shown)
    begun_shown shown front few left = inr (record {
      found = found;
      found_in = in_cells;
      found_open = some;
      count = suc (length shown);
      settled = (let reads = ap (λ (ns : List Note). length ns) (reads_are p found.epoch) in let whole = split in omega (arith, reads, whole, few));
      notes_are = ap (λ (ns : List Note). head_notes ++ ns) (front_take all shown front);
      left = λ image will. subst (λ (n : ℕ). IsBegunLeft keys found.generation old.cells n image) (sym (many shown)) (record { gates = left image will; stands = generation_by (length (begun_notes p found) - length shown) image (left image will) });
    })

    -- it wasn't
    reads_alone : (shown : List Note) → IsFront (begun_notes p found) shown → length (next_set found) < length (begun_notes p found) - length shown → Shrinks old new → IsStopShown keys p old new (head_notes ++ shown)
    reads_alone shown front many_lack shrinks = reads_shown shown
        (λ epoch at. subst (λ (n : ℕ). IsFront (finding_notes p n) shown) (number_found keys 5 old.cells epoch found.epoch at (in_cells.registers).epoch_whole (in_cells.registers).epoch_counts)
        (front_short (finding_notes p found.epoch) (next_notes found) shown front (let whole = split in omega (arith, whole, many_lack))))
        shrinks

module _ {S : Type 0} (disk : S → Disk) (keys : Keys) (most : ℕ) (p : Params) (old read new : S) (before after : Trace) (fault : Fault) (s : RingStanding) (tells : (disk old).tells) (stands : Stands keys p s (disk old).cells)
    (keeps : Keeps (disk old) (disk read)) (passes : Passes Same (disk old) (disk read)) where
  same_cells : (disk read).cells ≡ (disk old).cells
  same_cells = fun_ext (λ k. keeps.cells tells k)

  back : Shrinks (disk old) (disk read)
  back image will = (let (was, may, is) = passes.now image will in subst (λ (c : Image). (disk old).may_leave c) (sym is) may)

  by_reads : (reads : ReadsFirst keys p (disk read) (disk new) before after) → Shrinks (disk read) (disk new) → IsStopShown keys p (disk old) (disk new) (head_notes ++ notes_of_reads keys most p (disk read) (disk new) before after fault reads)
  by_reads (inl told) shrinks =
      reads_shown keys p (disk old) (disk new) told.shown (λ epoch at. front_more registers_notes _ told.shown (cut_front registers_notes told.made told.shown told.cut)) (λ image will. back image (shrinks image will))
  by_reads (inr part) shrinks =
      let registers : start.Found keys (disk old).cells part.generation part.epoch = subst (λ (c : Image). start.Found keys c part.generation part.epoch) same_cells (part.registers (keeps.tells tells)) in
      reads_shown keys p (disk old) (disk new) (part.told).shown
      (λ epoch at. subst (λ (n : ℕ). IsFront (finding_notes p n) (part.told).shown) (number_found keys 5 (disk old).cells epoch part.epoch at registers.epoch_whole registers.epoch_counts)
      (cut_front (finding_notes p part.epoch) (part.told).made (part.told).shown (part.told).cut))
      (λ image will. back image (shrinks image will))

  module _ (found : Found) (in_cells : IsFoundInRing keys p (disk old).cells found) (some : start.HaveOpen found.gates) where
    abbrev lacking : List Note → ℕ
    lacking shown = length (begun_notes p found) - length shown

    here : (lack : ℕ) (image : Image) → IsSyncedLeft keys (suc found.generation) (disk read).cells lack image → IsSyncedLeft keys (suc found.generation) (disk old).cells lack image
    here lack image left = subst (λ (c : Image). IsSyncedLeft keys (suc found.generation) c lack image) same_cells left

    by_stops : (stops : StopsAt (begun_notes p found) keys most p found (disk read) (disk new) before after fault)
        → IsStopShown keys p (disk old) (disk new) (head_notes ++ notes_at keys most p (disk read) (disk new) before after fault found stops)
    by_stops (inl short) = by_count (cases_lt (length (next_set found)) (lacking (short.first).shown))
      where
        before_sync : length (next_set found) < lacking (short.first).shown → (image : Image) → IsLeftByOpening keys found (disk read) (lacking (short.first).shown) image → (disk old).may_leave image
        before_sync many_lack image (inl was) = back image was.1
        before_sync many_lack image (inr since) = (let few = (since.0).1 in absurd (omega (arith, many_lack, few)))

        behind_sync : lacking (short.first).shown ≤ length (next_set found) → (image : Image) → IsLeftByOpening keys found (disk read) (lacking (short.first).shown) image → IsSyncedLeft keys (suc found.generation) (disk old).cells (lacking (short.first).shown) image
        behind_sync few image (inl was) = (let many_lack = was.0 in absurd (omega (arith, many_lack, few)))
        behind_sync few image (inr since) = here (lacking (short.first).shown) image (since.1 (keeps.tells tells))

        by_count : (length (next_set found) < lacking (short.first).shown) ⊎ (lacking (short.first).shown ≤ length (next_set found)) → IsStopShown keys p (disk old) (disk new) (head_notes ++ (short.first).shown)
        by_count (inl many_lack) = reads_alone keys p (disk old) (disk new) found s stands in_cells some (short.first).shown (cut_front (begun_notes p found) (short.first).made (short.first).shown (short.first).cut) many_lack
            (λ image will. before_sync many_lack image (short.left image will))
        by_count (inr few) =
            begun_shown keys p (disk old) (disk new) found s stands in_cells some (short.first).shown
            (begun_front keys p (disk old) (disk new) found s stands in_cells some (short.first).shown (cut_front (begun_notes p found) (short.first).made (short.first).shown (short.first).cut)) few
            (λ image will. behind_sync few image (short.left image will))
    by_stops (inr again) =
        let count : ℕ = ((again.told).repeats).count in
        let repeated_notes : List Note = repeat_notes p (content_of found.tables).versions (flat_of p (content_of found.tables)) (take count found.records) in
        let none : 0 ≡ lacking (begun_notes p found ++ repeated_notes) = (let whole = length-append (begun_notes p found) repeated_notes in omega (arith, whole)) in
        let few : lacking (begun_notes p found ++ repeated_notes) ≤ length (next_set found) = omega (arith, none) in
        begun_shown keys p (disk old) (disk new) found s stands in_cells some (begun_notes p found ++ repeated_notes)
        (again_front keys p (disk old) (disk new) found s stands in_cells some count ((again.told).repeats).few) few
        (λ image will. subst (λ (n : ℕ). IsSyncedLeft keys (suc found.generation) (disk old).cells n image) none (here 0 image (again.left image will (keeps.tells tells))))

  by_stop : (stops : OpeningStops keys most p (disk read) (disk new) before after fault)
      → IsStopShown keys p (disk old) (disk new) (head_notes ++ notes_of_stop keys most p (disk read) (disk new) before after fault stops)
  by_stop (inl reads) = by_reads reads.0 reads.1
  by_stop (inr behind) =
      by_stops behind.found (subst (λ (c : Image). IsFoundInRing keys p c behind.found) same_cells (behind.found_in (keeps.tells tells))) behind.found_open behind.stops

pub refused_openings : {S : Type 0} (disk : S → Disk) → RefusedOpeningsAreShown disk
refused_openings disk keys most p old read new before after fault s tells stands keeps passes stops = by_stop disk keys most p old read new before after fault s tells stands keeps passes stops

pub refused_heads : {S : Type 0} (disk : S → Disk) → RefusedHeadsAreShown disk
refused_heads disk keys p old new count passes = inl (record {
  shown = λ epoch stands. (let front = front_of count head_notes (reads_of (region_cells p GenerationTwin ++ region_cells p EpochTwin) ++ reads_of (check_cells p (epoch % 2)) ++ reads_of (region_cells p (LogArea ((epoch + 1) % 2)))) in (front.0, front.2));
  shrinks = λ image will. (let (was, may, is) = passes.now image will in subst (λ (c : Image). (disk old).may_leave c) (sym is) may);
})
