-- What is left of a refused call is as its notes tell.
use Rattle.std.specs.Prelude.{◌≡◌, ◌<◌, ◌≤◌, ◌⊎◌, ℕ, ◌+◌, ◌-◌, ◌%◌, cond, List, [], ◌∷◌, ◌++◌, length, map, take, Option, None, Some, Err}
use Rattle.std.proofs.Common.{zero, suc, arith, length-append, refl, sym, ap, ◌∙◌, inl, inr, ⊎_elim}
use Rattle.std.proofs.lemmas.List.{length-take-le}
use Rattle.ob_base.specs.Layout.{EpochTwin, log_gate, record_cells}
use Rattle.ob_base.specs.Tree.{below}
use Rattle.ob_base.specs.declared.fault.Fault.{Fault}
use Rattle.ob_base.specs.declared.fault.Fault.TheVariants as fault
use Rattle.ob_base.specs.declared.params.Params.{Params}
use Rattle.ob_fetch.specs.Fetches.{next_batch}
use Rattle.ob_fetch.specs.declared.run.Run.{Run}
use Rattle.ob_end.specs.Shown.{before_gate, up_to_gate}
use Rattle.ob_log.specs.Appends.{append_notes, body_notes, gate_notes}
use Rattle.ob_recover.proofs.Orders.{record_written}
use Rattle.ob_recover.specs.Known.{fills_with_lifts, public_of_kept}
use Rattle.ob_recover.specs.Life.{WordId, LifeAct, LifeBatch, Append, ShowBatch}
use Rattle.ob_recover.specs.Lives.{life_batch}
use Rattle.ob_schedule.specs.Schedule.{Fills, Public, body_cell, end_lifts, end_notes, gate_cell, written_by_end}
use Rattle.ob_seal.specs.declared.keys.Keys.{Keys}
use Rattle.ob_serial.specs.VaultKinds.{Kind}
use Rattle.ob_serial.specs.Vaults.{DoubtBy, End, Ended, Fetch, RefusedBy, Values, VaultAnswer, VaultCall}
use Rattle.ob_serial.specs.declared.vault.EndErr.TheVariants as end
use Rattle.ob_store.specs.Disk.{Clock, Disk, Image, NotAfter}
use Rattle.ob_store.specs.Told.{IsCut}
use Rattle.ob_store.specs.declared.event.Event.{Event}
use Rattle.ob_store.specs.declared.watch.Note.{Note}
use Rattle.ob_store.specs.declared.watch.Note.TheVariants.{Sync, Write}
use Rattle.ob_vault.specs.Acts.{IsMadeAsTold}
use Rattle.ob_vault.specs.Hidden.{EndCutShown, RingCut, RingCutShown, RingHidden}
use Rattle.ob_vault.specs.RingKind.{RingFound}
use Rattle.ob_vault.specs.RingSteps.{HasRingWords, RingAt}
use Rattle.ob_vault.specs.RingVaults.{EndCalled, RingCalled, Running, record_of_fetch, write_from}
use Rattle.ob_vault.specs.Seen.{RingPublic, ring_notes}
use Rattle.ob_vault.specs.Shapes.{Ends}
use Rattle.ob_vault.proofs.Leaving.{goes_on_refused, refused_as_told}
use Rattle.ob_admitted.specs.Told.{CallsLeaveAsNoted, IsLeftAsNoted, StagesLeaveAsNoted, record_row, setting_row}
use Rattle.ob_admitted.proofs.Betweens.{behind_all, written_long}
use Rattle.ob_admitted.proofs.Cutting.{record_many}

-- ---- how many

-- what is cut short is no longer than the whole
cut_few : (row done shown : List Note) → IsCut row done shown → length shown ≤ length row
cut_few row done shown cut =
    let many : length done ≡ cut.count = ap (λ (l : List Note). length l) cut.made_are ∙ length-take-le cut.count row cut.few in
    let low : cut.count ≤ length row = cut.few in
    ⊎_elim
    (λ (all : shown ≡ done). let same : length shown ≡ length done = ap (λ (l : List Note). length l) all in omega (arith, many, low, same))
    (λ (failed : done ≡ shown ++ Sync ∷ []). let same : length done ≡ length (shown ++ Sync ∷ []) = ap (λ (l : List Note). length l) failed in omega (arith, many, low, same, length-append shown (Sync ∷ [])))
    cut.shown_are

-- without the last two, or the last one
before_few : (row : List Note) → 2 ≤ length row → length (before_gate row) + 2 ≡ length row
before_few row many = (let front : length (take (length row - 2) row) ≡ length row - 2 = length-take-le (length row - 2) row (omega arith) in omega (arith, many, front))

up_to_few : (row : List Note) → 1 ≤ length row → suc (length (up_to_gate row)) ≡ length row
up_to_few row many = (let front : length (take (length row - 1) row) ≡ length row - 1 = length-take-le (length row - 1) row (omega arith) in omega (arith, many, front))

-- an end that was refused has shown a note less at least
pub end_few : (most : ℕ) (p : Params) (q : RingPublic) (c : Fills) (notes : List Note) (seen : List Event) (refused : Fault) → EndCutShown most p q c refused seen notes → suc (length notes) ≤ length (ring_notes p q Ends c)
end_few most p q c notes seen refused shown = by_fault refused shown
  where
    row : List Note
    row = ring_notes p q Ends c

    lifts : notes ≡ end_lifts p q.known c → suc (length notes) ≤ length row
    lifts is =
        let same : length notes ≡ length (end_lifts p q.known c) = ap (λ (ns : List Note). length ns) is in
        let some = written_long p q.known in
        let all = length-append (end_lifts p q.known c) (written_by_end p q.known) in
        omega (arith, same, some, all)

    none : notes ≡ [] → suc (length notes) ≤ length row
    none is =
        let same : length notes ≡ 0 = ap (λ (ns : List Note). length ns) is in
        let some = written_long p q.known in
        let all = length-append (end_lifts p q.known c) (written_by_end p q.known) in
        omega (arith, same, some, all)

    long : 5 ≤ length row
    long = (let some = written_long p q.known in let all = length-append (end_lifts p q.known c) (written_by_end p q.known) in omega (arith, some, all))

    by_fault : (x : Fault) → EndCutShown most p q c x seen notes → suc (length notes) ≤ length row
    by_fault (fault.StoreFault None) front = (let few = cut_few (before_gate row) front.made notes front.cut in let short = before_few row (omega (arith, long)) in omega (arith, few, short))
    by_fault (fault.StoreFault (Some epoch)) is = (let same : length notes ≡ length (up_to_gate row) = ap (λ (ns : List Note). length ns) is in let short = up_to_few row (omega (arith, long)) in omega (arith, same, short))
    by_fault (fault.Damaged cell check kept computed) is = lifts is
    by_fault (fault.StashFull rows) is = lifts is
    by_fault (fault.Worn number) is = ⊎_elim (λ (nothing : (seen ≡ []) × (notes ≡ [])). none nothing.1) (λ some. lifts some.1) is
    by_fault fault.Memory is = absurd is
    by_fault fault.Usage is = absurd is
    by_fault (fault.BadScript line) is = absurd is
    by_fault (fault.BadParams what) is = absurd is
    by_fault fault.NotStore is = absurd is
    by_fault fault.SourceFault is = absurd is
    by_fault fault.SinkFault is = absurd is

module _ {V S : Type 0} (k : Kind V) (disk : S → Disk) (runs : V → Running S) (words : HasRingWords k disk runs) (keys : Keys) (most : ℕ) (p : Params) (f : RingFound) (opened : Disk) (q : RingPublic) (h : RingHidden) (n : ℕ) (v : V)
    (at : RingAt k disk runs keys most p f opened q h n v) (w : V) (notes : List Note) (word_of : WordId → ℕ) (c : Fills) (made : List LifeAct) (in_flight : Option LifeAct) where
  abbrev run : Run
  run = (runs v).run

  abbrev count : ℕ
  count = length notes

  abbrev Told : VaultCall → Type 0
  Told call = IsMadeAsTold disk word_of (runs v) (runs w) notes call made in_flight

  -- ---- a batch

  append_many : length (append_notes run.params (suc run.epoch) (next_batch run)) ≡ length (record_row p q)
  append_many =
      ap (λ (ns : List Note). length ns) (record_written run.params (suc run.epoch) (next_batch run)) ∙ record_many run.params (suc run.epoch % 2) (next_batch run) ∙ ap (λ (x : Params). length (below (record_cells x)) + 3) at.params
      ∙ sym (record_many p (((q.known).epoch + 1) % 2) q.shown)

  body_many : length (body_notes run.params (suc run.epoch) (next_batch run)) + 2 ≡ length (record_row p q)
  body_many = (let all = append_many in let parts = length-append (body_notes run.params (suc run.epoch) (next_batch run)) (Write (log_gate run.params (suc run.epoch % 2) (next_batch run)) ∷ Sync ∷ []) in omega (arith, all, parts))

  gate_many : length (gate_notes run.params (suc run.epoch) (next_batch run)) + 1 ≡ length (record_row p q)
  gate_many = (let all = body_many in let parts = length-append (body_notes run.params (suc run.epoch) (next_batch run)) (Write (log_gate run.params (suc run.epoch % 2) (next_batch run)) ∷ []) in omega (arith, all, parts))

  fetch_noted : (asks : List (Option ℕ)) → 0 < run.left → length asks ≡ (run.params).places → Told (Fetch asks) → IsLeftAsNoted p q (Fetch asks) c count made in_flight
  fetch_noted asks some whole told = (((let left = at.left in let shown = at.shown in omega (arith, left, shown, some)), whole ∙ ap (λ (x : Params). x.places) at.params), go told)
    where
      go : Told (Fetch asks) → (((made ≡ []) × (in_flight ≡ None) × (suc count < length (record_row p q))) ⊎ ((made ≡ []) × (suc count ≡ length (record_row p q))))
          ⊎ (((b : LifeBatch) × (b.asks ≡ asks) × (made ≡ Append b ∷ ShowBatch ∷ [])) × (length (record_row p q) ≤ count))
      go (inl (inl (none, idle, (done, cut)))) = (let few = cut_few (body_notes run.params (suc run.epoch) (next_batch run)) done notes cut in let all = body_many in inl (inl (none, idle, omega (arith, few, all))))
      go (inl (inr (none, is))) = (let same : count ≡ length (gate_notes run.params (suc run.epoch) (next_batch run)) = ap (λ (ns : List Note). length ns) is in let all = gate_many in inl (inr (none, omega (arith, same, all))))
      go (inr (is, (more, are))) =
          let same : count ≡ length (append_notes run.params (suc run.epoch) (next_batch run) ++ more) = ap (λ (ns : List Note). length ns) are in
          let parts = length-append (append_notes run.params (suc run.epoch) (next_batch run)) more in
          let all = append_many in
          inr ((life_batch (record_of_fetch disk (runs v) (runs w) notes asks), refl, is), omega (arith, same, parts, all))

  -- ---- an end

  abbrev row : List Note
  row = ring_notes p q Ends c

  written : 5 ≤ length (written_by_end p q.known)
  written = written_long p q.known

  row_parts : length row ≡ length (end_lifts p q.known c) + length (written_by_end p q.known)
  row_parts = length-append (end_lifts p q.known c) (written_by_end p q.known)

  abbrev EndNoted : Type 0
  EndNoted = ((in_flight ≡ None) × (suc count < length row)) ⊎ (suc count ≡ length row)

  lifts_noted : in_flight ≡ None → notes ≡ end_lifts p q.known c → EndNoted
  lifts_noted idle is = (let same : count ≡ length (end_lifts p q.known c) = ap (λ (ns : List Note). length ns) is in let some = written in let all = row_parts in inl (idle, omega (arith, same, some, all)))

  none_noted : in_flight ≡ None → notes ≡ [] → EndNoted
  none_noted idle is = (let same : count ≡ 0 = ap (λ (ns : List Note). length ns) is in let some = written in let all = row_parts in inl (idle, omega (arith, same, some, all)))

  gate_noted : (whole : List Note) → length whole ≡ length row → notes ≡ up_to_gate whole → EndNoted
  gate_noted whole many is =
      let some = written in
      let all = row_parts in
      let same : count ≡ length (up_to_gate whole) = ap (λ (ns : List Note). length ns) is in
      let front = up_to_few whole (omega (arith, many, some, all)) in
      inr (omega (arith, same, front, many))

  -- refused before its register's gate
  before_noted : (seen : List Event) (refused : Fault) → in_flight ≡ None → EndCutShown most p q c refused seen notes → EndNoted
  before_noted seen (fault.StoreFault None) idle front =
      let some = written in
      let all = row_parts in
      let few = cut_few (before_gate row) front.made notes front.cut in
      let short = before_few row (omega (arith, some, all)) in
      inl (idle, omega (arith, few, short))
  before_noted seen (fault.StoreFault (Some epoch)) idle is = gate_noted row refl is
  before_noted seen (fault.Damaged cell check kept computed) idle is = lifts_noted idle is
  before_noted seen (fault.StashFull rows) idle is = lifts_noted idle is
  before_noted seen (fault.Worn number) idle is = ⊎_elim (λ (none : (seen ≡ []) × (notes ≡ [])). none_noted idle none.1) (λ lifts. lifts_noted idle lifts.1) is
  before_noted seen fault.Memory idle is = absurd is
  before_noted seen fault.Usage idle is = absurd is
  before_noted seen (fault.BadScript line) idle is = absurd is
  before_noted seen (fault.BadParams what) idle is = absurd is
  before_noted seen fault.NotStore idle is = absurd is
  before_noted seen fault.SourceFault idle is = absurd is
  before_noted seen fault.SinkFault idle is = absurd is

  -- or in doubt
  abbrev planned_row : Params → List Note
  planned_row x = end_notes x (public_of_kept x h.content h.records run.epoch run.gates) (fills_with_lifts x h.content h.records)

  doubt_noted : (writes : List (ℕ × Option (List ℕ))) (f' : Fault) → c ≡ fills_with_lifts p h.content h.records → EndCalled disk (runs v) (runs w) notes (map write_from writes) (Err (end.Unsure f')) → EndNoted
  doubt_noted writes f' fills called =
      let same : planned_row run.params ≡ row =
      ap planned_row at.params ∙ ap (λ (x : Public). end_notes p x (fills_with_lifts p h.content h.records)) at.known ∙ ap (λ (x : Fills). end_notes p q.known x) (sym fills) in
      gate_noted (planned_row run.params) (ap (λ (ns : List Note). length ns) same) (called.scheduled h.content h.records at.planned).all

  end_noted : (writes : List (ℕ × Option (List ℕ))) (seen : List Event) (refused : Fault) → RingCut most p q h (End writes) c (runs w).drawn refused seen → RingCutShown most p q (End writes) c refused seen notes → Told (End writes)
      → IsLeftAsNoted p q (End writes) c count made in_flight
  end_noted writes seen refused cut shown (lifts, inl (idle, (f', called))) = (lifts, before_noted seen refused idle shown)
  end_noted writes seen refused cut shown (lifts, inr (f', called)) = (lifts, doubt_noted writes f' cut.0 called)

  -- ---- either

  fetch_left : (asks : List (Option ℕ)) (answer : VaultAnswer) → RingCalled disk (runs v) (runs w) notes (Fetch asks) answer → (0 < run.left) × (length asks ≡ (run.params).places)
  fetch_left asks (Values out) is = (is.some_left, is.whole)
  fetch_left asks (RefusedBy refused) is = (is.some_left, is.whole)
  fetch_left asks Ended is = absurd is
  fetch_left asks (DoubtBy refused) is = absurd is

  pub call_noted : (call : VaultCall) (answer : VaultAnswer) (seen : List Event) (refused : Fault) → RingCalled disk (runs v) (runs w) notes call answer → RingCut most p q h call c (runs w).drawn refused seen → RingCutShown most p q call c refused seen notes → Told call
      → IsLeftAsNoted p q call c count made in_flight
  call_noted (Fetch asks) answer seen refused called cut shown told = (let left = fetch_left asks answer called in fetch_noted asks left.0 left.1 told)
  call_noted (End writes) answer seen refused called cut shown told = end_noted writes seen refused cut shown told

pub calls_noted : {V S : Type 0} (k : Kind V) (disk : S → Disk) → ((x : S) (t : Clock) (c : Image) → NotAfter t (disk x).moment → (disk x).may_leave c → (disk x).left_since t c) → ((x : S) (c : Image) → (disk x).left_since (disk x).moment c → (disk x).may_leave c)
    → CallsLeaveAsNoted k disk
calls_noted k disk counts_now only_now runs words keys most p f first calls steps q h n v drawn at call answer w one unserved c refused seen cut shown = (
  goes_on_refused k disk runs words counts_now only_now keys most p f (disk (runs first).store) calls steps q h n v drawn at call answer w one c refused seen cut shown,
  λ word_of s here tape m is. call_noted k disk runs words keys most p f (disk (runs first).store) q h n v at w one.notes word_of c _ _ call answer seen refused (words.called v call answer one.notes w one.called) cut shown
      (refused_as_told k disk runs words counts_now only_now keys most p f (disk (runs first).store) calls steps q h n v drawn at call answer w one c refused seen cut shown unserved word_of s here tape m is),
)

-- by the stage in which a call was cut off
-- a set has four notes at least
pub setting_long : (p : Params) (q : RingPublic) → 4 ≤ length (setting_row p q)
setting_long p q =
    let e : ℕ = (q.known).epoch + 1 in
    behind_all 4 (cond ((q.known).gates (gate_cell p EpochTwin e)) (Write (gate_cell p EpochTwin e) ∷ Sync ∷ []) []) (Write (body_cell p EpochTwin e) ∷ Sync ∷ Write (gate_cell p EpochTwin e) ∷ Sync ∷ []) (omega arith)

pub stages_noted : StagesLeaveAsNoted
stages_noted p q (Fetch asks) c zero shown made in_flight may are many = (may, inl (inl (are.0, are.1, many)))
stages_noted p q (Fetch asks) c (suc zero) shown made in_flight may are many = (may, inl (inr (are, many)))
stages_noted p q (Fetch asks) c (suc (suc stage)) shown made in_flight may are many = (may, inr (are.0, many))
stages_noted p q (End writes) c zero shown made in_flight may are many = (let set = setting_long p q in (are.0, inl (are.1, omega (arith, many, set))))
stages_noted p q (End writes) c (suc zero) shown made in_flight may are many = (are.0, inl (are.1, omega (arith, many)))
stages_noted p q (End writes) c (suc (suc zero)) shown made in_flight may are many = (let least = many.0 in (are.0, inl (are.1, omega (arith, least))))
stages_noted p q (End writes) c (suc (suc (suc stage))) shown made in_flight may are many = (are, inr (omega (arith, many)))
