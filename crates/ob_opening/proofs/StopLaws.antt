-- What a refused opening leaves of the registers' gates.
use Rattle.std.specs.Prelude.{◌≡◌, ◌⊎◌, ℕ, suc, ◌-◌, ◌%◌, ◌||◌, Bool, true, false, not, IsTrue, List, [], ◌∷◌, ◌++◌, length, Result, Ok, Err, IfErr}
use Rattle.std.proofs.Common.{arith, inl, inr, ⊎_elim, length-append, sym, subst, ◌∙◌}
use Rattle.std.proofs.lemmas.Bool.{cases_eq, false≢true}
use mathlib.Core.Path.{fun_ext}
use Rattle.ob_base.specs.declared.params.Params.{Params}
use Rattle.ob_base.specs.declared.fault.Fault.{Fault}
use Rattle.ob_base.specs.declared.fault.Fault.TheVariants.{Memory, Usage, BadScript, BadParams, NotStore, Damaged, StoreFault, StashFull, Worn, SourceFault, SinkFault}
use Rattle.ob_store.proofs.Doing.{cut_behind, cut_more, cut_none, tells_none, tells_then}
use Rattle.ob_store.proofs.Events.{none_noted}
use Rattle.ob_store.proofs.Lanes.{first_none}
use Rattle.ob_store.specs.declared.watch.Note.{Note}
use Rattle.ob_store.specs.declared.watch.Note.TheVariants.{Sync}
use Rattle.ob_store.specs.Calls.{Keeps}
use Rattle.ob_store.specs.Disk.{Disk, Image}
use Rattle.ob_store.specs.Images.{IsSynced, Passes, Same, Shrinks}
use Rattle.ob_store.specs.Lines.{Trace}
use Rattle.ob_store.specs.Told.{Tells}
use Rattle.ob_seal.specs.declared.keys.Keys.{Keys}
use Rattle.ob_twin.specs.Opening.{GatesAre, HasOpen, is_closed_first, is_marked}
use Rattle.ob_twin.specs.Register.{IsOpen, place_of}
use Rattle.ob_twin.specs.Stops.{StopsShort}
use Rattle.ob_twin.specs.declared.gates.Open.{Open}
use Rattle.ob_start.specs.Beginning.{BeginStops, IsBeginFault, IsBeginLeft, IsSyncedLeft, IsWornFault}
use Rattle.ob_start.specs.Orders.{registers_notes}
use Rattle.ob_start.specs.Registers.{HaveOpen}
use Rattle.ob_recover.specs.declared.found.Found.{Found}
use Rattle.ob_recover.specs.Finds.{FindDoes, IsFoundInRing, finding_notes}
use Rattle.ob_opening.specs.declared.opening.Opening.{Opening}
use Rattle.ob_opening.specs.OpeningRuns.{RepeatsBehind, begun_notes, next_notes}
use Rattle.ob_opening.specs.OpeningStops.{IsLeftByOpening, OpeningStops, StopsAt, StopsInRepeats, next_set}
use Rattle.ob_opening.proofs.ActLaws.{find_first}
use Rattle.ob_opening.proofs.OpenedLaws.{repeats_behind}

-- ---- a gate that is closed first was open

closes_marked : (some marked : Bool) → IsTrue some → IsTrue (marked || not some) → IsTrue marked
closes_marked some true has closes = closes
closes_marked true false has closes = absurd (false≢true closes)
closes_marked false false has closes = absurd (false≢true has)

marked_open : (known : Open) (image : Image) (place : ℕ) → (place ≡ 0) ⊎ (place ≡ 1) → GatesAre known 1 image → IsTrue (is_marked known place) → IsOpen 1 image place
marked_open known image place (inl is) are = subst (λ (n : ℕ). IsTrue (is_marked known n) → IsOpen 1 image n) (sym is) (are.zero).0
marked_open known image place (inr is) are = subst (λ (n : ℕ). IsTrue (is_marked known n) → IsOpen 1 image n) (sym is) (are.one).0

pub closed_was_open : (known : Open) (image : Image) (n : ℕ) → GatesAre known 1 image → HasOpen known → IsTrue (is_closed_first known (place_of n)) → IsOpen 1 image (place_of n)
closed_was_open known image n are has closes =
    marked_open known image (place_of n) (⊎_elim (λ even. inl even) (λ odd. inr (omega arith)) (cases_eq (n % 2) 0)) are (closes_marked (known.zero || known.one) (is_marked known (place_of n)) has closes)

-- ---- images

shrinks_same : (old new : Disk) → Passes Same old new → Shrinks old new
shrinks_same old new passes = λ c left. let (d, was, same) = passes.now c left in subst (λ (image : Image). old.may_leave image) (sym same) was

begin_left : (keys : Keys) (found : Found) (old : Disk) (lacking : ℕ) (c : Image) → (old.tells → IsTrue (is_closed_first (found.gates).generation (place_of (suc found.generation))) → IsOpen 1 old.cells (place_of (suc found.generation)))
    → IsBeginLeft keys (is_closed_first (found.gates).generation (place_of (suc found.generation))) (suc found.generation) old lacking c → IsLeftByOpening keys found old lacking c
begin_left keys found old lacking c opened left = ⊎_elim (λ before. inl before) (λ since. inr (since.0, λ told. since.1 told (opened told))) left

-- reads came before
left_behind : (keys : Keys) (found : Found) (old mid : Disk) (lacking : ℕ) (c : Image) → Keeps old mid → Shrinks old mid → IsLeftByOpening keys found mid lacking c → IsLeftByOpening keys found old lacking c
left_behind keys found old mid lacking c keeps shrinks left = ⊎_elim
    (λ before. inl (before.0, shrinks c before.1))
    (λ since. inr (since.0, λ told. subst (λ (image : Image). IsSyncedLeft keys (suc found.generation) image lacking c) (fun_ext (λ k. keeps.cells told k)) (since.1 (keeps.tells told))))
    left

-- ---- behind what was found

module _ (keys : Keys) (most : ℕ) (p : Params) (found : Found) where
  -- nothing was done
  none_stops : (old : Disk) (t : Trace) (f : Fault) → StopsAt (next_notes found) keys most p found old old t t f
  none_stops old t f = inl (record {
    first = record { made = []; shown = []; cut = cut_more [] (next_notes found) [] [] (cut_none []); tells = tells_none old.seen t };
    left = λ c left. let all = length-append (Sync ∷ []) (next_set found) in inl (omega (arith, all), left);
  })

  -- the generation wasn't begun
  pub begin_stops : {S W : Type 0} (disk : S → Disk) (trace : W → Trace) (old new : S) (before after : W) (f : Fault) → ((disk old).tells → GatesAre (found.gates).generation 1 (disk old).cells) → HaveOpen found.gates → IsBeginFault found.generation f
      → (IsWornFault f → (new ≡ old) × (after ≡ before)) → BeginStops keys (found.gates).generation (suc found.generation) (disk old) (disk new) (trace before) (trace after) (Err f)
      → StopsAt (next_notes found) keys most p found (disk old) (disk new) (trace before) (trace after) f
  begin_stops {S} {W} disk trace old new before after f gates some fault still stops = by_fault f fault still stops
    where
      short : (g : Fault) → StopsShort (next_notes found) (next_notes found) (IsBeginLeft keys (is_closed_first (found.gates).generation (place_of (suc found.generation))) (suc found.generation) (disk old)) (disk old) (disk new) (trace before) (trace after)
          → StopsAt (next_notes found) keys most p found (disk old) (disk new) (trace before) (trace after) g
      short g stops = inl (record {
        first = stops.first;
        left = λ c left. begin_left keys found (disk old) _ c (λ told. closed_was_open (found.gates).generation (disk old).cells (suc found.generation) (gates told) some.0) (stops.left c left);
      })

      by_fault : (g : Fault) → IsBeginFault found.generation g → (IsWornFault g → (new ≡ old) × (after ≡ before)) → BeginStops keys (found.gates).generation (suc found.generation) (disk old) (disk new) (trace before) (trace after) (Err g)
          → StopsAt (next_notes found) keys most p found (disk old) (disk new) (trace before) (trace after) g
      by_fault Memory fault still stops = absurd fault
      by_fault Usage fault still stops = absurd fault
      by_fault (BadScript line) fault still stops = absurd fault
      by_fault (BadParams field) fault still stops = absurd fault
      by_fault NotStore fault still stops = absurd fault
      by_fault (Damaged cell check kept computed) fault still stops = absurd fault
      by_fault (StoreFault unsure) fault still stops = short (StoreFault unsure) stops
      by_fault (StashFull rows) fault still stops = absurd fault
      by_fault (Worn number) fault still stops =
          let same = still tt in
          subst (λ (s : S). StopsAt (next_notes found) keys most p found (disk old) (disk s) (trace before) (trace after) (Worn number)) (sym same.0)
          (subst (λ (w : W). StopsAt (next_notes found) keys most p found (disk old) (disk old) (trace before) (trace w) (Worn number)) (sym same.1) (none_stops (disk old) (trace before) (Worn number)))
      by_fault SourceFault fault still stops = absurd fault
      by_fault SinkFault fault still stops = absurd fault

  -- it was, and a batch wasn't repeated
  pub repeat_stops : (old mid new : Disk) (before after : Trace) (f : Fault) → RepeatsBehind {T = Unit {0}} (next_notes found) most p found old.seen new.seen before after (Err f) → (old.tells → IsSynced mid) → Passes Same mid new
      → (old.tells → IsSyncedLeft keys (suc found.generation) old.cells 0 mid.cells) → StopsAt (next_notes found) keys most p found old new before after f
  repeat_stops old mid new before after f told settled passes sure = inr (record {
    told = told;
    left = λ c left tells.
        let (d, was, same) = passes.now c left in
        let is : c ≡ mid.cells = same ∙ fun_ext (λ k. settled tells d was k) in
        subst (λ (image : Image). IsSyncedLeft keys (suc found.generation) old.cells 0 image) (sym is) (sure tells);
  })

  -- ---- the whole

  -- all reads came before
  module _ (old mid new : Disk) (before between after : Trace) (reads : Tells (finding_notes p found.epoch) (finding_notes p found.epoch) old.seen mid.seen before between) (keeps : Keeps old mid) (passes : Passes Same old mid) where
    abbrev rows : List Note
    rows = finding_notes p found.epoch

    as_many : (shown : List Note) → length (next_notes found) - length shown ≡ length (begun_notes p found) - length (rows ++ shown)
    as_many shown = (let all = length-append rows (next_notes found) in let some = length-append rows shown in omega (arith, all, some))

    short_behind : StopsShort (next_notes found) (next_notes found) (IsLeftByOpening keys found mid) mid new between after → StopsShort (begun_notes p found) (begun_notes p found) (IsLeftByOpening keys found old) old new before after
    short_behind stops = record {
      first = record {
        made = rows ++ (stops.first).made;
        shown = rows ++ (stops.first).shown;
        cut = cut_behind rows (next_notes found) (stops.first).made (stops.first).shown (stops.first).cut;
        tells = tells_then rows rows (stops.first).made (stops.first).shown old.seen mid.seen new.seen before between after reads (stops.first).tells;
      };
      left = λ c left. subst (λ (lacking : ℕ). IsLeftByOpening keys found old lacking c) (as_many (stops.first).shown) (left_behind keys found old mid _ c keeps (shrinks_same old mid passes) (stops.left c left));
    }

    repeats_then : (f : Fault) → StopsInRepeats (next_notes found) keys most p found mid new between after f → StopsInRepeats (begun_notes p found) keys most p found old new before after f
    repeats_then f stops = record {
      told = repeats_behind most p found rows (next_notes found) old.seen mid.seen new.seen before between after reads {T = Unit {0}} (Err f) stops.told;
      left = λ c left told. subst (λ (image : Image). IsSyncedLeft keys (suc found.generation) image 0 c) (fun_ext (λ k. keeps.cells told k)) (stops.left c left (keeps.tells told));
    }

    pub all_stops : {L : Type 0} (r : Result (Opening L) Fault) → (old.tells → IsFoundInRing keys p old.cells found) → HaveOpen found.gates → IfErr r (StopsAt (next_notes found) keys most p found mid new between after) → IfErr r (OpeningStops keys most p old new before after)
    all_stops (Ok o) is some stops = tt
    all_stops (Err f) is some stops = inr (record { found = found; found_in = is; found_open = some; stops = ⊎_elim (λ short. inl (short_behind short)) (λ repeats. inr (repeats_then f repeats)) stops })

-- ---- what wasn't found

pub find_stops : (keys : Keys) (most : ℕ) (p : Params) (old new : Disk) (k l : Trace) (f : Fault) → FindDoes keys p old new k l (Err f) → Passes Same old new → OpeningStops keys most p old new k l f
find_stops keys most p old new k l f does passes = inl (find_first keys p old new k l f does, shrinks_same old new passes)

-- nothing was done
pub unread_stops : (keys : Keys) (most : ℕ) (p : Params) (old : Disk) (t : Trace) (f : Fault) → OpeningStops keys most p old old t t f
unread_stops keys most p old t f = inl (inl (first_none registers_notes old.seen old.seen t (none_noted old.seen)), λ c left. left)
