-- What a begin that was refused leaves of the generations' register, by how many of its notes weren't shown.
use Rattle.std.proofs.Common.{◌≡◌, ◌≤◌, ℕ, zero, suc, ◌+◌, ◌-◌, Bool, true, false, inl, inr, List, [], ◌∷◌, ◌++◌, length, length-append, Err, append_assoc, ⊎_elim, ap, arith, refl, subst, sym, ◌∙◌}
use Rattle.std.proofs.lemmas.List.{length-take-le}
use mathlib.Core.Path.{fun_ext}
use Rattle.ob_seal.specs.declared.keys.Keys.{Keys}
use Rattle.ob_store.proofs.Doing.{cut_behind, cut_more, cut_none, cut_sync, tells_then}
use Rattle.ob_store.specs.Calls.{Keeps}
use Rattle.ob_store.specs.Disk.{Disk, Image}
use Rattle.ob_store.specs.Images.{IsSynced, Passes, Shrinks}
use Rattle.ob_store.specs.Lines.{Trace}
use Rattle.ob_store.specs.Told.{IsCut, Tells}
use Rattle.ob_store.specs.declared.watch.Note.{Note}
use Rattle.ob_store.specs.declared.watch.Note.TheVariants.{Sync, Write}
use Rattle.ob_twin.specs.Keyed.{tagging}
use Rattle.ob_twin.specs.Opening.{is_closed_first}
use Rattle.ob_twin.specs.Orders.{SetDoes, gate_notes, prepare_notes, set_notes, through_notes}
use Rattle.ob_twin.specs.Register.{IsPut, KeepsAt, SameOutside, StandsAt, gate_at, place_of}
use Rattle.ob_twin.specs.Refused.{SetLeaves}
use Rattle.ob_twin.specs.Stops.{IsRegisterLeft, IsSettingLeft, SetStops, StopsShort}
use Rattle.ob_twin.specs.declared.gates.Open.{Open}
use Rattle.ob_twin.specs.declared.set_err.SetErr.{SetErr}
use Rattle.ob_twin.specs.declared.set_err.SetErr.TheVariants.{Before, Unsure}
use Rattle.ob_start.specs.Beginning.{IsBeginLeft, IsNumberBy, IsSyncedLeft}
use Rattle.ob_start.specs.Orders.{begin_notes}

-- what is cut short is no longer than the whole
cut_few : (row made shown : List Note) → IsCut row made shown → length shown ≤ length row
cut_few row made shown cut =
    let many : length made ≡ cut.count = ap (λ (l : List Note). length l) cut.made_are ∙ length-take-le cut.count row cut.few in
    let low : cut.count ≤ length row = cut.few in
    ⊎_elim
    (λ (all : shown ≡ made). let same : length shown ≡ length made = ap (λ (l : List Note). length l) all in omega (arith, many, low, same))
    (λ (failed : made ≡ shown ++ Sync ∷ []). let same : length made ≡ length (shown ++ Sync ∷ []) = ap (λ (l : List Note). length l) failed in omega (arith, many, low, same, length-append shown (Sync ∷ [])))
    cut.shown_are

module _ (keys : Keys) (known : Open) (n : ℕ) (old new : Disk) where
  abbrev closes : Bool
  closes = is_closed_first known (place_of n)

  abbrev pub Stops : Trace → Trace → Type 0
  Stops k l = StopsShort (begin_notes known n) (begin_notes known n) (IsBeginLeft keys closes n old) old new k l

  -- all was done
  pub set_leaves : (mid : Disk) → Keeps old mid → SameOutside 1 new.cells old.cells → old.tells → IsPut (tagging keys) 1 mid.cells n new.cells → ((m : ℕ) → n ≡ suc m → StandsAt (tagging keys) 1 old.cells m → KeepsAt (tagging keys) 1 old.cells n new.cells)
      → IsSyncedLeft keys n old.cells 0 new.cells
  set_leaves mid keeps rest told put stands = record {
    number = stands;
    rest = rest;
    register = record { place = put.opened; other = put.rest (gate_at 1 (place_of (n + 1))) (λ e. omega (arith, e)) (λ e. omega (arith, e)) ∙ keeps.cells told (gate_at 1 (place_of (n + 1))) };
  }

  -- the sync was refused
  pub sync_stops : (k l : Trace) → Tells (Sync ∷ []) [] old.seen new.seen k l → Shrinks old new → Stops k l
  sync_stops k l tells shrinks = record {
    first = record { made = Sync ∷ []; shown = []; cut = cut_more (Sync ∷ []) (set_notes closes 1 n) (Sync ∷ []) [] (cut_sync []); tells = tells };
    left = λ c left.
        let all = length-append (Sync ∷ []) (set_notes closes 1 n) in
        inl (omega (arith, all), shrinks c left);
  }

  -- or the set behind it
  module _ (mid : Disk) (k l m : Trace) (synced : Tells (Sync ∷ []) (Sync ∷ []) old.seen mid.seen k l) (keeps : Keeps old mid) (settled : old.tells → IsSynced mid) (passes : Passes (SameOutside 1) mid new) where
    abbrev all : List Note
    all = set_notes closes 1 n

    -- the number by how many lack, if the register stood at the one before
    abbrev CountsBy : ℕ → Image → Type 0
    CountsBy lacking c = (m : ℕ) → n ≡ suc m → mid.tells → IsSynced mid → StandsAt (tagging keys) 1 mid.cells m → IsNumberBy keys mid.cells m n lacking c

    onto : (lacking : ℕ) (c : Image) → new.may_leave c → (1 ≤ lacking) × (lacking ≤ length all) → IsSettingLeft (tagging keys) closes 1 n mid lacking c → CountsBy lacking c → IsBeginLeft keys closes n old lacking c
    onto lacking c left few setting counts = inr (
      few,
      λ told opened.
          let same : mid.cells ≡ old.cells = fun_ext (λ j. keeps.cells told j) in
          let passed = passes.now c left in
          record {
            rest = λ k out. passed.2 k out ∙ settled told passed.0 passed.1 k ∙ keeps.cells told k;
            register = subst (λ (i : Image). IsRegisterLeft (tagging keys) 1 n i lacking c) same (setting (keeps.tells told) (settled told) (λ closed. keeps.cells told (gate_at 1 (place_of n)) ∙ opened closed));
            number = λ m is stands. subst (λ (i : Image). IsNumberBy keys i m n lacking c) same (counts m is (keeps.tells told) (settled told) (subst (λ (i : Image). StandsAt (tagging keys) 1 i m) (sym same) stands));
          },
    )

    abbrev gate : List Note
    gate = gate_notes closes 1 n

    gate_then_sync : gate ++ Sync ∷ [] ≡ all
    gate_then_sync = append_assoc (prepare_notes closes 1 n) (Write (gate_at 1 (place_of n)) ∷ []) (Sync ∷ [])

    one_lacks : (b : Bool) → length (set_notes b 1 n) - length (gate_notes b 1 n) ≡ 1
    one_lacks true = refl
    one_lacks false = refl

    some_lack : (b : Bool) → 1 ≤ length (set_notes b 1 n)
    some_lack true = omega arith
    some_lack false = omega arith

    -- as many lack as of the set's own
    as_many : (shown : List Note) → length all - length shown ≡ length (begin_notes known n) - length (Sync ∷ shown)
    as_many shown = (let rows = length-append (Sync ∷ []) all in let shows = length-append (Sync ∷ []) shown in omega (arith, rows, shows))

    -- and two at least of one that was cut short before its gate
    some_left : (made shown : List Note) → IsCut (prepare_notes closes 1 n) made shown → (2 ≤ length all - length shown) × (length all - length shown ≤ length all)
    some_left made shown cut =
        let few = cut_few (prepare_notes closes 1 n) made shown cut in
        let parts = length-append (prepare_notes closes 1 n) (through_notes (gate_at 1 (place_of n))) in
        (omega (arith, few, parts), omega arith)

    unsure_left : ((c : Image) → new.may_leave c → IsSettingLeft (tagging keys) closes 1 n mid 1 c) → ((c : Image) → new.may_leave c → CountsBy 1 c) → (c : Image) → new.may_leave c → IsBeginLeft keys closes n old (length (begin_notes known n) - length (Sync ∷ gate)) c
    unsure_left stops counts c left = subst (λ (lacking : ℕ). IsBeginLeft keys closes n old lacking c) (sym (one_lacks closes) ∙ as_many gate) (onto 1 c left (omega arith, some_lack closes) (stops c left) (counts c left))

    -- where two lack at least, the old number
    old_by : (m lacking : ℕ) (c : Image) → 2 ≤ lacking → KeepsAt (tagging keys) 1 mid.cells m c → IsNumberBy keys mid.cells m n lacking c
    old_by m zero c two keeps = absurd (omega (arith, two))
    old_by m (suc zero) c two keeps = absurd (omega (arith, two))
    old_by m (suc (suc more)) c two keeps = keeps

    -- what the set says of its images, at its return
    abbrev Counts : SetErr → Type 0
    Counts x = (c : Image) → new.may_leave c → (m : ℕ) → n ≡ suc m → mid.tells → IsSynced mid → StandsAt (tagging keys) 1 mid.cells m → SetLeaves (tagging keys) 1 mid.cells m n (Err x) c

    pub set_stops : (x : SetErr) → SetDoes closes 1 n mid.seen new.seen l m (Err x) → SetStops (tagging keys) closes 1 n mid new l m (Err x) → Counts x → Stops k m
    set_stops (Before fault) does stops counts = record {
      first = record {
        made = Sync ∷ (stops.first).made;
        shown = Sync ∷ (stops.first).shown;
        cut = cut_behind (Sync ∷ []) all (stops.first).made (stops.first).shown (cut_more (prepare_notes closes 1 n) (through_notes (gate_at 1 (place_of n))) (stops.first).made (stops.first).shown (stops.first).cut);
        tells = tells_then (Sync ∷ []) (Sync ∷ []) (stops.first).made (stops.first).shown old.seen mid.seen new.seen k l m synced (stops.first).tells;
      };
      left = λ c left.
          let few = some_left (stops.first).made (stops.first).shown (stops.first).cut in
          let lacking = length all - length (stops.first).shown in
          subst (λ (lacking : ℕ). IsBeginLeft keys closes n old lacking c) (as_many (stops.first).shown)
          (onto lacking c left (omega (arith, few.0), few.1) (stops.left c left) (λ m is told settled stands. old_by m lacking c few.0 (counts c left m is told settled stands)));
    }
    set_stops (Unsure fault) (inl one) stops counts = record {
      first = record {
        made = Sync ∷ gate;
        shown = Sync ∷ gate;
        cut = cut_behind (Sync ∷ []) all gate gate (subst (λ (row : List Note). IsCut row gate gate) gate_then_sync (cut_more gate (Sync ∷ []) gate gate (cut_none gate)));
        tells = tells_then (Sync ∷ []) (Sync ∷ []) gate gate old.seen mid.seen new.seen k l m synced one;
      };
      left = unsure_left stops counts;
    }
    set_stops (Unsure fault) (inr both) stops counts = record {
      first = record {
        made = Sync ∷ all;
        shown = Sync ∷ gate;
        cut = cut_behind (Sync ∷ []) all all gate (subst (λ (row : List Note). IsCut row row gate) gate_then_sync (cut_sync gate));
        tells = tells_then (Sync ∷ []) (Sync ∷ []) all gate old.seen mid.seen new.seen k l m synced both;
      };
      left = unsure_left stops counts;
    }
