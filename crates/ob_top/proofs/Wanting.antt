-- Why a self-test over a ring vault is refused: for want of memory, or by its store.
use Rattle.std.specs.List.{All}
use Rattle.std.specs.FinMap.{empty}
use Rattle.std.proofs.Common.{◌≡◌, ◌⊎◌, ◌*◌, ◌≤◌, ℕ, suc, List, [], ◌∷◌, ◌++◌, length, get_or, Option, Some, refl, sym, ap, subst, arith, inl, inr}
use Rattle.std.proofs.Math.Nat.{mul-le-mul_right}
use Rattle.ob_base.specs.Layout.{checkpoint_cells, checkpoint_len, record_cells}
use Rattle.ob_base.specs.Tree.{buckets}
use Rattle.ob_base.specs.declared.fault.Fault.{Fault}
use Rattle.ob_base.specs.declared.fault.Fault.TheVariants as fault
use Rattle.ob_base.specs.declared.params.Params.{Params}
use Rattle.ob_seal.specs.declared.keys.Keys.{Keys}
use Rattle.ob_start.specs.Heads.{numbers_of}
use Rattle.ob_store.specs.Calls.{IsStoreFault}
use Rattle.ob_store.specs.Disk.{Disk}
use Rattle.ob_store.specs.Lines.{Shows}
use Rattle.ob_store.specs.declared.watch.Note.{Note}
use Rattle.ob_serial.specs.Vaults.{VaultCall, Fetch, End, VaultAnswer, Values, Ended, RefusedBy, DoubtBy, VaultState}
use Rattle.ob_serial.specs.VaultKinds.{AllCalled, Kind, ended_of}
use Rattle.ob_vault.specs.Causes.{RingLasts, seals_an_epoch, words_an_epoch}
use Rattle.ob_vault.specs.Hidden.{RingHidden}
use Rattle.ob_vault.specs.RingKind.{IsRingMap, RingCauses, RingFound, RingMayStop, ring_kind}
use Rattle.ob_vault.specs.Shapes.{Shape}
use Rattle.ob_vault.specs.Steps.{IsRefusalWhy}
use Rattle.ob_vault.proofs.Standing.{ring_keeps}
use Rattle.ob_conduct.specs.Acts.{fault_of}
use Rattle.ob_conduct.specs.Records.{AreAnswered}
use Rattle.ob_conduct.specs.Scenes.{AllNoted}
use Rattle.ob_conduct.specs.declared.run_err.RunErr.{RunErr}
use Rattle.ob_conduct.specs.declared.run_err.RunErr.TheVariants as failed
use Rattle.ob_drill.specs.Reading.{IsReading}
use Rattle.ob_top.specs.Drilling.{no_output}
use Rattle.ob_top.specs.Drills.{drill_numbers}
use Rattle.ob_top.specs.Outside.{blind}
use Rattle.ob_top.specs.Runs.{EndsFor}

-- ---- calls that read

head_read : (step : VaultCall × VaultAnswer) (steps : List (VaultCall × VaultAnswer)) → All IsReading (step ∷ steps) → IsReading step
head_read step steps all = all 0 step (omega arith)

rest_read : (step : VaultCall × VaultAnswer) (steps : List (VaultCall × VaultAnswer)) → All IsReading (step ∷ steps) → All IsReading steps
rest_read step steps all i d lt = all (suc i) d (omega (arith, lt))

-- a reading of a map that held it
pub reads_answered : {V : Type 0} (k : Kind V) (first : V) (v : VaultState) (steps : List (VaultCall × VaultAnswer)) (last : V) → k.holds first v → AllCalled k first steps last → All IsReading steps → AreAnswered steps
reads_answered k first v [] last held chain all = tt
reads_answered k first v ((Fetch keys, Values values) ∷ steps) last held (mid, one, rest) all = reads_answered k mid _ steps last (one.holds v held) rest (rest_read _ steps all)
reads_answered k first v ((Fetch keys, Ended) ∷ steps) last held (mid, one, rest) all = absurd (one.answered v held)
reads_answered k first v ((Fetch keys, RefusedBy fault) ∷ steps) last held chain all = absurd (head_read _ steps all).1
reads_answered k first v ((Fetch keys, DoubtBy fault) ∷ steps) last held chain all = absurd (head_read _ steps all).1
reads_answered k first v ((End writes, Ended) ∷ steps) last held (mid, one, rest) all = reads_answered k mid _ steps last (one.holds v held) rest (rest_read _ steps all)
reads_answered k first v ((End writes, Values values) ∷ steps) last held (mid, one, rest) all = absurd (one.answered v held)
reads_answered k first v ((End writes, RefusedBy fault) ∷ steps) last held chain all = absurd (head_read _ steps all).1
reads_answered k first v ((End writes, DoubtBy fault) ∷ steps) last held chain all = absurd (head_read _ steps all).1

-- at most so many calls end at most so many epochs
pub few_ended : (steps : List (VaultCall × VaultAnswer)) → length (ended_of steps) ≤ length steps
few_ended [] = omega arith
few_ended ((End writes, Ended) ∷ steps) = let f = few_ended steps in omega (arith, f)
few_ended ((End writes, Values values) ∷ steps) = let f = few_ended steps in omega (arith, f)
few_ended ((End writes, RefusedBy fault) ∷ steps) = let f = few_ended steps in omega (arith, f)
few_ended ((End writes, DoubtBy fault) ∷ steps) = let f = few_ended steps in omega (arith, f)
few_ended ((Fetch keys, Ended) ∷ steps) = let f = few_ended steps in omega (arith, f)
few_ended ((Fetch keys, Values values) ∷ steps) = let f = few_ended steps in omega (arith, f)
few_ended ((Fetch keys, RefusedBy fault) ∷ steps) = let f = few_ended steps in omega (arith, f)
few_ended ((Fetch keys, DoubtBy fault) ∷ steps) = let f = few_ended steps in omega (arith, f)

pub chained : {V : Type 0} (k : Kind V) (first : V) (xs : List (VaultCall × VaultAnswer)) (mid : V) (ys : List (VaultCall × VaultAnswer)) (last : V) → AllCalled k first xs mid → AllCalled k mid ys last → AllCalled k first (xs ++ ys) last
chained k first [] mid ys last same rest = subst (λ x. AllCalled k x ys last) same rest
chained k first (x ∷ xs) mid ys last (next, one, more) rest = (next, one, chained k next xs mid ys last more rest)

-- whatever is shown to no watch
none_shown : (notes : List Note) → Shows notes blind blind
none_shown notes = record { anchors = refl; faults = omega arith; breaks = tt; lines = tt }

-- the notes of calls that no watch was shown
pub blind_chain : {V : Type 0} (k : Kind V) (first : V) (steps : List (VaultCall × VaultAnswer)) (last : V) → AllCalled k first steps last → (notes : List Note) × AllNoted k first blind steps notes last blind
blind_chain k first [] last same = ([], (same, refl, refl))
blind_chain k first (step ∷ steps) last (mid, one, rest) =
    let (more, chain) = blind_chain k mid steps last rest in
    (one.notes ++ more, (mid, blind, record { one = one; whole = refl; shown = none_shown one.notes }, more, refl, chain))

-- ---- numbers

module _ (p : Params) (numbers : numbers_of p ≡ drill_numbers) where
  levels_are : p.levels ≡ 8
  levels_are = ap (λ (l : List ℕ). get_or l 1 0) numbers

  real_are : p.real ≡ 4
  real_are = ap (λ (l : List ℕ). get_or l 2 0) numbers

  dummies_are : p.dummies ≡ 6
  dummies_are = ap (λ (l : List ℕ). get_or l 3 0) numbers

  places_are : p.places ≡ 4
  places_are = ap (λ (l : List ℕ). get_or l 5 0) numbers

  room_is : p.room ≡ 256
  room_is = ap (λ (l : List ℕ). get_or l 8 0) numbers

  its_keys : p.keys ≡ 256
  its_keys = ap (λ (l : List ℕ). get_or l 0 0) numbers

  its_batches : p.batches ≡ 4
  its_batches = ap (λ (l : List ℕ). get_or l 4 0) numbers

  its_writes : p.writes ≡ 8
  its_writes = ap (λ (l : List ℕ). get_or l 6 0) numbers

  words_are : words_an_epoch p ≡ 5134
  unfolding buckets
  words_are = rw (its_batches, places_are, its_writes, levels_are, real_are, dummies_are) refl

  seals_few : seals_an_epoch p ≤ 10000
  unfolding buckets record_cells checkpoint_cells checkpoint_len
  seals_few = rw (its_batches, places_are, its_keys, levels_are, real_are, dummies_are, room_is) (omega arith)

  -- the numbers last for so many epochs
  lasts : (m : ℕ) → m ≤ 20000 → RingLasts p 0 0 m
  lasts m few =
      let w = words_are in
      let s = seals_few in
      let all_words : suc m * words_an_epoch p ≤ 20001 * words_an_epoch p = mul-le-mul_right (words_an_epoch p) (omega (arith, few)) in
      let all_seals : suc m * seals_an_epoch p ≤ 20001 * seals_an_epoch p = mul-le-mul_right (seals_an_epoch p) (omega (arith, few)) in
      (omega arith, omega (arith, few), omega (arith, all_words, w), omega (arith, all_seals, s))

  -- more rows than the stash may keep can't be left
  never : (refused : Fault) → RingMayStop p refused → ⊥
  never (fault.StashFull rows) (past, few) = omega (arith, past, few, room_is, its_keys)
  never fault.Memory may = may
  never fault.Usage may = may
  never (fault.BadScript line) may = may
  never (fault.BadParams field) may = may
  never fault.NotStore may = may
  never (fault.Damaged cell check kept computed) may = may
  never (fault.StoreFault unsure) may = may
  never (fault.Worn number) may = may
  never fault.SourceFault may = may
  never fault.SinkFault may = may

  module _ (keys : Keys) (f : RingFound) (opened now : Disk) (begins : (f.run).epoch ≡ 0) (is_map : IsRingMap keys p opened f empty) where
    stops : (h : RingHidden) (behind : List Shape) (m : ℕ) (call : Option VaultCall) (words : List ℕ) (refused : Fault) → m ≤ 20000 → RingCauses keys p f opened now h m call words refused → ⊥
    stops h behind m call words refused few cause =
        never refused (ring_keeps.serves keys p 0 20000 m f opened now h behind call words refused empty (subst (λ e. RingLasts p 0 e 20000) (sym begins) (lasts 20000 (omega arith))) few is_map cause)

    -- a run was
    pub run_wants : (h : RingHidden) (behind : List Shape) (m : ℕ) (call : Option VaultCall) (words : List ℕ) (old : Disk) (err : RunErr) → m ≤ 20000 → EndsFor ring_kind keys p f opened h behind m call words old now no_output no_output blind blind (Some err)
        → (fault_of err ≡ fault.Memory) ⊎ IsStoreFault (fault_of err)
    run_wants h behind m call words old failed.Unwatched few (broken, rose) = absurd (omega (arith, rose))
    run_wants h behind m call words old (failed.Fault fault.Memory) few cause = inl refl
    run_wants h behind m call words old (failed.Fault (fault.StoreFault unsure)) few cause = inr tt
    run_wants h behind m call words old (failed.Fault fault.SinkFault) few cause = absurd (omega (arith, cause))
    run_wants h behind m call words old (failed.Fault fault.Usage) few cause = absurd (stops h behind m call words fault.Usage few cause)
    run_wants h behind m call words old (failed.Fault (fault.BadScript line)) few cause = absurd (stops h behind m call words (fault.BadScript line) few cause)
    run_wants h behind m call words old (failed.Fault (fault.BadParams field)) few cause = absurd (stops h behind m call words (fault.BadParams field) few cause)
    run_wants h behind m call words old (failed.Fault fault.NotStore) few cause = absurd (stops h behind m call words fault.NotStore few cause)
    run_wants h behind m call words old (failed.Fault (fault.Damaged cell check kept computed)) few cause = absurd (stops h behind m call words (fault.Damaged cell check kept computed) few cause)
    run_wants h behind m call words old (failed.Fault (fault.StashFull rows)) few cause = absurd (stops h behind m call words (fault.StashFull rows) few cause)
    run_wants h behind m call words old (failed.Fault (fault.Worn number)) few cause = absurd (stops h behind m call words (fault.Worn number) few cause)
    run_wants h behind m call words old (failed.Fault fault.SourceFault) few cause = absurd (stops h behind m call words fault.SourceFault few cause)

    -- and so was a call
    pub call_wants : (h : RingHidden) (behind : List Shape) (m : ℕ) (call : VaultCall) (words : List ℕ) (refused : Fault) → m ≤ 20000 → IsRefusalWhy ring_kind keys p f opened now h behind m (Some call) words refused → (refused ≡ fault.Memory) ⊎ IsStoreFault refused
    call_wants h behind m call words fault.Memory few why = inl refl
    call_wants h behind m call words (fault.StoreFault unsure) few why = inr tt
    call_wants h behind m call words fault.SinkFault few why = absurd why
    call_wants h behind m call words fault.Usage few why = absurd (stops h behind m (Some call) words fault.Usage few why)
    call_wants h behind m call words (fault.BadScript line) few why = absurd (stops h behind m (Some call) words (fault.BadScript line) few why)
    call_wants h behind m call words (fault.BadParams field) few why = absurd (stops h behind m (Some call) words (fault.BadParams field) few why)
    call_wants h behind m call words fault.NotStore few why = absurd (stops h behind m (Some call) words fault.NotStore few why)
    call_wants h behind m call words (fault.Damaged cell check kept computed) few why = absurd (stops h behind m (Some call) words (fault.Damaged cell check kept computed) few why)
    call_wants h behind m call words (fault.StashFull rows) few why = absurd (stops h behind m (Some call) words (fault.StashFull rows) few why)
    call_wants h behind m call words (fault.Worn number) few why = absurd (stops h behind m (Some call) words (fault.Worn number) few why)
    call_wants h behind m call words fault.SourceFault few why = absurd (stops h behind m (Some call) words fault.SourceFault few why)
