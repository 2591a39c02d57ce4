-- The cells that are laid before the epoch is set.
use Rattle.std.proofs.Common.{◌≡◌, inl, inr, ℕ, ◌+◌, ◌*◌, ◌<◌, ◌≤◌, ◌^◌, List, [], Option, Err, sym, ◌∙◌, ap, subst, add-one, arith}
use Rattle.std.proofs.Math.Nat.{mul-le-mul_right, pow-suc}
use Rattle.std.proofs.lemmas.Nat.{pow_pos}
use Rattle.ob_base.specs.declared.fault.Failed.{Failed}
use Rattle.ob_base.specs.declared.fault.Fault.{Fault}
use Rattle.ob_base.specs.declared.fault.Fault.TheVariants as fault
use Rattle.ob_base.specs.declared.params.Params.{Params}
use Rattle.ob_base.specs.Layout.{check_cell, checkpoint_cells, home_cells, ring_cells, slot_cell}
use Rattle.ob_base.specs.Tree.{buckets, width}
use Rattle.ob_base.proofs.Bounds.{buckets_le, cells_le, checkpoint_cells_le, product_le, width_le}
use Rattle.ob_store.specs.declared.event.Event.{Event}
use Rattle.ob_store.specs.Calls.{GoesOn, IsFailed, IsStoreFault, Serves}
use Rattle.ob_store.specs.Disk.{Disk, Image}
use Rattle.ob_store.specs.Images.{Passes, SameOff}
use Rattle.ob_store.specs.Lines.{Trace}
use Rattle.ob_store.specs.Runs.{write_notes}
use Rattle.ob_store.specs.Told.{Tells, TellsFirst}
use Rattle.ob_store.proofs.Moments.{passes_so}
use Rattle.ob_store.proofs.Serving.{goes_then, rose_later}
use Rattle.ob_seal.specs.declared.keys.Keys.{Keys}
use Rattle.ob_seal.specs.Pieces.{onward}
use Rattle.ob_seal.specs.Seals.{sealed}
use Rattle.ob_cells.specs.Runs.{AreSealed, run_at}
use Rattle.ob_tables.specs.Version.{EMPTY}
use Rattle.ob_check.specs.Written as check
use Rattle.ob_check.specs.Written.{area_of}
use Rattle.ob_tables.specs.Content.{Content}
use Rattle.ob_tables.specs.Spelling.{slot_bytes}
use Rattle.ob_start.specs.Laying.{SameHead}
use Rattle.ob_twin.specs.Reading.{NoneOpen}
use Rattle.ob_twin.specs.Register.{SameOutside, gate_at}
use Rattle.ob_opening.specs.Formats.{HasBlankSlots}

pub some_buckets : (p : Params) → 0 < buckets p
unfolding buckets
some_buckets p =
    let twice : 2 ^ (p.levels + 1) ≡ 2 ^ p.levels * 2 = rw add-one (pow-suc 2 p.levels) in
    let some : 0 < 2 ^ p.levels = pow_pos p.levels in
    omega (arith, twice, some)

slots_end : (p : Params) → slot_cell p 0 0 0 + buckets p * width p < 2 ^ 24
unfolding home_cells
slots_end p = let all : ring_cells p < 2 ^ 24 = cells_le p in omega (arith, all)

pub cells_fit : (p : Params) (cell b : ℕ) → cell ≡ slot_cell p 0 0 0 → b ≡ buckets p → cell + b * (p.real + p.dummies) < 18446744073709551616
cells_fit p cell b at many =
    let here : slot_cell p 0 0 0 + buckets p * width p < 18446744073709551616 = omega (arith, slots_end p) in
    subst (λ (n : ℕ). n + b * (p.real + p.dummies) < 18446744073709551616) (sym at) (subst (λ (n : ℕ). slot_cell p 0 0 0 + n * (p.real + p.dummies) < 18446744073709551616) (sym many) here)

-- behind the slots' seals there is room for a checkpoint's
pub seals_left : (p : Params) (next b : ℕ) → next ≡ 0 → b ≡ buckets p → (next + b * (p.real + p.dummies)) + checkpoint_cells p ≤ 2 ^ 62
seals_left p next b none many =
    let most : b * (p.real + p.dummies) ≤ 131071 * 48 = product_le b (width p) 131071 48 (omega (arith, many, buckets_le p)) (width_le p) in
    omega (arith, none, most, checkpoint_cells_le p)

-- a write of a checkpoint that isn't worn is refused by the store alone
store_fault : (p : Params) (next : ℕ) (e : Fault) → next + checkpoint_cells p ≤ 2 ^ 62 → check.AreWriteFaults p next (Err e) → IsStoreFault e
store_fault p next fault.Memory few told = absurd told
store_fault p next fault.Usage few told = absurd told
store_fault p next (fault.BadScript line) few told = absurd told
store_fault p next (fault.BadParams what) few told = absurd told
store_fault p next fault.NotStore few told = absurd told
store_fault p next (fault.Damaged cell what kept computed) few told = absurd told
store_fault p next (fault.StoreFault unsure) few told = tt
store_fault p next (fault.StashFull epoch) few told = absurd told
store_fault p next (fault.Worn number) few told = absurd (let worn = told.1 in omega (arith, worn, few))
store_fault p next fault.SourceFault few told = absurd told
store_fault p next fault.SinkFault few told = absurd told

pub cut_short : (p : Params) (next : ℕ) (a b d : Disk) (e : Fault) → GoesOn a b → b.out ≤ a.out → next + checkpoint_cells p ≤ 2 ^ 62 → check.AreWriteFaults p next (Err e) → Serves {T = Unit {0}} IsStoreFault b d (Err e) → Serves {T = Unit {0}} {E = Failed} IsFailed a d (Err (record {}))
cut_short p next a b d e goes out few told serves = record {
  goes = goes_then a b d goes serves.goes;
  out = (let x = serves.out in omega arith);
  tells = tt;
  cause = λ blamed. rose_later a.faults b.faults d.faults goes.faults (serves.cause (store_fault p next e few told));
}

pub off_head : (base n : ℕ) (old new : Disk) → 0 < base → Passes (SameOff base n) old new → Passes SameHead old new
off_head base n old new high passes = passes_so (SameOff base n) SameHead old new (λ c d same. same 0 (inl (omega arith))) passes

-- the notes of the slots' writes
pub slots_told : (p : Params) (cell b : ℕ) (old new : Option (List Event)) (k l : Trace) → cell ≡ slot_cell p 0 0 0 → b ≡ buckets p → Tells (write_notes cell (b * (p.real + p.dummies))) (write_notes cell (b * (p.real + p.dummies))) old new k l
    → Tells (write_notes (slot_cell p 0 0 0) (buckets p * width p)) (write_notes (slot_cell p 0 0 0) (buckets p * width p)) old new k l
slots_told p cell b old new k l at many told =
    subst (λ (n : ℕ). Tells (write_notes (slot_cell p 0 0 0) (n * width p)) (write_notes (slot_cell p 0 0 0) (n * width p)) old new k l) many
    (subst (λ (n : ℕ). Tells (write_notes n (b * width p)) (write_notes n (b * width p)) old new k l) at told)

-- and the first of them
pub slots_first : (p : Params) (cell b : ℕ) (old new : Option (List Event)) (k l : Trace) → cell ≡ slot_cell p 0 0 0 → b ≡ buckets p → TellsFirst (write_notes cell (b * (p.real + p.dummies))) old new k l
    → TellsFirst (write_notes (slot_cell p 0 0 0) (buckets p * width p)) old new k l
slots_first p cell b old new k l at many told =
    subst (λ (n : ℕ). TellsFirst (write_notes (slot_cell p 0 0 0) (n * width p)) old new k l) many
    (subst (λ (n : ℕ). TellsFirst (write_notes n (b * width p)) old new k l) at told)

-- the slots as they were sealed
pub slots_laid : (keys : Keys) (p : Params) (cell b g next : ℕ) (image : Image) → cell ≡ slot_cell p 0 0 0 → b ≡ buckets p → next ≡ 0 → AreSealed keys cell (b * (p.real + p.dummies)) g next (λ i. slot_bytes EMPTY []) (run_at cell image) → HasBlankSlots keys p g image
slots_laid keys p cell b g next image at many none are u slot low few =
    let i : ℕ = u * width p + slot in
    let rows : (u + 1) * width p ≤ buckets p * width p = mul-le-mul_right (width p) (omega (arith, low)) in
    let same : b * (p.real + p.dummies) ≡ buckets p * width p = ap (λ (n : ℕ). n * width p) many in
    let within : i < b * (p.real + p.dummies) = omega (arith, rows, same, few) in
    let place : cell + i ≡ slot_cell p 0 u slot = omega (arith, at) in
    let number : onward next i ≡ i = omega (arith, none, within, same, slots_end p) in
    subst (λ (n : ℕ). image (slot_cell p 0 u slot) ≡ sealed keys (slot_cell p 0 u slot) g n (slot_bytes EMPTY [])) number
    (subst (λ (n : ℕ). image n ≡ sealed keys n g (onward next i) (slot_bytes EMPTY [])) place (are i within))

-- and as they stay, behind a checkpoint's write, a sync and the epoch's
pub held_off : (keys : Keys) (p : Params) (g : ℕ) (a b c d : Image) → HasBlankSlots keys p g a → SameOff (area_of p 0) (checkpoint_cells p) b a → ((k : ℕ) → c k ≡ b k) → SameOutside 5 d c → HasBlankSlots keys p g d
held_off keys p g a b c d held check sync set u slot low few =
    let at = slot_cell p 0 u slot in
    set at (inr (omega arith)) ∙ sync at ∙ check at (inr (omega arith)) ∙ held u slot low few

-- a checkpoint stays so too
pub checkpoint_kept : (keys : Keys) (p : Params) (x : Content) (g first : ℕ) (a b c : Image) → check.HoldsCheckpointFrom keys p 0 x g first a → ((k : ℕ) → b k ≡ a k) → SameOutside 5 c b → check.HoldsCheckpointFrom keys p 0 x g first c
checkpoint_kept keys p x g first a b c held sync set i low = set (area_of p 0 + i) (inr (omega arith)) ∙ sync (area_of p 0 + i) ∙ held i low

-- its first seal is the one behind the slots'
pub slots_many : (p : Params) (next b : ℕ) → next ≡ 0 → b ≡ buckets p → next + b * (p.real + p.dummies) ≡ buckets p * width p
slots_many p next b none many = let same : b * (p.real + p.dummies) ≡ buckets p * width p = ap (λ (n : ℕ). n * width p) many in omega (arith, none, same)

-- the cells before the checkpoints, behind the slots' writes, and behind a checkpoint's
pub before_slots : (p : Params) (cell many k : ℕ) (new old : Image) → cell ≡ slot_cell p 0 0 0 → k < check_cell p 0 0 → SameOff cell many new old → new k ≡ old k
before_slots p cell many k new old at low same = same k (inl (omega (arith, at, low)))

pub before_both : (p : Params) (cell many k : ℕ) (new mid old : Image) → cell ≡ slot_cell p 0 0 0 → k < check_cell p 0 0 → SameOff (area_of p 0) (checkpoint_cells p) new mid → SameOff cell many mid old → new k ≡ old k
before_both p cell many k new mid old at low check same = check k (inl (omega (arith, low))) ∙ before_slots p cell many k mid old at low same

-- so the epoch's gates are closed still
pub closed_still : (old new : Image) → ((k : ℕ) → k < 9 → new k ≡ old k) → NoneOpen 5 old → NoneOpen 5 new
closed_still old new same none place low opened = none place low (sym (same (gate_at 5 place) (omega (arith, low))) ∙ opened)
