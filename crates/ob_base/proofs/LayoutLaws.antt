-- The regions don't overlap, and each address lies in its region.
use Rattle.std.specs.Prelude.{◌≡◌, ◌≢◌, ◌⊎◌, ◌<◌, ◌≤◌, ℕ, ◌+◌, ◌*◌}
use Rattle.std.proofs.Common.{arith, refl, sym, ap, subst, ◌∙◌, inl, inr, ⊎_elim}
use Rattle.std.proofs.lemmas.Bool.{cases_order, cases_eq}
use Rattle.std.proofs.Math.Nat.{mul-le-mul_right}
use Rattle.ob_base.specs.declared.params.Params.{Params}
use Rattle.ob_base.specs.Tree.{buckets, width}
use Rattle.ob_base.specs.Layout.{Region, Head, GenerationTwin, EpochTwin, LogArea, CheckArea, Home, size_of, start_of, Lies, IsRegion, record_cells, checkpoint_len, checkpoint_cells, log_cells}
use Rattle.ob_base.specs.Layout.{home_cells, ring_cells, log_cell, check_cell, slot_cell, RegionsApart, RegionsWithin, AddressesLie, AddressesApart, Address, AtHead, AtGeneration, AtEpoch, AtLog}
use Rattle.ob_base.specs.Layout.{AtCheck, AtSlot, IsAddress, cell_of, region_of}

-- a row of a table of fixed width ends where the next begins
pub row_fits : (n w b i : ℕ) → b < n → i < w → b * w + i < n * w
row_fits n w b i lt in_row = let more : (b + 1) * w ≤ n * w = mul-le-mul_right w (omega arith) in omega arith

below_row : (w b c i j : ℕ) → b < c → i < w → b * w + i ≡ c * w + j → ⊥
below_row w b c i j lt in_row e = let more : (b + 1) * w ≤ c * w = mul-le-mul_right w (omega arith) in absurd (omega arith)

pub digits_apart : (w b c i j : ℕ) → i < w → j < w → b * w + i ≡ c * w + j → (b ≡ c) × (i ≡ j)
digits_apart w b c i j hi hj e = elim (cases_order b c) [
  | inl same ↦ (same, (let rows : b * w ≡ c * w = ap (λ x. x * w) same in omega arith))
  | inr other ↦ absurd (⊎_elim (λ lt. below_row w b c i j lt hi e) (λ lt. below_row w c b j i lt hj (sym e)) other)
]

-- an area or a home
pub area_le : (n a : ℕ) → a < 2 → a * n ≤ n
area_le n a lt = let h : a * n ≤ 1 * n = mul-le-mul_right n (omega arith) in omega arith

pub areas_apart : (n a b : ℕ) → a < b → a * n + n ≤ b * n
areas_apart n a b lt = let h : (a + 1) * n ≤ b * n = mul-le-mul_right n lt_suc in omega arith
  where
    lt_suc : a + 1 ≤ b
    lt_suc = omega arith

-- one ends before the other begins
abbrev pub Before : Params → Region → Region → Type 0
Before p r s = start_of p r + size_of p r ≤ start_of p s

pub ordered : (p : Params) (r s : Region) → IsRegion r → IsRegion s → r ≢ s → Before p r s ⊎ Before p s r
ordered p Head Head hr hs ne = absurd (ne refl)
ordered p Head GenerationTwin hr hs ne = inl (omega (arith))
ordered p Head EpochTwin hr hs ne = inl (omega (arith))
ordered p Head (LogArea b) hr hs ne = inl (omega (arith))
ordered p Head (CheckArea b) hr hs ne = inl (omega (arith))
ordered p Head (Home b) hr hs ne = inl (omega (arith))
ordered p GenerationTwin Head hr hs ne = inr (omega (arith))
ordered p GenerationTwin GenerationTwin hr hs ne = absurd (ne refl)
ordered p GenerationTwin EpochTwin hr hs ne = inl (omega (arith))
ordered p GenerationTwin (LogArea b) hr hs ne = inl (omega (arith))
ordered p GenerationTwin (CheckArea b) hr hs ne = inl (omega (arith))
ordered p GenerationTwin (Home b) hr hs ne = inl (omega (arith))
ordered p EpochTwin Head hr hs ne = inr (omega (arith))
ordered p EpochTwin GenerationTwin hr hs ne = inr (omega (arith))
ordered p EpochTwin EpochTwin hr hs ne = absurd (ne refl)
ordered p EpochTwin (LogArea b) hr hs ne = inl (omega (arith))
ordered p EpochTwin (CheckArea b) hr hs ne = inl (omega (arith))
ordered p EpochTwin (Home b) hr hs ne = inl (omega (arith))
ordered p (LogArea a) Head hr hs ne = inr (omega (arith))
ordered p (LogArea a) GenerationTwin hr hs ne = inr (omega (arith))
ordered p (LogArea a) EpochTwin hr hs ne = inr (omega (arith))
ordered p (LogArea a) (LogArea b) hr hs ne = ⊎_elim (λ same. absurd (ne (ap LogArea same)))
    (⊎_elim (λ lt. inl (omega (arith, areas_apart (log_cells p) a b lt))) (λ lt. inr (omega (arith, areas_apart (log_cells p) b a lt))))
    (cases_order a b)
ordered p (LogArea a) (CheckArea b) hr hs ne = inl (omega (arith, area_le (log_cells p) a hr))
ordered p (LogArea a) (Home b) hr hs ne = inl (omega (arith, area_le (log_cells p) a hr))
ordered p (CheckArea a) Head hr hs ne = inr (omega (arith))
ordered p (CheckArea a) GenerationTwin hr hs ne = inr (omega (arith))
ordered p (CheckArea a) EpochTwin hr hs ne = inr (omega (arith))
ordered p (CheckArea a) (LogArea b) hr hs ne = inr (omega (arith, area_le (log_cells p) b hs))
ordered p (CheckArea a) (CheckArea b) hr hs ne = ⊎_elim (λ same. absurd (ne (ap CheckArea same)))
    (⊎_elim (λ lt. inl (omega (arith, areas_apart (checkpoint_cells p) a b lt))) (λ lt. inr (omega (arith, areas_apart (checkpoint_cells p) b a lt))))
    (cases_order a b)
ordered p (CheckArea a) (Home b) hr hs ne = inl (omega (arith, area_le (checkpoint_cells p) a hr))
ordered p (Home a) Head hr hs ne = inr (omega (arith))
ordered p (Home a) GenerationTwin hr hs ne = inr (omega (arith))
ordered p (Home a) EpochTwin hr hs ne = inr (omega (arith))
ordered p (Home a) (LogArea b) hr hs ne = inr (omega (arith, area_le (log_cells p) b hs))
ordered p (Home a) (CheckArea b) hr hs ne = inr (omega (arith, area_le (checkpoint_cells p) b hs))
ordered p (Home a) (Home b) hr hs ne = ⊎_elim (λ same. absurd (ne (ap Home same)))
    (⊎_elim (λ lt. inl (omega (arith, areas_apart (home_cells p) a b lt))) (λ lt. inr (omega (arith, areas_apart (home_cells p) b a lt))))
    (cases_order a b)

-- no cell lies in two regions
pub regions_apart : RegionsApart
regions_apart p r s c hr hs ne one two = ⊎_elim (λ (h : Before p r s). omega arith) (λ (h : Before p s r). omega arith) (ordered p r s hr hs ne)

pub regions_within : RegionsWithin
regions_within p Head c hr lies = let h : c < 0 + 1 = lies.to in omega arith
regions_within p GenerationTwin c hr lies = let h : c < 1 + 4 = lies.to in omega arith
regions_within p EpochTwin c hr lies = let h : c < 5 + 4 = lies.to in omega arith
regions_within p (LogArea a) c hr lies = omega (arith, lies.to, area_le (log_cells p) a hr)
regions_within p (CheckArea a) c hr lies = omega (arith, lies.to, area_le (checkpoint_cells p) a hr)
regions_within p (Home h) c hr lies = omega (arith, lies.to, area_le (home_cells p) h hr)

-- the addresses lie in their regions
pub log_lies : (p : Params) (a b i : ℕ) → b < p.batches → i < record_cells p + 1 → Lies p (LogArea a) (log_cell p a b i)
unfolding log_cells
log_lies p a b i hb hi = let h : b * (record_cells p + 1) + i < p.batches * (record_cells p + 1) = row_fits p.batches (record_cells p + 1) b i hb hi in
    record { from = omega arith; to = omega arith }

pub check_lies : (p : Params) (a i : ℕ) → i < checkpoint_cells p → Lies p (CheckArea a) (check_cell p a i)
check_lies p a i hi = record { from = omega arith; to = omega arith }

pub slot_lies : (p : Params) (h u s : ℕ) → u < buckets p → s < width p → Lies p (Home h) (slot_cell p h u s)
unfolding home_cells
slot_lies p h u s hu hs = let fits : u * width p + s < buckets p * width p = row_fits (buckets p) (width p) u s hu hs in
    record { from = omega arith; to = omega arith }

-- two slots of a home have two cells
pub slots_apart : (p : Params) (h u v s t : ℕ) → s < width p → t < width p → slot_cell p h u s ≡ slot_cell p h v t → (u ≡ v) × (s ≡ t)
slots_apart p h u v s t hs ht e = digits_apart (width p) u v s t hs ht (omega arith)

-- so have two parts of a log area
pub parts_apart : (p : Params) (a b d i j : ℕ) → i < record_cells p + 1 → j < record_cells p + 1 → log_cell p a b i ≡ log_cell p a d j → (b ≡ d) × (i ≡ j)
parts_apart p a b d i j hi hj e = digits_apart (record_cells p + 1) b d i j hi hj (omega arith)

pub addresses_lie : AddressesLie
addresses_lie p AtHead h = record { from = omega arith; to = omega arith }
addresses_lie p (AtGeneration part) h = record { from = omega arith; to = omega arith }
addresses_lie p (AtEpoch part) h = record { from = omega arith; to = omega arith }
addresses_lie p (AtLog area batch part) h = log_lies p area batch part h.1 h.2
addresses_lie p (AtCheck area part) h = check_lies p area part h.1
addresses_lie p (AtSlot home bucket slot) h = slot_lies p home bucket slot h.1 h.2

-- an address is one of a region of the store
region_is : (p : Params) (a : Address) → IsAddress p a → IsRegion (region_of a)
region_is p AtHead h = tt
region_is p (AtGeneration part) h = tt
region_is p (AtEpoch part) h = tt
region_is p (AtLog area batch part) h = h.0
region_is p (AtCheck area part) h = h.0
region_is p (AtSlot home bucket slot) h = h.0

pub cell_within : (p : Params) (a : Address) → IsAddress p a → cell_of p a < ring_cells p
cell_within p a h = regions_within p (region_of a) (cell_of p a) (region_is p a h) (addresses_lie p a h)

-- addresses of two regions
other_region : (p : Params) (a b : Address) → IsAddress p a → IsAddress p b → region_of a ≢ region_of b → cell_of p a ≡ cell_of p b → a ≡ b
other_region p a b ha hb ne e = absurd (regions_apart p (region_of a) (region_of b) (cell_of p b) (region_is p a ha) (region_is p b hb) ne
    (subst (λ (c : ℕ). Lies p (region_of a) c) e (addresses_lie p a ha)) (addresses_lie p b hb))

-- addresses of one region
same_log : (p : Params) (a x b d i j : ℕ) → a ≡ x → i < record_cells p + 1 → j < record_cells p + 1 → log_cell p a b i ≡ log_cell p x d j → AtLog a b i ≡ AtLog x d j
same_log p a x b d i j area hi hj e =
    let there : log_cell p x b i ≡ log_cell p x d j = ap (λ (y : ℕ). log_cell p y b i) (sym area) ∙ e in
    let same : (b ≡ d) × (i ≡ j) = parts_apart p x b d i j hi hj there in rw (area, same.0, same.1) refl

same_check : (p : Params) (a x i j : ℕ) → a ≡ x → check_cell p a i ≡ check_cell p x j → AtCheck a i ≡ AtCheck x j
same_check p a x i j area e =
    let there : check_cell p x i ≡ check_cell p x j = ap (λ (y : ℕ). check_cell p y i) (sym area) ∙ e in
    let same : i ≡ j = omega arith in rw (area, same) refl

same_slot : (p : Params) (h x u v s t : ℕ) → h ≡ x → s < width p → t < width p → slot_cell p h u s ≡ slot_cell p x v t → AtSlot h u s ≡ AtSlot x v t
same_slot p h x u v s t home hs ht e =
    let there : slot_cell p x u s ≡ slot_cell p x v t = ap (λ (y : ℕ). slot_cell p y u s) (sym home) ∙ e in
    let same : (u ≡ v) × (s ≡ t) = slots_apart p x u v s t hs ht there in rw (home, same.0, same.1) refl

-- two different addresses have different cells
pub addresses_apart : AddressesApart
addresses_apart p AtHead AtHead ha hb e = refl
addresses_apart p (AtGeneration i) (AtGeneration j) ha hb e = let same : i ≡ j = omega arith in ap AtGeneration same
addresses_apart p (AtEpoch i) (AtEpoch j) ha hb e = let same : i ≡ j = omega arith in ap AtEpoch same
addresses_apart p (AtLog a b i) (AtLog x d j) ha hb e = elim (cases_eq a x) [
  | inl same ↦ same_log p a x b d i j same ha.2 hb.2 e
  | inr ne ↦ other_region p (AtLog a b i) (AtLog x d j) ha hb (λ q. (let s : a ≡ x = cc in ne s)) e
]
addresses_apart p (AtCheck a i) (AtCheck x j) ha hb e = elim (cases_eq a x) [
  | inl same ↦ same_check p a x i j same e
  | inr ne ↦ other_region p (AtCheck a i) (AtCheck x j) ha hb (λ q. (let s : a ≡ x = cc in ne s)) e
]
addresses_apart p (AtSlot h u s) (AtSlot x v t) ha hb e = elim (cases_eq h x) [
  | inl same ↦ same_slot p h x u v s t same ha.2 hb.2 e
  | inr ne ↦ other_region p (AtSlot h u s) (AtSlot x v t) ha hb (λ q. (let s : h ≡ x = cc in ne s)) e
]
addresses_apart p a b ha hb e = other_region p a b ha hb (λ q. cc) e

-- a checkpoint's cells have room for its bytes
pub checkpoint_cells_hold : (p : Params) → checkpoint_len p ≤ 96 * checkpoint_cells p
unfolding checkpoint_cells
checkpoint_cells_hold p = omega arith
