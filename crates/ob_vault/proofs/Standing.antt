-- What a run over a ring store that stands may be refused for.
use Rattle.std.proofs.Common.{◌≡◌, ◌∙◌, ◌⊎◌, ◌*◌, ◌^◌, ◌<◌, ◌≤◌, ℕ, suc, true, List, get_or, Option, Some, None, Err, refl, sym, ap, inl, inr, arith}
use mathlib.Core.HLevel.{is_prop→PathP}
use native.Mathlib.Bridge.{le_prop}
use Rattle.std.proofs.Math.Nat.{mul-le-mul_right}
use Rattle.std.proofs.lemmas.Bool.{le-leb}
use Rattle.std.specs.Ordering.{nat_cmp}
use Rattle.ob_base.specs.Fields.{first_out_of_range, is_within}
use Rattle.ob_base.specs.Parameters.{AreInRange}
use Rattle.ob_base.specs.declared.fault.Field.{Field}
use Rattle.ob_base.specs.declared.fault.Fault.{Fault}
use Rattle.ob_base.specs.declared.fault.Fault.TheVariants as fault
use Rattle.ob_base.specs.declared.params.Params.{Params}
use Rattle.ob_end.specs.EndRuns.{table_ended}
use Rattle.ob_vault.specs.Keeping.{AreStandingLaws}
use Rattle.ob_seal.specs.declared.keys.Keys.{Keys}
use Rattle.ob_serial.specs.Serial.{Map}
use Rattle.ob_serial.specs.Vaults.{End, Fetch, Standing, VaultCall}
use Rattle.ob_stand.specs.Stands.{StandsRing, ring_standing}
use Rattle.ob_start.specs.Heads.{IsHead, IsHeadFault, IsHeadRead, first_bad, numbers_in, numbers_of}
use Rattle.ob_store.specs.Calls.{IsStoreFault}
use Rattle.ob_store.specs.Disk.{Disk, Image}
use Rattle.ob_twin.specs.Keyed.{tagging}
use Rattle.ob_twin.specs.Register.{StandsAt}
use Rattle.ob_twin.specs.Reading.{AllWhole, Counts}
use Rattle.ob_twin.proofs.Judging.{number_read}
use Rattle.ob_opening.specs.Openings.{IsOpenFault}
use Rattle.ob_vault.proofs.Bounds.{rows_few}
use Rattle.ob_vault.specs.Causes.{IsRingWorn, IsStashFull, RingLasts, seals_an_epoch, words_an_epoch}
use Rattle.ob_vault.specs.Hidden.{RingHidden, table_hidden, writes_hidden}
use Rattle.ob_vault.specs.RingKind.{IsRingFound, IsRingMap, IsRingRefusal, RingCauses, RingFound, RingMayStop, ring_kind}

-- ---- the head

-- the number at a place of a head is the parameter that stands there
same_at : (place : ℕ) (p q : Params) (bytes : List ℕ) → numbers_in bytes ≡ numbers_of p → numbers_in bytes ≡ numbers_of q → get_or (numbers_of p) place 0 ≡ get_or (numbers_of q) place 0
same_at place p q bytes a b = ap (λ (l : List ℕ). get_or l place 0) (sym a ∙ b)

same_params : (p q : Params) → p.keys ≡ q.keys → p.levels ≡ q.levels → p.real ≡ q.real → p.dummies ≡ q.dummies → p.batches ≡ q.batches → p.places ≡ q.places → p.writes ≡ q.writes → p.evictions ≡ q.evictions → p.room ≡ q.room → p ≡ q
same_params p q k l z s b c w e t =
    λ i. record {
      keys = k i;
      levels = l i;
      real = z i;
      dummies = s i;
      batches = b i;
      places = c i;
      writes = w i;
      evictions = e i;
      room = t i;
      in_range = is_prop→PathP (λ j. AreInRange (k j) (l j) (z j) (s j) (b j) (c j) (w j) (e j) (t j)) (λ j. hlevel (le_prop)) p.in_range q.in_range i;
    }

one_head : (keys : Keys) (p q : Params) (bytes : List ℕ) → IsHead keys 1 p bytes → IsHead keys 1 q bytes → p ≡ q
one_head keys p q bytes a b =
    same_params p q (same_at 0 p q bytes a.numbers b.numbers) (same_at 1 p q bytes a.numbers b.numbers) (same_at 2 p q bytes a.numbers b.numbers) (same_at 3 p q bytes a.numbers b.numbers) (same_at 4 p q bytes a.numbers b.numbers)
    (same_at 5 p q bytes a.numbers b.numbers) (same_at 6 p q bytes a.numbers b.numbers) (same_at 7 p q bytes a.numbers b.numbers) (same_at 8 p q bytes a.numbers b.numbers)

within : (low high x : ℕ) → low ≤ x → x ≤ high → is_within low high x ≡ true
within low high x a b = rw (le-leb low x a, le-leb x high b) refl

-- parameters have no number out of its range
none_out : (p : Params) → first_out_of_range p.keys p.levels p.real p.dummies p.batches p.places p.writes p.evictions p.room ≡ None
none_out p =
    let r = p.in_range in
    rw (
      within 1 65536 p.keys r.some_keys r.few_keys,
      within 1 16 p.levels r.some_levels r.few_levels,
      within 1 16 p.real r.some_real r.few_real,
      within 1 32 p.dummies r.some_dummies r.few_dummies,
      within 1 16 p.batches r.some_batches r.few_batches,
      within 1 64 p.places r.some_places r.few_places,
      within 1 256 p.writes r.some_writes r.few_writes,
      within 1 64 p.evictions r.some_evictions r.few_evictions,
      within 1 1024 p.room r.some_room r.few_room,
      le-leb p.keys (p.real * 2 ^ p.levels) r.keys_fit,
    ) refl

-- the first of nine numbers that is out of its range
first_out : List ℕ → Option Field
first_out l = first_out_of_range (get_or l 0 0) (get_or l 1 0) (get_or l 2 0) (get_or l 3 0) (get_or l 4 0) (get_or l 5 0) (get_or l 6 0) (get_or l 7 0) (get_or l 8 0)

none_bad : (p : Params) (bytes : List ℕ) → numbers_in bytes ≡ numbers_of p → first_bad bytes ≡ None
unfolding first_out
none_bad p bytes same = ap first_out same ∙ none_out p

none_some : {A : Type 0} (o : Option A) (x : A) → o ≡ None → o ≡ Some x → ⊥
none_some o x none some = let both : None ≡ Some x = sym none ∙ some in cc both

-- a head is refused where the store fails alone
reads_head : (keys : Keys) (p : Params) (bytes : List ℕ) (refused : Fault) → IsHead keys 1 p bytes → IsHeadFault refused → IsHeadRead keys 1 bytes (Err refused) → IsStoreFault refused
reads_head keys p bytes fault.NotStore head kind read = absurd (read head.marked)
reads_head keys p bytes (fault.Damaged cell check kept computed) head kind (marked, inl wrong) = absurd (wrong.differs head.stamped)
reads_head keys p bytes (fault.Damaged cell check kept computed) head kind (marked, inr (stamped, bad)) = absurd (none_some (first_bad bytes) bad.field (none_bad p bytes head.numbers) bad.first)
reads_head keys p bytes (fault.StoreFault unsure) head kind read = tt
reads_head keys p bytes fault.Memory head kind read = absurd kind
reads_head keys p bytes fault.Usage head kind read = absurd kind
reads_head keys p bytes (fault.BadScript line) head kind read = absurd kind
reads_head keys p bytes (fault.BadParams field) head kind read = absurd kind
reads_head keys p bytes (fault.StashFull rows) head kind read = absurd kind
reads_head keys p bytes (fault.Worn number) head kind read = absurd kind
reads_head keys p bytes fault.SourceFault head kind read = absurd kind
reads_head keys p bytes fault.SinkFault head kind read = absurd kind

-- ---- the opening

opens : (keys : Keys) (p : Params) (g : ℕ) (image : Image) (at : Standing) (refused : Fault) → StandsRing keys p g image at → suc g < 2 ^ 62 → IsOpenFault refused → IsRingRefusal keys p image refused → IsStoreFault refused ⊎ (refused ≡ fault.Memory)
opens keys p g image at (fault.StoreFault unsure) is left kind r = inl tt
opens keys p g image at fault.Memory is left kind r = inr refl
opens keys p g image at (fault.Worn number) is left kind r = let last : suc g ≡ 2 ^ 62 = r.stood (ring_standing at g is.content is.records) is.stands in absurd (omega (arith, last, left))
opens keys p g image at fault.NotStore is left kind r = absurd (r.stood (ring_standing at g is.content is.records) is.stands)
opens keys p g image at (fault.Damaged cell check kept computed) is left kind r = absurd (r.stood (ring_standing at g is.content is.records) is.stands)
opens keys p g image at fault.Usage is left kind r = absurd kind
opens keys p g image at (fault.BadScript line) is left kind r = absurd kind
opens keys p g image at (fault.BadParams field) is left kind r = absurd kind
opens keys p g image at (fault.StashFull rows) is left kind r = absurd kind
opens keys p g image at fault.SourceFault is left kind r = absurd kind
opens keys p g image at fault.SinkFault is left kind r = absurd kind

number_found : (keys : Keys) (first : ℕ) (image : Image) (g n : ℕ) → StandsAt (tagging keys) first image g → AllWhole (tagging keys) first image → Counts first image n → n ≡ g
number_found keys first image g n stands whole counts = let same : Some n ≡ Some g = number_read (tagging keys) first g image stands (Some n) (whole, counts) in cc

finds : (keys : Keys) (p : Params) (g : ℕ) (image : Image) (at : Standing) (f : RingFound) → StandsRing keys p g image at → IsRingFound keys p image f → (f.run).epoch ≡ at.epoch
finds keys p g image at f is found =
    let r = (found.found_in).registers in
    (found.goes_on).epoch ∙ number_found keys 5 image at.epoch (found.found).epoch (is.stands).epoch r.epoch_whole r.epoch_counts

-- ---- the calls

not_worn : (p : Params) (g epoch n m : ℕ) → RingLasts p g epoch n → m ≤ n → IsRingWorn p epoch m → ⊥
not_worn p g epoch n m (generations, epochs, words, seals) few (inl last) = omega (arith, epochs, few, last)
not_worn p g epoch n m (generations, epochs, words, seals) few (inr (inl past)) =
    let more : suc m * words_an_epoch p ≤ suc n * words_an_epoch p = mul-le-mul_right (words_an_epoch p) (omega (arith, few)) in omega (arith, more, words, past)
not_worn p g epoch n m (generations, epochs, words, seals) few (inr (inr past)) =
    let more : suc m * seals_an_epoch p ≤ suc n * seals_an_epoch p = mul-le-mul_right (seals_an_epoch p) (omega (arith, few)) in omega (arith, more, seals, past)

-- an end leaves at most the keys of the store
full_may_stop : (p : Params) (h : RingHidden) (call : Option VaultCall) (words : List ℕ) (rows : ℕ) → IsStashFull p h call words rows → RingMayStop p (fault.StashFull rows)
full_may_stop p h None words rows full = absurd full
full_may_stop p h (Some (Fetch asks)) words rows full = absurd full
full_may_stop p h (Some (End writes)) words rows (has, are, past) = (
  omega (arith, are, past),
  omega (arith, are, rows_few p (table_ended p (table_hidden p h) (writes_hidden p h writes words))),
)

serves : (keys : Keys) (p : Params) (g n m : ℕ) (f : RingFound) (opened now : Disk) (h : RingHidden) (call : Option VaultCall) (words : List ℕ) (refused : Fault) (map : Map nat_cmp)
    → RingLasts p g (f.run).epoch n → m ≤ n → IsRingMap keys p opened f map → RingCauses keys p f opened now h m call words refused
    → RingMayStop p refused
serves keys p g n m f opened now h call words (fault.Worn number) map lasts few is (worn_is, too_few, worn) = absurd (not_worn p g (f.run).epoch n m lasts few worn)
serves keys p g n m f opened now h call words (fault.StashFull rows) map lasts few is cause = full_may_stop p h call words rows cause
serves keys p g n m f opened now h call words (fault.Damaged cell check kept computed) map lasts few is (slot, none) = absurd (none map is)
serves keys p g n m f opened now h call words (fault.StoreFault unsure) map lasts few is cause = absurd cause
serves keys p g n m f opened now h call words fault.Memory map lasts few is cause = absurd cause
serves keys p g n m f opened now h call words fault.NotStore map lasts few is cause = absurd cause
serves keys p g n m f opened now h call words fault.Usage map lasts few is cause = absurd cause
serves keys p g n m f opened now h call words (fault.BadScript line) map lasts few is cause = absurd cause
serves keys p g n m f opened now h call words (fault.BadParams field) map lasts few is cause = absurd cause
serves keys p g n m f opened now h call words fault.SourceFault map lasts few is cause = absurd cause
serves keys p g n m f opened now h call words fault.SinkFault map lasts few is cause = absurd cause

pub ring_keeps : AreStandingLaws ring_kind
ring_keeps = record {
  one_head = one_head;
  has_head = λ keys p g image at is. ((is.stands).holds).head;
  reads_head = reads_head;
  opens = λ keys p g image at n refused is lasts kind r. opens keys p g image at refused is lasts.0 kind r;
  finds = finds;
  serves = λ keys p g n m found opened now h behind call words refused map lasts few is cause. serves keys p g n m found opened now h call words refused map lasts few is cause;
}
