-- Buckets as far as they are written.
use Rattle.std.specs.Prelude.{◌≡◌, ◌≢◌, ◌<◌, ◌≤◌, ℕ, ◌+◌, ◌*◌, ◌%◌, ◌^◌, true, List, length, slice_index, Result, Ok, Err}
use Rattle.std.specs.Result.{IsErr}
use Rattle.std.proofs.Common.{arith, inl, refl, sym, ap, ◌∙◌, subst, below_more}
use Rattle.std.proofs.Math.Nat.{mul-le-mul_right}
use Rattle.ob_base.specs.Layout.{slot_cell}
use Rattle.ob_base.specs.Tree.{width}
use Rattle.ob_tables.specs.Version.{Version, rank_at}
use Rattle.ob_tables.specs.Buckets.{version_at}
use Rattle.ob_cells.specs.Runs.{AreSealed, IsFurther, run_at}
use Rattle.ob_cells.specs.Writes.{Seals, WritesRun}
use Rattle.ob_cells.proofs.Written.{sealing_on}
use Rattle.ob_tables.specs.Content.{Content}
use Rattle.ob_stand.proofs.Plans.{listed_at as found_at}
use Rattle.ob_ring.specs.Ring.{Kept}
use Rattle.ob_ring.proofs.FillLaws.{at_member}
use Rattle.ob_schedule.specs.Paths.{is_one_of}
use Rattle.ob_seal.specs.declared.keys.Keys.{Keys}
use Rattle.ob_seal.specs.Sealing.{Sealing}
use Rattle.ob_store.specs.Disk.{Disk, Image}
use Rattle.ob_store.specs.Images.{Passes, SameOff}
use Rattle.ob_store.specs.Calls.{GoesOn, Serves}
use Rattle.ob_store.proofs.Moments.{passed_none, passed_then, passes_so}
use Rattle.ob_pads.specs.Seals.{CellsAreSealed, SealerGoesOn}
use Rattle.ob_pads.proofs.Sealing.{none_sealed, run_sealed, sealed_join}
use Rattle.ob_store.proofs.Serving.{goes_same, goes_then}
use Rattle.ob_stand.specs.Ends.{RingEnd, HoldsBucket}
use Rattle.ob_stand.specs.Fills.{SameButBucket}
use Rattle.ob_stand.specs.Spare.{Spare, SameButIn}
use Rattle.ob_stand.specs.Stands.{RingStanding}
use Rattle.ob_stand.proofs.EndLaws.{end_fills_spare}
use Rattle.ob_stand.proofs.FillLaws.{end_writes_stay}
use Rattle.ob_end.specs.EndWrites.{AreSealedFrom, FillsBuckets, IsEndOfRing, SameFirst, WritesSpare, bucket_seals, listed_at, slot_plain, version_of}
use Rattle.ob_end.proofs.Parts.{first_joins, spare_none, spare_then}

-- what an end of the ring has of its first buckets
pub record FilledTo (keys : Keys) (r : Kept) (s : RingStanding) (end : RingEnd) (n : ℕ) (old now : Disk) : Type 0 where
  pub spare : WritesSpare r.p s old now
  pub written : old.tells → (i : ℕ) → i < n → HoldsBucket keys r.p end (listed_at r i) now.cells

-- so many buckets are written
pub record Filling (r : Kept) (n : ℕ) (before sealer : Sealing) (old now : Disk) : Type 0 where
  pub goes : GoesOn old now
  pub tells : old.tells → now.tells
  pub out : now.out ≡ 0
  pub keys : sealer.keys ≡ before.keys
  pub generation : sealer.generation ≡ before.generation
  pub next : sealer.next ≡ before.next + n * width r.p
  pub first : old.tells → SameFirst now.cells old.cells
  pub moments : Passes SameFirst old now
  pub sealed : old.tells → CellsAreSealed before sealer old.cells now.cells
  pub fills : (s : RingStanding) (end : RingEnd) → IsEndOfRing s end before.generation r → FilledTo before.keys r s end n old now

pub filling_none : (r : Kept) (before : Sealing) (d : Disk) → d.out ≡ 0 → Filling r 0 before before d d
filling_none r before d none = record {
  goes = goes_same d;
  tells = λ t. t;
  out = none;
  keys = refl;
  generation = refl;
  next = omega arith;
  first = λ t k low. refl;
  moments = passed_none d SameFirst (λ c k low. refl);
  sealed = λ t. none_sealed before before d.cells d.cells (λ cell low. inl refl);
  fills = λ s end is. record { spare = spare_none r.p s d; written = λ t i low. absurd (omega arith) };
}

-- the plain bytes of a bucket's slots, by the low byte of the slot's number
abbrev pub byte_plain : Kept → ℕ → ℕ → List ℕ
byte_plain r u i = slot_plain r u (i % 2 ^ 8)

-- ---- one bucket

module _ (r : Kept) (s : RingStanding) (end : RingEnd) (generation : ℕ) (is : IsEndOfRing s end generation r) (n : ℕ) (low : n < length (r.metas).order) where
  abbrev u : ℕ
  u = listed_at r n

  listed : (i : ℕ) → i < length (r.metas).order → is_one_of end.order (listed_at r i) ≡ true
  listed i lt = subst (λ (us : List ℕ). is_one_of us (listed_at r i) ≡ true) (sym is.order) (at_member (r.metas).order i lt)

  same_version : (v : ℕ) → version_at end.content.versions v ≡ version_of r v
  same_version v = ap (λ (c : Content). version_at c.versions v) is.content

  same_bucket : (c d : Image) → SameOff (slot_cell r.p (version_of r u).home u 0) (width r.p) c d → SameButBucket r.p end u c d
  same_bucket c d same = subst (λ (v : Version). SameOff (slot_cell r.p v.home u 0) (width r.p) c d) (sym (same_version u)) same

  bucket_spare : (old new : Disk) (T E : Type 0) (sealer later : Sealing) (result : Result T E) → WritesRun (slot_cell r.p (version_of r u).home u 0) (width r.p) (byte_plain r u) sealer later old new result → WritesSpare r.p s old new
  bucket_spare old new T E sealer later result run = record {
    rest = λ t. end_fills_spare r.p s end u new.cells old.cells is.follows (listed n low) (same_bucket new.cells old.cells (run.within.rest t));
    passes = passes_so (SameOff (slot_cell r.p (version_of r u).home u 0) (width r.p)) (SameButIn (Spare r.p s)) old new
        (λ c d same. end_fills_spare r.p s end u c d is.follows (listed n low) (same_bucket c d same)) run.within.passes;
  }

  rank_low : (j : ℕ) → j < width r.p → rank_at (version_at end.content.versions u) j < width r.p
  rank_low j lj = let o = is.follows.obeys.versions u (is.follows.within u (listed n low)) in let small = o.ranks.low j (omega (arith, o.slots.ranks)) in omega (arith, o.slots.ranks)

  slot_is : (j : ℕ) → j < width r.p → end.slots u j ≡ byte_plain r u (rank_at (version_at end.content.versions u) j)
  slot_is j lj =
      let small = rank_low j lj in
      let few : width r.p < 256 = omega (arith, (r.p).in_range.few_real, (r.p).in_range.few_dummies) in
      is.slots u j (listed n low) lj
      ∙ ap (λ (v : Version). slot_plain r u (rank_at v j)) (sym (same_version u))
      ∙ ap (λ x. slot_plain r u x) (let byte : rank_at (version_at end.content.versions u) j ≡ rank_at (version_at end.content.versions u) j % 2 ^ 8 = omega (arith, small, few) in byte)

  module _ (keys : Keys) (from : ℕ) (sealed_from : AreSealedFrom r generation from) (fits : from + bucket_seals r ≤ 2 ^ 62) where
    base_is : (version_of r u).base ≡ from + n * width r.p
    base_is = sealed_from.from n low ∙ (let part : n * width r.p ≤ bucket_seals r = mul-le-mul_right (width r.p) (omega (arith, low)) in omega (arith, part, fits))

    bucket_held : (image : Image) → ((i : ℕ) → i < width r.p → length (byte_plain r u i) ≡ 96)
        → AreSealed keys (slot_cell r.p (version_of r u).home u 0) (width r.p) generation (from + n * width r.p) (byte_plain r u) (run_at (slot_cell r.p (version_of r u).home u 0) image)
        → HoldsBucket keys r.p end u image
    bucket_held image long run = (end_writes_stay keys r.p s end image image is.follows).filled u (byte_plain r u) (listed n low)
        (record {
          long = long;
          slots = slot_is;
          run = subst (λ (v : Version). AreSealed keys (slot_cell r.p v.home u 0) (width r.p) v.generation v.base (byte_plain r u) (run_at (slot_cell r.p v.home u 0) image)) (sym (same_version u)) there;
        })
      where
        there : AreSealed keys (slot_cell r.p (version_of r u).home u 0) (width r.p) (version_of r u).generation (version_of r u).base (byte_plain r u) (run_at (slot_cell r.p (version_of r u).home u 0) image)
        there = subst (λ g. AreSealed keys (slot_cell r.p (version_of r u).home u 0) (width r.p) g (version_of r u).base (byte_plain r u) (run_at (slot_cell r.p (version_of r u).home u 0) image)) (sym (sealed_from.under n low))
            (subst (λ b. AreSealed keys (slot_cell r.p (version_of r u).home u 0) (width r.p) generation b (byte_plain r u) (run_at (slot_cell r.p (version_of r u).home u 0) image)) (sym base_is) run)

    apart : (i : ℕ) → i < n → listed_at r i ≢ u
    apart i below e =
        let same : i ≡ n = is.follows.apart i n
        (subst (λ (us : List ℕ). i < length us) (sym is.order) (omega (arith, below, low))) (subst (λ (us : List ℕ). n < length us) (sym is.order) low)
        (ap (λ (us : List ℕ). slice_index us i) is.order ∙ e ∙ ap (λ (us : List ℕ). slice_index us n) (sym is.order)) in
        omega (arith, same, below)

    others_held : (i : ℕ) (c d : Image) → i < n → SameOff (slot_cell r.p (version_of r u).home u 0) (width r.p) c d → HoldsBucket keys r.p end (listed_at r i) d → HoldsBucket keys r.p end (listed_at r i) c
    others_held i c d below same holds =
        (end_writes_stay keys r.p s end c d is.follows).other_bucket (listed_at r i) u (listed i (omega (arith, below, low))) (listed n low) (apart i below) (same_bucket c d same) holds

-- ---- one bucket more

module _ (r : Kept) (n v : ℕ) (before sealer later : Sealing) (old mid new : Disk) (low : n < length (r.metas).order) (at : v ≡ listed_at r n) (so_far : Filling r n before sealer old mid) where
  module _ {T E : Type 0} (result : Result T E) (run : WritesRun (slot_cell r.p (version_of r v).home v 0) (width r.p) (byte_plain r v) sealer later mid new result) where
    here : WritesRun (slot_cell r.p (version_of r (listed_at r n)).home (listed_at r n) 0) (width r.p) (byte_plain r (listed_at r n)) sealer later mid new result
    here = subst (λ x. WritesRun (slot_cell r.p (version_of r x).home x 0) (width r.p) (byte_plain r x) sealer later mid new result) at run

    pub more_spare : (s : RingStanding) (end : RingEnd) → IsEndOfRing s end before.generation r → WritesSpare r.p s old new
    more_spare s end is = spare_then r.p s old mid new so_far.tells (so_far.fills s end is).spare (bucket_spare r s end before.generation is n low mid new T E sealer later result here)

    pub first_more : old.tells → SameFirst new.cells old.cells
    first_more t k lt = here.within.rest (so_far.tells t) k (inl (omega (arith, lt))) ∙ so_far.first t k lt

    pub moments_more : Passes SameFirst old new
    moments_more = passed_then SameFirst old mid new first_joins so_far.moments
        (passes_so (SameOff (slot_cell r.p (version_of r (listed_at r n)).home (listed_at r n) 0) (width r.p)) SameFirst mid new (λ c d same k lt. same k (inl (omega (arith, lt)))) here.within.passes)

    pub fill_refused : {U F : Type 0} (x : Result U F) → IsErr x → (s : RingStanding) (end : RingEnd) → IsEndOfRing s end before.generation r → FillsBuckets {T = U} {E = F} before.keys r.p s end old new x
    fill_refused (Ok w) err s end is = absurd (grind (arith, err))
    fill_refused (Err w) err s end is = record { spare = more_spare s end is; written = λ t. tt }

    further : IsFurther (bucket_seals r) before later
    further =
        let some = run.seals.some in
        let then = so_far.next in
        let part : (n + 1) * width r.p ≤ bucket_seals r = mul-le-mul_right (width r.p) (omega (arith, low)) in
        record {
          keys = some.keys ∙ so_far.keys;
          generation = some.generation ∙ so_far.generation;
          on = omega (arith, some.on, then);
          within = omega (arith, some.within, then, part);
        }

    pub seals_refused : {U F : Type 0} (x : Result U F) → IsErr x → Seals {T = U} {E = F} (bucket_seals r) before later x
    seals_refused (Ok w) err = absurd (grind (arith, err))
    seals_refused (Err w) err = record { all = tt; some = further }

  module _ {E : Type 0} (blames : E → Type 0) (run : WritesRun {T = Unit {0}} {E = E} (slot_cell r.p (version_of r v).home v 0) (width r.p) (byte_plain r v) sealer later mid new (Ok tt))
      (sealed_from : AreSealedFrom r before.generation before.next) (fits : before.next + bucket_seals r ≤ 2 ^ 62) where
    run_here : WritesRun {T = Unit {0}} {E = E} (slot_cell r.p (version_of r (listed_at r n)).home (listed_at r n) 0) (width r.p) (byte_plain r (listed_at r n)) sealer later mid new (Ok tt)
    run_here = here {T = Unit {0}} {E = E} (Ok tt) run

    run_before : mid.tells → AreSealed before.keys (slot_cell r.p (version_of r (listed_at r n)).home (listed_at r n) 0) (width r.p) before.generation (before.next + n * width r.p) (byte_plain r (listed_at r n)) (run_at (slot_cell r.p (version_of r (listed_at r n)).home (listed_at r n) 0) new.cells)
    run_before t = let w = run_here.written t in rw (sym so_far.keys, sym so_far.generation, sym so_far.next) w

    width_now : later.next ≡ sealer.next + width r.p
    width_now = ap (λ (x : Sealing). x.next) run.seals.all

    goes_before : SealerGoesOn before sealer
    goes_before = record { keys = so_far.keys; generation = so_far.generation; on = (let then = so_far.next in omega (arith, then)) }

    goes_now : SealerGoesOn sealer later
    goes_now = record { keys = ap (λ (x : Sealing). x.keys) run.seals.all; generation = ap (λ (x : Sealing). x.generation) run.seals.all; on = omega (arith, width_now) }

    sealed_one : mid.tells → CellsAreSealed sealer later mid.cells new.cells
    sealed_one t = run_sealed (slot_cell r.p (version_of r (listed_at r n)).home (listed_at r n) 0) (width r.p) (byte_plain r (listed_at r n)) sealer later mid.cells new.cells width_now few (run_here.written t) (λ k off. inl (run_here.within.rest t k off))
      where
        few : sealer.next + width r.p ≤ 2 ^ 62
        few = let then = so_far.next in let part : (n + 1) * width r.p ≤ bucket_seals r = mul-le-mul_right (width r.p) (omega (arith, low)) in omega (arith, then, part, fits)

    pub fill_one : Serves {T = Unit {0}} {E = E} blames mid new (Ok tt) → Filling r (n + 1) before later old new
    fill_one serves = record {
      goes = goes_then old mid new so_far.goes serves.goes;
      tells = λ t. serves.tells (so_far.tells t);
      out = let none = so_far.out in let still = serves.out in omega arith;
      keys = ap (λ (x : Sealing). x.keys) run.seals.all ∙ so_far.keys;
      generation = ap (λ (x : Sealing). x.generation) run.seals.all ∙ so_far.generation;
      next = (let now : later.next ≡ sealer.next + width r.p = ap (λ (x : Sealing). x.next) run.seals.all in let then = so_far.next in omega (arith, now, then));
      first = first_more {T = Unit {0}} {E = E} (Ok tt) run;
      moments = moments_more {T = Unit {0}} {E = E} (Ok tt) run;
      sealed = λ t. sealed_join before sealer later old.cells mid.cells new.cells goes_before goes_now (so_far.sealed t) (sealed_one (so_far.tells t));
      fills = λ s end is. record {
        spare = more_spare {T = Unit {0}} {E = E} (Ok tt) run s end is;
        written = λ t. below_more (λ i. HoldsBucket before.keys r.p end (listed_at r i) new.cells) n
            (λ i below. others_held r s end before.generation is n low before.keys before.next sealed_from fits i new.cells mid.cells below (run_here.within.rest (so_far.tells t)) ((so_far.fills s end is).written t i below))
            (bucket_held r s end before.generation is n low before.keys before.next sealed_from fits new.cells run_here.whole (run_before (so_far.tells t)));
      };
    }

-- ---- all of them

pub fill_all : {E : Type 0} (r : Kept) (n : ℕ) (before sealer : Sealing) (old new : Disk) → n ≡ length (r.metas).order → Filling r n before sealer old new → (s : RingStanding) (end : RingEnd) → IsEndOfRing s end before.generation r
    → FillsBuckets {T = Unit {0}} {E = E} before.keys r.p s end old new (Ok tt)
fill_all r n before sealer old new whole so s end is = record {
  spare = (so.fills s end is).spare;
  written = λ t u on. (
      let found = found_at (r.metas).order u (subst (λ (us : List ℕ). is_one_of us u ≡ true) is.order on) in
      subst (λ x. HoldsBucket before.keys r.p end x new.cells) found.2 ((so.fills s end is).written t found.0 (omega (arith, whole, found.1))));
}

pub seals_all : {E : Type 0} (r : Kept) (n : ℕ) (before sealer : Sealing) (old new : Disk) → n ≡ length (r.metas).order → Filling r n before sealer old new → Seals {T = Unit {0}} {E = E} (bucket_seals r) before sealer (Ok tt)
seals_all r n before sealer old new whole so =
    let then : sealer.next ≡ before.next + bucket_seals r = so.next ∙ ap (λ x. before.next + x * width r.p) whole in
    record {
      all = sealing_on before sealer (bucket_seals r) so.keys so.generation then;
      some = record { keys = so.keys; generation = so.generation; on = omega (arith, then); within = omega (arith, then) };
    }
