-- What is read of an image that stands.
use Rattle.std.specs.Prelude.{◌≡◌, ◌<◌, ℕ, false, List, ◌++◌, length, take, drop, Some}
use Rattle.std.proofs.Common.{arith, refl, sym, ap, ◌∙◌, subst, append_assoc}
use Rattle.std.proofs.lemmas.List.{take_at, drop_at}
use Rattle.ob_base.specs.declared.params.Params.{Params}
use Rattle.ob_base.specs.Tree.{buckets, width}
use Rattle.ob_store.specs.Disk.{Image}
use Rattle.ob_seal.specs.declared.keys.Keys.{Keys}
use Rattle.ob_seal.specs.Pads.{pad_of, xored}
use Rattle.ob_seal.specs.Pieces.{onward}
use Rattle.ob_seal.specs.Seals.{identity_bytes, tag_of, sealed, sealed_front, stamped}
use Rattle.ob_seal.proofs.PadLemmas.{length-xored, xored_twice}
use Rattle.ob_tables.specs.Version.{key_at, rank_at, used_at}
use Rattle.ob_tables.specs.Buckets.{version_at}
use Rattle.ob_stand.specs.Numbers.{IsKnown}
use Rattle.ob_stand.specs.Values.{with_entries}
use Rattle.ob_stand.specs.Valued.{IsSlotOf, content_with}
use Rattle.ob_stand.proofs.Ending.{ends_follow}
use Rattle.ob_stand.specs.EpochEnds.{IsNext}
use Rattle.ob_stand.specs.Reads.{SealedAreOpened, StandsValued, RunsEnd, slots_in}
use Rattle.ob_stand.specs.Stands.{RingStanding, Stands, cell_at}
use Rattle.ob_stand.proofs.OnceLaws.{bucket_low, index_low}

-- the part between an identity and a tag
middle : (id x tag : List ℕ) → length id ≡ 16 → length x ≡ 96 → take 96 (drop 16 ((id ++ x) ++ tag)) ≡ x
middle id x tag a b = ap (λ (l : List ℕ). take 96 (drop 16 l)) (append_assoc id x tag) ∙ ap (λ (l : List ℕ). take 96 l) (drop_at id (x ++ tag) 16 a) ∙ take_at x tag 96 b

sealed_middle : (keys : Keys) (cell g n : ℕ) (plain : List ℕ) → length plain ≡ 96 → take 96 (drop 16 (sealed keys cell g n plain)) ≡ xored plain (pad_of keys.seal g n)
unfolding sealed stamped sealed_front
sealed_middle keys cell g n plain long = middle (identity_bytes g n) (xored plain (pad_of keys.seal g n)) (tag_of keys.tag cell (identity_bytes g n ++ xored plain (pad_of keys.seal g n))) refl (length-xored plain (pad_of keys.seal g n) ∙ long)

pub sealed_are_opened : SealedAreOpened
sealed_are_opened keys image cell g n plain long is =
    ap (λ (l : List ℕ). xored l (pad_of keys.seal g n)) (ap (λ (l : List ℕ). take 96 (drop 16 l)) is ∙ sealed_middle keys cell g n plain long) ∙ xored_twice plain (pad_of keys.seal g n)

module _ (keys : Keys) (p : Params) (s : RingStanding) (image : Image) (stands : Stands keys p s image) where
  -- an index that wasn't shown
  pub slot_read : (u j : ℕ) → u < buckets p → j < width p → used_at (version_at s.content.versions u) j ≡ false → slots_in keys p s.content image u j ≡ stands.holds.slots.slots u j
  slot_read u j lu lj free =
      let was = stands.holds.slots.spelled u j lu lj free in
      sealed_are_opened keys image (cell_at p u (version_at s.content.versions u) j) (version_at s.content.versions u).generation (onward (version_at s.content.versions u).base (rank_at (version_at s.content.versions u) j))
      (stands.holds.slots.slots u j) was.long was.spelled

  valued_at : (u j k : ℕ) → key_at (version_at s.content.versions u) j ≡ Some k → IsSlotOf (slots_in keys p s.content image) s.map u j k
  valued_at u j k at =
      let o = stands.holds.obeys in
      let lu : u < buckets p = bucket_low p s.content u j k o at in
      let was = stands.holds.slots.valued.slots_are u j k at in
      record { value = was.value; is = was.is; spelled = slot_read u j lu (index_low p s.content u j k o at) ((o.versions u lu).marks.unshown j k at) ∙ was.spelled; short = was.short }

pub stands_valued : StandsValued
stands_valued keys p s image stands = record {
  absent = stands.holds.slots.valued.absent;
  rows = stands.holds.slots.valued.rows;
  slots_are = valued_at keys p s image stands;
}

pub runs_end : RunsEnd
runs_end keys p s image r slots bs js ws book rows counter stands same epoch run =
    let small = stands.generation.small in
    let known : IsKnown s.content (r.first).0 = subst (IsKnown s.content) (sym same) stands.holds.known in
    let next = ends_follow p r s.content (slots_in keys p s.content image) slots s.map bs js ws book rows counter stands.holds.obeys known (omega arith) (stands_valued keys p s image stands) epoch run in
    subst (λ g. IsNext p s.content (content_with r.filled book rows counter) slots s.map (with_entries s.map ws) g (r.before).order) same next
