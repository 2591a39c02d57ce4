-- All that an end writes, from its parts.
use Rattle.std.specs.Prelude.{◌≡◌, ◌<◌, ◌≤◌, ℕ, suc, ◌+◌, ◌%◌, ◌^◌, Result, Ok, Err, OnOk}
use Rattle.std.proofs.Common.{arith, inl, inr, ⊎_elim, refl, sym, ap, ◌∙◌, subst}
use Rattle.std.specs.Result.{IsErr}
use Rattle.ob_base.specs.declared.fault.Failed.{Failed}
use Rattle.ob_base.specs.declared.fault.Fault.{Fault}
use Rattle.ob_base.specs.declared.fault.Fault.TheVariants as fault
use Rattle.ob_base.specs.declared.params.Params.{Params}
use Rattle.ob_base.specs.Layout.{checkpoint_cells, check_cell}
use Rattle.ob_tables.specs.Buckets.{Buckets}
use Rattle.ob_cells.specs.Runs.{IsFurther}
use Rattle.ob_cells.specs.Writes.{Seals, WritesWithin}
use Rattle.ob_cells.proofs.Written.{sealing_on}
use Rattle.ob_check.specs.Written.{AreWriteFaults, HoldsCheckpointFrom, area_of}
use Rattle.ob_tables.specs.Content.{Content, content_of}
use Rattle.ob_ring.specs.Ring.{Kept}
use Rattle.ob_seal.specs.declared.keys.Keys.{Keys}
use Rattle.ob_seal.specs.Sealing.{Sealing}
use Rattle.ob_twin.proofs.Moves.{closed-isnt-open}
use Rattle.ob_store.specs.Disk.{Disk, Image}
use Rattle.ob_store.specs.Images.{Elapses, Passes, SameOff, Shrinks}
use Rattle.ob_store.specs.Calls.{GoesOn, Keeps}
use Rattle.ob_store.proofs.Moments.{passed_then, passes_so}
use Rattle.ob_pads.specs.Seals.{CellsAreSealed, IsGate, IsUnsealed, SealerGoesOn}
use Rattle.ob_pads.proofs.Sealing.{none_sealed, run_sealed, sealed_join}
use Rattle.ob_seal.specs.Pieces.{piece}
use Rattle.ob_tables.specs.Spelling.{checkpoint_bytes}
use Rattle.ob_stand.specs.Ends.{RingEnd, IsEndOf, HoldsNextCheckpoint, IsEndWritten}
use Rattle.ob_stand.specs.Fills.{next_gate}
use Rattle.ob_stand.specs.Spare.{Spare, SameButIn}
use Rattle.ob_stand.specs.Stands.{RingStanding}
use Rattle.ob_stand.proofs.EndLaws.{end_writes_spare}
use Rattle.ob_stand.proofs.FillLaws.{end_writes_stay}
use Rattle.ob_tables.specs.declared.tables.Tables.{Tables}
use Rattle.ob_twin.specs.Bodies.{closed_gate}
use Rattle.ob_end.specs.EndWrites.{FillsBuckets, HoldsBuckets, IsEndOfRing, IsOfStore, SameFirst, ShutsGates, WritesEnd, WritesSpare, all_seals, bucket_seals, content_left, rows_left}
use Rattle.ob_end.proofs.Parts.{first_joins, spare_then, spare_synced}

-- a write of a checkpoint for which there are seals is refused by the store alone
pub of_store : (p : Params) (next : ℕ) (e : Fault) → next + checkpoint_cells p ≤ 2 ^ 62 → AreWriteFaults p next (Err e) → IsOfStore e
of_store p next fault.Memory few told = absurd told
of_store p next fault.Usage few told = absurd told
of_store p next (fault.BadScript line) few told = absurd told
of_store p next (fault.BadParams what) few told = absurd told
of_store p next fault.NotStore few told = absurd told
of_store p next (fault.Damaged cell what kept computed) few told = absurd told
of_store p next (fault.StoreFault unsure) few told = told.0
of_store p next (fault.StashFull epoch) few told = absurd told
of_store p next (fault.Worn number) few told = absurd (let worn = told.1 in omega (arith, worn, few))
of_store p next fault.SourceFault few told = absurd told
of_store p next fault.SinkFault few told = absurd told

-- what the checkpoint keeps
pub content_is : (t : Tables Buckets) (r left : Kept) → left ≡ record r { stash = left.stash } → (left.stash).rows ≡ rows_left r → t.book ≡ left.book → t.metas ≡ left.metas → t.stash ≡ left.stash → t.counter ≡ left.counter
    → content_of t ≡ content_left r
content_is t r left kept rows book metas stash counter =
    let b : t.book ≡ r.book = book ∙ ap (λ (k : Kept). k.book) kept in
    let m : t.metas ≡ r.metas = metas ∙ ap (λ (k : Kept). k.metas) kept in
    let n : t.counter ≡ r.counter = counter ∙ ap (λ (k : Kept). k.counter) kept in
    let s : (t.stash).rows ≡ rows_left r = ap (λ h. h.rows) stash ∙ rows in
    rw (b, m, n, s) refl

-- ---- the checkpoint

module _ (keys : Keys) (p : Params) (s : RingStanding) (end : RingEnd) (follows : IsEndOf p s end) (epoch : ℕ) (at : epoch ≡ suc s.epoch) where
  same_check : (c d : Image) → SameOff (area_of p epoch) (checkpoint_cells p) c d → SameOff (check_cell p (suc s.epoch % 2) 0) (checkpoint_cells p) c d
  same_check c d same = subst (λ e. SameOff (check_cell p (e % 2) 0) (checkpoint_cells p) c d) at same

  pub check_spare : (old new : Disk) → (old.tells → SameOff (area_of p epoch) (checkpoint_cells p) new.cells old.cells) → Passes (SameOff (area_of p epoch) (checkpoint_cells p)) old new → WritesSpare p s old new
  check_spare old new rest passes = record {
    rest = λ t. (end_writes_spare p s new.cells old.cells).checkpoint (same_check new.cells old.cells (rest t));
    passes = passes_so (SameOff (area_of p epoch) (checkpoint_cells p)) (SameButIn (Spare p s)) old new (λ c d same. (end_writes_spare p s c d).checkpoint (same_check c d same)) passes;
  }

  pub buckets_checked : (c d : Image) → SameOff (area_of p epoch) (checkpoint_cells p) c d → HoldsBuckets keys p end d → HoldsBuckets keys p end c
  buckets_checked c d same are u on = (end_writes_stay keys p s end c d follows).bucket_checked u on (same_check c d same) (are u on)

  pub checkpoint_held : (g next : ℕ) (content : Content) (image : Image) → s.generation ≡ g → g < 2 ^ 64 → next < 2 ^ 64 → end.content ≡ content → HoldsCheckpointFrom keys p epoch content g next image → HoldsNextCheckpoint keys p s end image
  checkpoint_held g next content image under fits few is holds = record {
    first = record { generation = g; number = next };
    known = omega (arith, under);
    run = record {
      generation_fits = fits;
      number_fits = few;
      sealed_so = subst (λ (c : Content). HoldsCheckpointFrom keys p (suc s.epoch) c g next image) (sym is) (subst (λ e. HoldsCheckpointFrom keys p e content g next image) at holds);
    };
  }

pub first_checked : (p : Params) (epoch : ℕ) (old new : Disk) → (old.tells → SameOff (area_of p epoch) (checkpoint_cells p) new.cells old.cells) → old.tells → SameFirst new.cells old.cells
first_checked p epoch old new rest t k lt = rest t k (inl (omega (arith, lt)))

pub first_then : (a b c : Image) → SameFirst b a → SameFirst c b → SameFirst c a
first_then a b c one two k lt = two k lt ∙ one k lt

pub moments_checked : (p : Params) (epoch : ℕ) (old mid new : Disk) → Passes SameFirst old mid → Passes (SameOff (area_of p epoch) (checkpoint_cells p)) mid new → Passes SameFirst old new
moments_checked p epoch old mid new before passes = passed_then SameFirst old mid new first_joins before (passes_so (SameOff (area_of p epoch) (checkpoint_cells p)) SameFirst mid new (λ c d same k lt. same k (inl (omega (arith, lt)))) passes)

pub moments_then : (old mid new : Disk) → Passes SameFirst old mid → Passes SameFirst mid new → Passes SameFirst old new
moments_then old mid new one two = passed_then SameFirst old mid new first_joins one two

-- ---- the seals of its cells

further_on : (many : ℕ) (a b : Sealing) → IsFurther many a b → SealerGoesOn a b
further_on many a b f = record { keys = f.keys; generation = f.generation; on = f.on }

module _ (r : Kept) (p : Params) (epoch : ℕ) (a b c : Sealing) (v w x y z : Image) (further : IsFurther (bucket_seals r) a b) (one : b ≡ record a { next = a.next + bucket_seals r }) (room : a.next + all_seals r ≤ 2 ^ 62) (is : p ≡ r.p)
    (two : c ≡ record b { next = b.next + checkpoint_cells p }) (more : IsFurther (checkpoint_cells p) b c) (content : Content) (written : HoldsCheckpointFrom b.keys p epoch content b.generation b.next x)
    (rest : SameOff (area_of p epoch) (checkpoint_cells p) x w) (filled : CellsAreSealed a b v w) (shut : (cell : ℕ) → IsUnsealed x y cell) (same : (cell : ℕ) → z cell ≡ y cell) where
  few : b.next + checkpoint_cells p ≤ 2 ^ 62
  few = (let then : b.next ≡ a.next + bucket_seals r = ap (λ (s : Sealing). s.next) one in let cells : checkpoint_cells p ≡ checkpoint_cells r.p = ap checkpoint_cells is in omega (arith, then, cells, room))

  checked : CellsAreSealed b c w x
  checked = run_sealed (area_of p epoch) (checkpoint_cells p) (λ i. piece i (checkpoint_bytes p epoch content)) b c w x (ap (λ (s : Sealing). s.next) two) few written (λ k off. inl (rest k off))

  stays : (cell : ℕ) → IsUnsealed x z cell
  stays cell = ⊎_elim (λ (e : y cell ≡ x cell). inl (same cell ∙ e)) (λ (gate : IsGate (y cell)). inr (subst IsGate (sym (same cell)) gate)) (shut cell)

  pub end_sealed : CellsAreSealed a c v z
  end_sealed = sealed_join a c c v x z (further_on (bucket_seals r + checkpoint_cells p) a c further_all) (record { keys = refl; generation = refl; on = omega arith })
      (sealed_join a b c v w x (further_on (bucket_seals r) a b further) (further_on (checkpoint_cells p) b c more) filled checked)
      (none_sealed c c x z (λ cell low. stays cell))
    where
      further_all : IsFurther (bucket_seals r + checkpoint_cells p) a c
      further_all = record {
        keys = more.keys ∙ further.keys;
        generation = more.generation ∙ further.generation;
        on = (let x = further.on in let y = more.on in omega (arith, x, y));
        within = (let x = further.within in let y = more.within in omega (arith, x, y));
      }

-- ---- all of it

pub written_all : (keys : Keys) (p : Params) (s : RingStanding) (end : RingEnd) (c d : Image) → ((k : ℕ) → c k ≡ d k) → HoldsBuckets keys p end d → HoldsNextCheckpoint keys p s end d → ((b : ℕ) → b < p.batches → d (next_gate p s b) ≡ closed_gate)
    → IsEndWritten keys p s end c
written_all keys p s end c d same are holds shut = record {
  slots = λ u on j lj free. (let was = are u on j lj free in record { long = was.long; spelled = same _ ∙ was.spelled });
  checkpoint = record {
    first = holds.first;
    known = holds.known;
    run = record { generation_fits = holds.run.generation_fits; number_fits = holds.run.number_fits; sealed_so = λ i lt. same _ ∙ holds.run.sealed_so i lt };
  };
  shut = λ b low. λ opened. closed-isnt-open (sym (same _ ∙ shut b low) ∙ opened);
}

-- a checkpoint that was written so is the end's
pub as_written : (r : Kept) (q : Params) (a b : Sealing) (content : Content) (epoch : ℕ) (image : Image) → q ≡ r.p → b ≡ record a { next = a.next + bucket_seals r } → content ≡ content_left r
    → HoldsCheckpointFrom b.keys q epoch content b.generation b.next image → HoldsCheckpointFrom a.keys r.p epoch (content_left r) a.generation (a.next + bucket_seals r) image
as_written r q a b content epoch image params seals is holds =
    subst (λ (x : Params). HoldsCheckpointFrom a.keys x epoch (content_left r) a.generation (a.next + bucket_seals r) image) params
    (subst (λ (x : Content). HoldsCheckpointFrom a.keys q epoch x a.generation (a.next + bucket_seals r) image) is
    (subst (λ (x : Sealing). HoldsCheckpointFrom x.keys q epoch content x.generation x.next image) seals holds))

-- ---- what is left, call by call

module _ (keys : Keys) (r : Kept) (g : ℕ) (s : RingStanding) (end : RingEnd) (is : IsEndOfRing s end g r) (epoch : ℕ) (at : epoch ≡ suc s.epoch) (a b c : Disk) (told : a.tells → b.tells)
    (filled : FillsBuckets {T = Unit {0}} {E = Failed} keys r.p s end a b (Ok tt)) (within : WritesWithin (area_of r.p epoch) (checkpoint_cells r.p) b c) where
  spare_checked : WritesSpare r.p s a c
  spare_checked = spare_then r.p s a b c told filled.spare (check_spare keys r.p s end is.follows epoch at b c within.rest within.passes)

  -- the checkpoint was refused
  pub check_refused : {T E : Type 0} (x : Result T E) → IsErr x → WritesEnd keys r.p s end a c x
  check_refused (Ok w) err = absurd (grind (arith, err))
  check_refused (Err e) err = record { spare = spare_checked; written = λ t. tt }

  module _ (told_check : a.tells → c.tells) (d : Disk) where
    -- a gate was
    pub gates_refused : {F T E : Type 0} (f : F) (e : E) → ShutsGates {T = Unit {0}} {E = F} keys r.p s end c d (Err f) → WritesEnd {T = T} keys r.p s end a d (Err e)
    gates_refused f e shuts = record { spare = spare_then r.p s a c d told_check spare_checked shuts.stays.spare; written = λ t. tt }

    module _ {F : Type 0} (shuts : ShutsGates {T = Unit {0}} {E = F} keys r.p s end c d (Ok tt)) (told_gates : a.tells → d.tells) (new : Disk) (keeps : Keeps d new) (goes : GoesOn d new) (time : Elapses d new) (crash : Shrinks d new) where
      spare_all : WritesSpare r.p s a new
      spare_all = spare_synced r.p s a d new told_gates (spare_then r.p s a c d told_check spare_checked shuts.stays.spare) keeps goes time crash

      -- the sync was
      pub sync_refused : {T E : Type 0} (e : E) → WritesEnd {T = T} keys r.p s end a new (Err e)
      sync_refused e = record { spare = spare_all; written = λ t. tt }

      -- all of it was written
      pub end_written : {E : Type 0} (next : ℕ) → g < 2 ^ 64 → next < 2 ^ 64 → (a.tells → HoldsCheckpointFrom keys r.p epoch (content_left r) g next c.cells) → WritesEnd {T = Unit {0}} {E = E} keys r.p s end a new (Ok tt)
      end_written next fits few holds = record {
        spare = spare_all;
        written = λ t. written_all keys r.p s end new.cells d.cells (keeps.cells (told_gates t))
            (shuts.stays.buckets (told_check t) (buckets_checked keys r.p s end is.follows epoch at c.cells b.cells (within.rest (told t)) (filled.written t)))
            (shuts.stays.checkpoint (told_check t) (checkpoint_held keys r.p s end is.follows epoch at g next (content_left r) c.cells is.under fits few is.content (holds t)))
            (shuts.shut (told_check t));
      }

-- ---- the seals

-- those of the buckets, and at most the checkpoint's behind them
pub seals_more : {T E : Type 0} (r : Kept) (p : Params) (a b c : Sealing) (result : Result T E) → p ≡ r.p → b ≡ record a { next = a.next + bucket_seals r } → OnOk result (c ≡ record b { next = b.next + checkpoint_cells p })
    → IsFurther (checkpoint_cells p) b c → Seals (all_seals r) a c result
seals_more {T} {E} r p a b c result is one two some = record { all = by_answer result two; some = further }
  where
    then : b.next ≡ a.next + bucket_seals r
    then = ap (λ (x : Sealing). x.next) one

    cells : checkpoint_cells p ≡ checkpoint_cells r.p
    cells = ap checkpoint_cells is

    further : IsFurther (all_seals r) a c
    further = record {
      keys = some.keys ∙ ap (λ (x : Sealing). x.keys) one;
      generation = some.generation ∙ ap (λ (x : Sealing). x.generation) one;
      on = (let on = some.on in omega (arith, on, then));
      within = (let most = some.within in omega (arith, most, then, cells));
    }

    by_answer : (x : Result T E) → OnOk x (c ≡ record b { next = b.next + checkpoint_cells p }) → OnOk x (c ≡ record a { next = a.next + all_seals r })
    by_answer (Ok v) made = sealing_on a c (all_seals r) (ap (λ (x : Sealing). x.keys) made ∙ ap (λ (x : Sealing). x.keys) one) (ap (λ (x : Sealing). x.generation) made ∙ ap (λ (x : Sealing). x.generation) one)
        (let now : c.next ≡ b.next + checkpoint_cells p = ap (λ (x : Sealing). x.next) made in omega (arith, now, then, cells))
    by_answer (Err e) made = tt

-- those of the buckets alone, where these were refused
pub seals_cut : {T U E F : Type 0} (r : Kept) (a b : Sealing) (e : E) (f : F) → Seals {T = T} (bucket_seals r) a b (Err e) → Seals {T = U} (all_seals r) a b (Err f)
seals_cut r a b e f seals = record {
  all = tt;
  some = record { keys = seals.some.keys; generation = seals.some.generation; on = seals.some.on; within = (let most = seals.some.within in omega (arith, most)) };
}
