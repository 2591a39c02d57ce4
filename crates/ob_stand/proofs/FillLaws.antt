-- What an end has written stays while it writes the rest.
use Rattle.std.specs.Prelude.{◌≡◌, ◌≢◌, ◌⊎◌, ◌<◌, ◌≤◌, ℕ, suc, ◌+◌, ◌-◌, ◌%◌, true, List}
use Rattle.std.proofs.Common.{arith, sym, ap, ◌∙◌, inl, inr, ⊎_elim, subst}
use Rattle.std.proofs.lemmas.Bool.{cases_eq, cases_lt}
use Rattle.ob_base.specs.declared.params.Params.{Params}
use Rattle.ob_base.specs.Tree.{buckets, width}
use Rattle.ob_base.specs.Layout.{LogArea, CheckArea, Home, Lies, record_cells, checkpoint_cells, check_cell, slot_cell}
use Rattle.ob_base.proofs.LayoutLaws.{regions_apart, log_lies, slot_lies, slots_apart, parts_apart}
use Rattle.ob_store.specs.Disk.{Image}
use Rattle.ob_store.specs.Images.{SameBut}
use Rattle.ob_seal.specs.declared.keys.Keys.{Keys}
use Rattle.ob_seal.specs.Pieces.{onward}
use Rattle.ob_seal.specs.Seals.{sealed}
use Rattle.ob_tables.specs.Version.{Version, rank_at}
use Rattle.ob_tables.specs.Buckets.{version_at}
use Rattle.ob_schedule.specs.Paths.{is_one_of}
use Rattle.ob_stand.specs.Ends.{RingEnd, IsEndOf, HoldsBucket, HoldsNextCheckpoint}
use Rattle.ob_stand.specs.Fills.{SameButBucket, SameButCheckpoint, next_gate, IsFilled, EndWritesStay}
use Rattle.ob_stand.specs.Stands.{RingStanding, SpellsSlot, cell_at}

-- a cell that is none of a run's
off_run : (base n k : ℕ) → ((i : ℕ) → i < n → k ≢ base + i) → (k < base) ⊎ (base + n ≤ k)
off_run base n k off = ⊎_elim
    (λ (low : k < base). inl low)
    (λ (from : base ≤ k). ⊎_elim (λ (to : k < base + n). absurd (off (k - base) (omega arith) (omega arith))) (λ (past : base + n ≤ k). inr past) (cases_lt k (base + n)))
    (cases_lt k base)

module _ (keys : Keys) (p : Params) (s : RingStanding) (end : RingEnd) (follows : IsEndOf p s end) where
  abbrev at : ℕ → Version
  at u = version_at end.content.versions u

  rank_low : (u j : ℕ) → u < buckets p → j < width p → rank_at (at u) j < width p
  rank_low u j lu lj = let o = follows.obeys.versions u lu in let low = o.ranks.low j (omega (arith, o.slots.ranks)) in omega (arith, o.slots.ranks)

  -- a slot of a bucket that is filled anew
  slot_in : (u j : ℕ) → is_one_of end.order u ≡ true → j < width p → Lies p (Home (at u).home) (cell_at p u (at u) j)
  slot_in u j on lj = slot_lies p (at u).home u (rank_at (at u) j) (follows.within u on) (rank_low u j (follows.within u on) lj)

  module _ (c d : Image) where
    -- a bucket stays where its slots are the same
    bucket_same : (u : ℕ) → ((j : ℕ) → j < width p → c (cell_at p u (at u) j) ≡ d (cell_at p u (at u) j)) → HoldsBucket keys p end u d → HoldsBucket keys p end u c
    bucket_same u same holds j lj free = let was = holds j lj free in record { long = was.long; spelled = same j lj ∙ was.spelled }

    other_bucket : (u v : ℕ) → is_one_of end.order u ≡ true → is_one_of end.order v ≡ true → u ≢ v → SameButBucket p end v c d → HoldsBucket keys p end u d → HoldsBucket keys p end u c
    other_bucket u v on listed ne same = bucket_same u (λ j lj. same _ (off_run (slot_cell p (at v).home v 0) (width p) (cell_at p u (at u) j) (λ i li e. apart j i lj li e)))
      where
        apart : (j i : ℕ) → j < width p → i < width p → cell_at p u (at u) j ≡ slot_cell p (at v).home v 0 + i → ⊥
        apart j i lj li e =
            let there : cell_at p u (at u) j ≡ slot_cell p (at v).home v i = omega arith in
            ⊎_elim
            (λ (home : (at u).home ≡ (at v).home). ne (slots_apart p (at v).home u v (rank_at (at u) j) i (rank_low u j (follows.within u on) lj) li (ap (λ h. slot_cell p h u (rank_at (at u) j)) (sym home) ∙ there)).0)
            (λ (other : (at u).home ≢ (at v).home). regions_apart p (Home (at u).home) (Home (at v).home) (cell_at p u (at u) j) (follows.obeys.versions u (follows.within u on)).home (follows.obeys.versions v (follows.within v listed)).home
            (λ x. other (let y : (at u).home ≡ (at v).home = cc in y)) (slot_in u j on lj) (subst (Lies p (Home (at v).home)) (sym there) (slot_lies p (at v).home v i (follows.within v listed) li)))
            (cases_eq (at u).home (at v).home)

    bucket_checked : (u : ℕ) → is_one_of end.order u ≡ true → SameButCheckpoint p s c d → HoldsBucket keys p end u d → HoldsBucket keys p end u c
    bucket_checked u on same = bucket_same u (λ j lj. same _ (off_run (check_cell p (suc s.epoch % 2) 0) (checkpoint_cells p) (cell_at p u (at u) j) (λ i li e.
        regions_apart p (Home (at u).home) (CheckArea (suc s.epoch % 2)) (cell_at p u (at u) j) (follows.obeys.versions u (follows.within u on)).home (omega arith) (λ x. cc)
        (slot_in u j on lj) (record { from = omega arith; to = omega arith }))))

    gate_lies : (b : ℕ) → b < p.batches → Lies p (LogArea (suc (suc s.epoch) % 2)) (next_gate p s b)
    gate_lies b lb = log_lies p (suc (suc s.epoch) % 2) b (record_cells p) lb (omega arith)

    bucket_gated : (u b : ℕ) → is_one_of end.order u ≡ true → b < p.batches → SameBut (next_gate p s b) c d → HoldsBucket keys p end u d → HoldsBucket keys p end u c
    bucket_gated u b on lb same = bucket_same u (λ j lj. same _ (λ e.
        regions_apart p (Home (at u).home) (LogArea (suc (suc s.epoch) % 2)) (cell_at p u (at u) j) (follows.obeys.versions u (follows.within u on)).home (omega arith) (λ x. cc)
        (slot_in u j on lj) (subst (Lies p (LogArea (suc (suc s.epoch) % 2))) (sym e) (gate_lies b lb))))

    check_gated : (b : ℕ) → b < p.batches → SameBut (next_gate p s b) c d → HoldsNextCheckpoint keys p s end d → HoldsNextCheckpoint keys p s end c
    check_gated b lb same was = record {
      first = was.first;
      known = was.known;
      run = record {
        generation_fits = was.run.generation_fits;
        number_fits = was.run.number_fits;
        sealed_so = λ i lt. same _ (λ e. off i lt e) ∙ was.run.sealed_so i lt;
      };
    }
      where
        off : (i : ℕ) → i < checkpoint_cells p → check_cell p (suc s.epoch % 2) 0 + i ≡ next_gate p s b → ⊥
        off i lt e = regions_apart p (CheckArea (suc s.epoch % 2)) (LogArea (suc (suc s.epoch) % 2)) (check_cell p (suc s.epoch % 2) 0 + i) (omega arith) (omega arith) (λ x. cc)
            (record { from = omega arith; to = omega arith }) (subst (Lies p (LogArea (suc (suc s.epoch) % 2))) (sym e) (gate_lies b lb))

    other_gate : (a b : ℕ) → a ≢ b → SameBut (next_gate p s b) c d → c (next_gate p s a) ≡ d (next_gate p s a)
    other_gate a b ne same = same _ (λ e. ne (parts_apart p (suc (suc s.epoch) % 2) a b (record_cells p) (record_cells p) (omega arith) (omega arith) e).0)

    -- the run of a bucket
    filled : (u : ℕ) (plain : ℕ → List ℕ) → is_one_of end.order u ≡ true → IsFilled keys p end u plain d → HoldsBucket keys p end u d
    filled u plain on is j lj free =
        let low = rank_low u j (follows.within u on) lj in
        let cell : slot_cell p (at u).home u 0 + rank_at (at u) j ≡ cell_at p u (at u) j = omega arith in
        let there = is.run (rank_at (at u) j) low in
        let spelled : d (cell_at p u (at u) j) ≡ sealed keys (cell_at p u (at u) j) (at u).generation (onward (at u).base (rank_at (at u) j)) (plain (rank_at (at u) j)) =
        subst (λ x. d x ≡ sealed keys x (at u).generation (onward (at u).base (rank_at (at u) j)) (plain (rank_at (at u) j))) cell there in
        subst (λ (l : List ℕ). SpellsSlot keys p u (at u) j l d) (sym (is.slots j lj)) (record { long = is.long (rank_at (at u) j) low; spelled = spelled })

pub end_writes_stay : EndWritesStay
end_writes_stay keys p s end c d follows = record {
  filled = filled keys p s end follows c d;
  other_bucket = other_bucket keys p s end follows c d;
  bucket_checked = bucket_checked keys p s end follows c d;
  bucket_gated = bucket_gated keys p s end follows c d;
  check_gated = check_gated keys p s end follows c d;
  other_gate = other_gate keys p s end follows c d;
}
