-- During an end each image stands for the old epoch, or for the new one once its register may be set.
use Rattle.std.specs.Prelude.{◌≡◌, ◌<◌, ◌≤◌, ℕ, suc, ◌+◌, ◌-◌, ◌%◌, Bool, true, false, cond, List, length, Some, slice_index}
use Rattle.std.proofs.Common.{arith, refl, sym, ap, ◌∙◌, inl, inr, ⊎_elim, subst}
use Rattle.std.proofs.lemmas.Bool.{cases_lt, false≢true}
use Rattle.ob_base.specs.declared.params.Params.{Params}
use Rattle.ob_base.specs.Tree.{buckets, width}
use Rattle.ob_base.specs.Layout.{Lies, LogArea, checkpoint_cells, record_cells, check_cell, log_gate, slot_cell}
use Rattle.ob_base.proofs.LayoutLaws.{log_lies}
use Rattle.ob_store.specs.Disk.{Disk, Image}
use Rattle.ob_store.specs.Images.{SameBut, SameOff, LeavesOnly}
use Rattle.ob_store.proofs.Moments.{then_on, weakened, leaves_of}
use Rattle.ob_seal.specs.declared.keys.Keys.{Keys}
use Rattle.ob_seal.specs.Pieces.{onward}
use Rattle.ob_seal.specs.Seals.{sealed}
use Rattle.ob_twin.specs.Keyed.{tagging}
use Rattle.ob_twin.specs.Register.{StandsAt, KeepsAt, OldOrNew}
use Rattle.ob_twin.proofs.Frames.{register_moved}
use Rattle.ob_start.specs.Heads.{IsHead}
use Rattle.ob_tables.specs.Version.{Version, key_at, rank_at, used_at}
use Rattle.ob_tables.specs.Buckets.{version_at}
use Rattle.ob_schedule.specs.Paths.{is_one_of}
use Rattle.ob_stand.specs.Goes.{Goes}
use Rattle.ob_stand.specs.Carries.{Slots}
use Rattle.ob_stand.specs.Valued.{IsSlotOf}
use Rattle.ob_stand.specs.Stands.{RingStanding, SpellsSlot, HoldsRest, Stands, OneOf}
use Rattle.ob_stand.specs.Spare.{SameRest, Spare, SameButIn}
use Rattle.ob_stand.specs.Ends.{RingEnd, standing_after, IsEndOf, IsEndWritten, EndWritesSpare, EndFillsSpare, EndSpares, EndIsHeld, EndSets, Ending, EndLeaves}
use Rattle.ob_stand.proofs.Frames.{frame, stands_frame, agree_off_spare, rest_outside, log_outside}
use Rattle.ob_stand.proofs.OnceLaws.{bucket_low}

-- ---- the cells that are written

-- a run of cells of one kind
run_in : (kind : ℕ → Type 0) (base n : ℕ) (c d : Image) → ((i : ℕ) → i < n → kind (base + i)) → SameOff base n c d → SameButIn kind c d
run_in kind base n c d inside same k out = ⊎_elim
    (λ (low : k < base). same k (inl low))
    (λ (from : base ≤ k). ⊎_elim
    (λ (to : k < base + n). (let is : base + (k - base) ≡ k = omega arith in absurd (out (subst kind is (inside (k - base) (omega arith))))))
    (λ (past : base + n ≤ k). same k (inr past))
    (cases_lt k (base + n)))
    (cases_lt k base)

one_in : (kind : ℕ → Type 0) (cell : ℕ) (c d : Image) → kind cell → SameBut cell c d → SameButIn kind c d
one_in kind cell c d inside same k out = same k (λ is. out (subst kind (sym is) inside))

pub end_writes_spare : EndWritesSpare
end_writes_spare p s c d = record {
  bucket = λ u lu same. run_in (Spare p s) (slot_cell p (1 - (version_at s.content.versions u).home) u 0) (width p) c d
      (λ i lt. inr (inr (record { bucket = u; slot = i; bucket_low = lu; slot_low = lt; is = omega arith }))) same;
  checkpoint = λ same. run_in (Spare p s) (check_cell p (suc s.epoch % 2) 0) (checkpoint_cells p) c d
      (λ i lt. inr (inl (record { from = omega arith; to = omega arith }))) same;
  gate = λ b lb same. one_in (Spare p s) (log_gate p (suc (suc s.epoch) % 2) b) c d (inl (in_log b lb)) same;
}
  where
    in_log : (b : ℕ) → b < p.batches → Lies p (LogArea (s.epoch % 2)) (log_gate p (suc (suc s.epoch) % 2) b)
    in_log b lb =
        let area : suc (suc s.epoch) % 2 ≡ s.epoch % 2 = omega arith in
        subst (λ a. Lies p (LogArea (s.epoch % 2)) (log_gate p a b)) (sym area) (log_lies p (s.epoch % 2) b (record_cells p) lb (omega arith))

pub end_fills_spare : EndFillsSpare
end_fills_spare p s end u c d follows listed same =
    (end_writes_spare p s c d).bucket u (follows.within u listed) (subst (λ h. SameOff (slot_cell p h u 0) (width p) c d) (follows.homes u listed) same)

pub end_spares : EndSpares
end_spares keys p s c d same stands = stands_frame keys p s c d (agree_off_spare p s c d stands.holds.obeys stands.holds.log.few same) stands

-- ---- a bucket that goes on

slot_goes : (keys : Keys) (p : Params) (u : ℕ) (h h' g g' b b' r r' : ℕ) (plain : List ℕ) (c d : Image) → h' ≡ h → g' ≡ g → b' ≡ b → r' ≡ r
    → c (slot_cell p h u r) ≡ d (slot_cell p h u r) → d (slot_cell p h u r) ≡ sealed keys (slot_cell p h u r) g (onward b r) plain
    → c (slot_cell p h' u r') ≡ sealed keys (slot_cell p h' u r') g' (onward b' r') plain
slot_goes keys p u h h' g g' b b' r r' plain c d eh eg eb er same was = rw (eh, eg, eb, er) (same ∙ was)

module _ (keys : Keys) (p : Params) (s : RingStanding) (end : RingEnd) (c d : Image) (follows : IsEndOf p s end) (rest : SameRest p s c d) (holds : HoldsRest keys p s d) (written : IsEndWritten keys p s end c) where
  abbrev old_at : ℕ → Version
  old_at u = version_at s.content.versions u

  abbrev new_at : ℕ → Version
  new_at u = version_at end.content.versions u

  -- a bucket that is filled anew has the slots of the end, another one those of before
  abbrev slots_then : Slots
  slots_then u j = cond (is_one_of end.order u) (end.slots u j) (holds.slots.slots u j)

  when_filled : (u j : ℕ) (b : Bool) → b ≡ true → cond b (end.slots u j) (holds.slots.slots u j) ≡ end.slots u j
  when_filled u j true on = refl
  when_filled u j false on = absurd (false≢true on)

  when_left : (u j : ℕ) (b : Bool) → b ≡ false → cond b (end.slots u j) (holds.slots.slots u j) ≡ holds.slots.slots u j
  when_left u j true off = absurd (false≢true (sym off))
  when_left u j false off = refl

  goes_of : (u : ℕ) → u < buckets p → is_one_of end.order u ≡ false → Goes s.map end.map (old_at u) (new_at u)
  goes_of u lu off = ⊎_elim (λ listed. absurd (false≢true (sym off ∙ listed))) (λ goes. goes) (follows.goes u lu)

  -- the slot of an index that wasn't shown
  slot_filled : (u j : ℕ) → j < width p → used_at (new_at u) j ≡ false → is_one_of end.order u ≡ true → SpellsSlot keys p u (new_at u) j (slots_then u j) c
  slot_filled u j lj free on = subst (λ (l : List ℕ). SpellsSlot keys p u (new_at u) j l c) (sym (when_filled u j (is_one_of end.order u) on)) (written.slots u on j lj free)

  slot_left : (u j : ℕ) → u < buckets p → j < width p → used_at (new_at u) j ≡ false → is_one_of end.order u ≡ false → SpellsSlot keys p u (new_at u) j (slots_then u j) c
  slot_left u j lu lj free off =
      let goes = goes_of u lu off in
      let was = holds.slots.spelled u j lu lj (goes.used j free) in
      let spelled : SpellsSlot keys p u (new_at u) j (holds.slots.slots u j) c = record {
        long = was.long;
        spelled = slot_goes keys p u (old_at u).home (new_at u).home (old_at u).generation (new_at u).generation (old_at u).base (new_at u).base (rank_at (old_at u) j) (rank_at (new_at u) j) (holds.slots.slots u j) c d
            goes.home goes.generation goes.base (ap (λ (r : List ℕ). slice_index r j) goes.ranks) (rest.slots u j lu lj (goes.used j free)) was.spelled;
      } in
      subst (λ (l : List ℕ). SpellsSlot keys p u (new_at u) j l c) (sym (when_left u j (is_one_of end.order u) off)) spelled

  slot_spelled : (u j : ℕ) (b : Bool) → u < buckets p → j < width p → used_at (new_at u) j ≡ false → is_one_of end.order u ≡ b → SpellsSlot keys p u (new_at u) j (slots_then u j) c
  slot_spelled u j true lu lj free is = slot_filled u j lj free is
  slot_spelled u j false lu lj free is = slot_left u j lu lj free is

  -- what an index that holds a key has
  valued_filled : (u j k : ℕ) → key_at (new_at u) j ≡ Some k → is_one_of end.order u ≡ true → IsSlotOf slots_then end.map u j k
  valued_filled u j k at on =
      let v = follows.valued.slots_are u j k at in
      record { value = v.value; is = v.is; spelled = when_filled u j (is_one_of end.order u) on ∙ v.spelled; short = v.short }

  valued_left : (u j k : ℕ) → u < buckets p → key_at (new_at u) j ≡ Some k → is_one_of end.order u ≡ false → IsSlotOf slots_then end.map u j k
  valued_left u j k lu at off =
      let goes = goes_of u lu off in
      let v = holds.slots.valued.slots_are u j k (goes.keys j k at) in
      record { value = v.value; is = goes.values j k at ∙ v.is; spelled = when_left u j (is_one_of end.order u) off ∙ v.spelled; short = v.short }

  slot_valued : (u j k : ℕ) (b : Bool) → key_at (new_at u) j ≡ Some k → is_one_of end.order u ≡ b → IsSlotOf slots_then end.map u j k
  slot_valued u j k true at is = valued_filled u j k at is
  slot_valued u j k false at is = valued_left u j k (bucket_low p end.content u j k follows.obeys at) at is

  held : HoldsRest keys p (standing_after s end) c
  held = record {
    head = subst (λ (l : List ℕ). IsHead keys 1 p l) (sym rest.head) holds.head;
    checkpoint = written.checkpoint;
    obeys = follows.obeys;
    slots = record {
      slots = slots_then;
      spelled = λ u j lu lj free. slot_spelled u j (is_one_of end.order u) lu lj free refl;
      valued = record {
        absent = follows.valued.absent;
        rows = follows.valued.rows;
        slots_are = λ u j k at. slot_valued u j k (is_one_of end.order u) at refl;
      };
    };
    log = record {
      few = omega arith;
      opened = λ b lt. absurd (omega arith);
      shut = λ b le lt. written.shut b lt;
      bodies = λ b lt. absurd (omega arith);
      obey = λ b lt. absurd (omega arith);
    };
    known = follows.known;
    records_known = λ b lt. absurd (omega arith);
  }

pub end_is_held : EndIsHeld
end_is_held keys p s end c d follows same stands written =
    held keys p s end c d follows (agree_off_spare p s c d stands.holds.obeys stands.holds.log.few same).rest stands.holds written

-- ---- the register

pub epoch_kept : (keys : Keys) (p : Params) (s : RingStanding) (c d : Image) → Stands keys p s d → KeepsAt (tagging keys) 5 d s.epoch c → Stands keys p s c
epoch_kept keys p s c d stands kept = record {
  generation = register_moved (tagging keys) 1 s.generation c d (λ k lo hi. kept.rest k (inl (omega arith))) stands.generation;
  epoch = kept.stands;
  holds = frame keys p s c d (rest_outside p s 5 c d (omega arith) (omega arith) kept.rest) (log_outside p (suc s.epoch) (length s.records) 5 c d (omega arith) kept.rest) stands.holds;
}

pub epoch_moved : (keys : Keys) (p : Params) (s t : RingStanding) (c d : Image) → t.generation ≡ s.generation → StandsAt (tagging keys) 1 d s.generation → HoldsRest keys p t d → KeepsAt (tagging keys) 5 d t.epoch c → Stands keys p t c
epoch_moved keys p s t c d same begun holds kept = record {
  generation = register_moved (tagging keys) 1 t.generation c d (λ k lo hi. kept.rest k (inl (omega arith))) (subst (λ g. StandsAt (tagging keys) 1 d g) (sym same) begun);
  epoch = kept.stands;
  holds = frame keys p t c d (rest_outside p t 5 c d (omega arith) (omega arith) kept.rest) (log_outside p (suc t.epoch) (length t.records) 5 c d (omega arith) kept.rest) holds;
}

pub end_sets : EndSets
end_sets keys p s end c d stands = record {
  old = λ kept. epoch_kept keys p s c d stands kept;
  new = λ holds kept. epoch_moved keys p s (standing_after s end) c d refl stands.generation holds kept;
}

-- ---- over a run of calls

module _ (keys : Keys) (p : Params) (s : RingStanding) (end : RingEnd) (old mid new : Disk) (only : (c : Image) → old.left_since old.moment c → old.may_leave c) (ending : Ending keys p s end old mid) where
  filling : LeavesOnly old mid (Stands keys p s)
  filling = leaves_of (SameButIn (Spare p s)) (Stands keys p s) (Stands keys p s) old mid ending.passes only ending.images (λ tells. ending.stands) (λ c d was step. end_spares keys p s c d step was) (λ c was. was)

  mid_stands : Stands keys p s mid.cells
  mid_stands = end_spares keys p s mid.cells old.cells ending.elsewhere ending.stands

  mid_holds : IsEndWritten keys p s end mid.cells → HoldsRest keys p (standing_after s end) mid.cells
  mid_holds written = end_is_held keys p s end mid.cells old.cells ending.follows ending.elsewhere ending.stands written

  set_leaves : IsEndWritten keys p s end mid.cells → (c : Image) → OldOrNew (tagging keys) 5 mid.cells s.epoch (suc s.epoch) c → OneOf keys p s (standing_after s end) c
  set_leaves written c either = ⊎_elim
      (λ kept. inl (epoch_kept keys p s c mid.cells mid_stands kept))
      (λ kept. inr (epoch_moved keys p s (standing_after s end) c mid.cells refl mid_stands.generation (mid_holds written) kept))
      either

  pub end_leaves : EndLeaves keys p s end old mid new
  end_leaves = record {
    filling = filling;
    before = λ last. then_on old mid new (Stands keys p s) filling
        (weakened mid new (KeepsAt (tagging keys) 5 mid.cells s.epoch) (Stands keys p s) (λ c kept. epoch_kept keys p s c mid.cells mid_stands kept) last);
    any_moment = λ written last. then_on old mid new (OneOf keys p s (standing_after s end))
        (weakened old mid (Stands keys p s) (OneOf keys p s (standing_after s end)) (λ c was. inl was) filling)
        (weakened mid new (OldOrNew (tagging keys) 5 mid.cells s.epoch (suc s.epoch)) (OneOf keys p s (standing_after s end)) (set_leaves written) last);
    done = λ written kept. epoch_moved keys p s (standing_after s end) new.cells mid.cells refl mid_stands.generation (mid_holds written) kept;
  }
