-- Images that are the same where they are read stand alike, and no spare cell is read.
use Rattle.std.specs.Prelude.{◌≡◌, ◌≢◌, ◌<◌, ◌≤◌, ℕ, suc, ◌+◌, ◌-◌, ◌%◌, List, length}
use Rattle.std.proofs.Common.{arith, sym, ap, ◌∙◌, inl, inr, subst}
use Rattle.std.proofs.lemmas.Bool.{cases_eq}
use Rattle.ob_base.specs.declared.params.Params.{Params}
use Rattle.ob_base.specs.Tree.{buckets, width}
use Rattle.ob_base.specs.Layout.{Region, LogArea, CheckArea, Home, Lies, IsRegion, record_cells, check_cell, slot_cell}
use Rattle.ob_base.proofs.LayoutLaws.{regions_apart, log_lies, slot_lies, slots_apart}
use Rattle.ob_store.specs.Disk.{Image}
use Rattle.ob_seal.specs.declared.keys.Keys.{Keys}
use Rattle.ob_twin.specs.Keyed.{tagging}
use Rattle.ob_twin.specs.Register.{SameOutside}
use Rattle.ob_twin.proofs.Frames.{register_moved}
use Rattle.ob_start.specs.Heads.{IsHead}
use Rattle.ob_log.specs.Logs.{BatchRecord, OpenRecords}
use Rattle.ob_tables.specs.Version.{rank_at}
use Rattle.ob_tables.specs.Buckets.{version_at}
use Rattle.ob_tables.specs.Content.{Content}
use Rattle.ob_stand.specs.Stands.{RingStanding, AreKnown, HoldsRest, HoldsCheckpoint, HoldsSlots, Stands}
use Rattle.ob_stand.specs.Spare.{SameLog, SameRest, SameReads, IsOtherHome, IsSpare, AgreeOffSpare, StandsFrame, FrameWith, with_records}

-- ---- frames

pub log_frame : (keys : Keys) (p : Params) (epoch : ℕ) (rs : List BatchRecord) (a b : Image) → SameLog p epoch (length rs) a b → OpenRecords keys p epoch rs b → OpenRecords keys p epoch rs a
log_frame keys p epoch rs a b same log = record {
  few = log.few;
  opened = λ n lt. same.gates n (omega (arith, log.few)) ∙ log.opened n lt;
  shut = λ n le lt o. log.shut n le lt (sym (same.gates n lt) ∙ o);
  bodies = λ n lt i low. same.bodies n i lt low ∙ log.bodies n lt i low;
  obey = log.obey;
}

module _ (keys : Keys) (p : Params) (s : RingStanding) (a b : Image) (same : SameRest p s a b) where
  pub checkpoint_frame : HoldsCheckpoint keys p s.epoch s.generation s.content b → HoldsCheckpoint keys p s.epoch s.generation s.content a
  checkpoint_frame was = record {
    first = was.first;
    known = was.known;
    run = record {
      generation_fits = was.run.generation_fits;
      number_fits = was.run.number_fits;
      sealed_so = λ i lt. same.checkpoint (check_cell p (s.epoch % 2) 0 + i) (record { from = omega arith; to = omega arith }) ∙ was.run.sealed_so i lt;
    };
  }

  pub slots_frame : HoldsSlots keys p s.content s.map b → HoldsSlots keys p s.content s.map a
  slots_frame was = record {
    slots = was.slots;
    spelled = λ u j lu lj free. (let w = was.spelled u j lu lj free in record { long = w.long; spelled = same.slots u j lu lj free ∙ w.spelled });
    valued = was.valued;
  }

  pub frame_records : (records : List BatchRecord) → OpenRecords keys p (suc s.epoch) records a → AreKnown records s.generation → HoldsRest keys p s b → HoldsRest keys p (with_records s records) a
  frame_records records log known holds = record {
    head = subst (λ (l : List ℕ). IsHead keys 1 p l) (sym same.head) holds.head;
    checkpoint = checkpoint_frame holds.checkpoint;
    obeys = holds.obeys;
    slots = slots_frame holds.slots;
    log = log;
    known = holds.known;
    records_known = known;
  }

pub frame_with : FrameWith
frame_with keys p s records a b same log known holds = frame_records keys p s a b same records log known holds

pub frame : (keys : Keys) (p : Params) (s : RingStanding) (a b : Image) → SameRest p s a b → SameLog p (suc s.epoch) (length s.records) a b → HoldsRest keys p s b → HoldsRest keys p s a
frame keys p s a b same log holds = record {
  head = subst (λ (l : List ℕ). IsHead keys 1 p l) (sym same.head) holds.head;
  checkpoint = checkpoint_frame keys p s a b same holds.checkpoint;
  obeys = holds.obeys;
  slots = slots_frame keys p s a b same holds.slots;
  log = log_frame keys p (suc s.epoch) s.records a b log holds.log;
  known = holds.known;
  records_known = holds.records_known;
}

pub stands_frame : StandsFrame
stands_frame keys p s a b same stands = record {
  generation = register_moved (tagging keys) 1 s.generation a b same.generation stands.generation;
  epoch = register_moved (tagging keys) 5 s.epoch a b same.epoch stands.epoch;
  holds = frame keys p s a b same.rest same.log stands.holds;
}

-- ---- spare cells

home_of : (x y : ℕ) → Home x ≡ Home y → x ≡ y
home_of x y is = cc

module _ (p : Params) (epoch : ℕ) (content : Content) where
  other_lies : (c : ℕ) → (other : IsOtherHome p content c) → Lies p (Home (1 - (version_at content.versions other.bucket).home)) c
  other_lies c other = subst (Lies p (Home (1 - (version_at content.versions other.bucket).home))) (sym other.is)
      (slot_lies p (1 - (version_at content.versions other.bucket).home) other.bucket other.slot other.bucket_low other.slot_low)

  -- a cell of a region that has no spare cells
  outside : (r : Region) (c : ℕ) → IsRegion r → r ≢ LogArea (epoch % 2) → r ≢ CheckArea (suc epoch % 2) → ((h : ℕ) → r ≢ Home h) → Lies p r c → IsSpare p epoch content c → ⊥
  outside r c is log check home lies (inl one) = regions_apart p r (LogArea (epoch % 2)) c is (omega arith) log lies one
  outside r c is log check home lies (inr (inl two)) = regions_apart p r (CheckArea (suc epoch % 2)) c is (omega arith) check lies two
  outside r c is log check home lies (inr (inr other)) = regions_apart p r (Home (1 - (version_at content.versions other.bucket).home)) c is (omega arith) (home _) lies (other_lies c other)

  -- a slot of a bucket's home
  slot_outside : (u s : ℕ) → u < buckets p → s < width p → (version_at content.versions u).home < 2 → IsSpare p epoch content (slot_cell p (version_at content.versions u).home u s) → ⊥
  slot_outside u s lu ls low (inl one) = regions_apart p (Home (version_at content.versions u).home) (LogArea (epoch % 2)) (slot_cell p (version_at content.versions u).home u s) low (omega arith) (λ x. cc)
      (slot_lies p (version_at content.versions u).home u s lu ls) one
  slot_outside u s lu ls low (inr (inl two)) = regions_apart p (Home (version_at content.versions u).home) (CheckArea (suc epoch % 2)) (slot_cell p (version_at content.versions u).home u s) low (omega arith) (λ x. cc)
      (slot_lies p (version_at content.versions u).home u s lu ls) two
  slot_outside u s lu ls low (inr (inr other)) = elim (cases_eq (version_at content.versions u).home (1 - (version_at content.versions other.bucket).home)) [
    | inl same ↦ (
        let cells : slot_cell p (1 - (version_at content.versions other.bucket).home) u s ≡ slot_cell p (1 - (version_at content.versions other.bucket).home) other.bucket other.slot =
        subst (λ h. slot_cell p h u s ≡ slot_cell p (1 - (version_at content.versions other.bucket).home) other.bucket other.slot) same other.is in
        let bucket : u ≡ other.bucket = (slots_apart p (1 - (version_at content.versions other.bucket).home) u other.bucket s other.slot ls other.slot_low cells).0 in
        let back : (version_at content.versions u).home ≡ 1 - (version_at content.versions u).home = same ∙ ap (λ v. 1 - (version_at content.versions v).home) (sym bucket) in
        omega arith)
    | inr ne ↦ regions_apart p (Home (version_at content.versions u).home) (Home (1 - (version_at content.versions other.bucket).home)) (slot_cell p (version_at content.versions u).home u s) low (omega arith)
        (λ x. ne (home_of _ _ x)) (slot_lies p (version_at content.versions u).home u s lu ls) (other_lies (slot_cell p (version_at content.versions u).home u s) other)
  ]

  -- a cell of a register
  low_apart : (c : ℕ) → c < 9 → IsSpare p epoch content c → ⊥
  low_apart c low (inl one) = let f = one.from in omega arith
  low_apart c low (inr (inl two)) = let f = two.from in omega arith
  low_apart c low (inr (inr other)) = let f : c ≡ slot_cell p (1 - (version_at content.versions other.bucket).home) other.bucket other.slot = other.is in omega arith

  other_check : CheckArea (epoch % 2) ≡ CheckArea (suc epoch % 2) → ⊥
  other_check x = let y : epoch % 2 ≡ suc epoch % 2 = cc in omega arith

  other_log : LogArea (suc epoch % 2) ≡ LogArea (epoch % 2) → ⊥
  other_log x = let y : suc epoch % 2 ≡ epoch % 2 = cc in omega arith

pub agree_off_spare : AgreeOffSpare
agree_off_spare p s a b obeys few same = record {
  generation = λ c lo hi. same c (low_apart p s.epoch s.content c (omega arith));
  epoch = λ c lo hi. same c (low_apart p s.epoch s.content c (omega arith));
  rest = record {
    head = same 0 (low_apart p s.epoch s.content 0 (omega arith));
    checkpoint = λ c lies. same c (outside p s.epoch s.content (CheckArea (s.epoch % 2)) c (omega arith) (λ x. cc) (other_check p s.epoch s.content) (λ h x. cc) lies);
    slots = λ u j lu lj free. (
        let o = obeys.versions u lu in
        same _ (slot_outside p s.epoch s.content u (rank_at (version_at s.content.versions u) j) lu
        (let low = o.ranks.low j (omega (arith, o.slots.ranks)) in omega (arith, o.slots.ranks)) o.home));
  };
  log = record {
    gates = λ n lt. same _ (outside p s.epoch s.content (LogArea (suc s.epoch % 2)) _ (omega arith) (other_log p s.epoch s.content) (λ x. cc) (λ h x. cc) (log_lies p (suc s.epoch % 2) n (record_cells p) lt (omega arith)));
    bodies = λ n i lt li. same _ (outside p s.epoch s.content (LogArea (suc s.epoch % 2)) _ (omega arith) (other_log p s.epoch s.content) (λ x. cc) (λ h x. cc) (log_lies p (suc s.epoch % 2) n i (omega arith) (omega arith)));
  };
}

-- ---- images that are the same in all cells, or in all but a register's

pub same_all : (p : Params) (s : RingStanding) (a b : Image) → ((c : ℕ) → a c ≡ b c) → SameReads p s a b
same_all p s a b same = record {
  generation = λ c lo hi. same c;
  epoch = λ c lo hi. same c;
  rest = record { head = same 0; checkpoint = λ c lies. same c; slots = λ u j lu lj free. same _ };
  log = record { gates = λ n lt. same _; bodies = λ n i lt li. same _ };
}

pub stands_all : (keys : Keys) (p : Params) (s : RingStanding) (a b : Image) → ((c : ℕ) → a c ≡ b c) → Stands keys p s b → Stands keys p s a
stands_all keys p s a b same stands = stands_frame keys p s a b (same_all p s a b same) stands

pub rest_outside : (p : Params) (s : RingStanding) (first : ℕ) (a b : Image) → 1 ≤ first → first ≤ 5 → SameOutside first a b → SameRest p s a b
rest_outside p s first a b lo hi same = record {
  head = same 0 (inl lo);
  checkpoint = λ c lies. same c (inr (let from = lies.from in omega arith));
  slots = λ u j lu lj free. same _ (inr (omega arith));
}

pub log_outside : (p : Params) (epoch many first : ℕ) (a b : Image) → first ≤ 5 → SameOutside first a b → SameLog p epoch many a b
log_outside p epoch many first a b hi same = record { gates = λ n lt. same _ (inr (omega arith)); bodies = λ n i lt li. same _ (inr (omega arith)) }
