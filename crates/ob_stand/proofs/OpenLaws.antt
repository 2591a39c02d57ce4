-- During an opening each image is one of the entry's, or stands for what was read.
use Rattle.std.specs.Prelude.{◌≤◌, ℕ, suc, length}
use Rattle.std.proofs.Common.{arith, inl, inr, ⊎_elim, subst, sym}
use Rattle.ob_base.specs.declared.params.Params.{Params}
use Rattle.ob_store.specs.Disk.{Disk, Image}
use Rattle.ob_store.specs.Images.{Same, LeavesOnly, Passes}
use Rattle.ob_store.proofs.Moments.{then_on, weakened, leaves_of}
use Rattle.ob_seal.specs.declared.keys.Keys.{Keys}
use Rattle.ob_twin.specs.Keyed.{tagging}
use Rattle.ob_twin.specs.Register.{KeepsAt, OldOrNew}
use Rattle.ob_twin.proofs.Frames.{register_moved}
use Rattle.ob_start.specs.Beginning.{BeginsFrom}
use Rattle.ob_stand.specs.Stands.{RingStanding, HoldsRest, Stands, with_generation}
use Rattle.ob_stand.specs.Opens.{OpenBegins, EntryOr}
use Rattle.ob_stand.proofs.Frames.{frame, stands_all, rest_outside, log_outside}

-- what is known stays so
holds_later : (keys : Keys) (p : Params) (s : RingStanding) (g : ℕ) (c : Image) → s.generation ≤ g → HoldsRest keys p s c → HoldsRest keys p (with_generation s g) c
holds_later keys p s g c later holds = record {
  head = holds.head;
  checkpoint = record { first = holds.checkpoint.first; known = omega (arith, holds.checkpoint.known); run = holds.checkpoint.run };
  obeys = holds.obeys;
  slots = holds.slots;
  log = holds.log;
  known = record { entries = λ k e at. omega (arith, holds.known.entries k e at); seals = λ u. omega (arith, holds.known.seals u) };
  records_known = λ b lt. omega (arith, holds.records_known b lt);
}

rest_held : (keys : Keys) (p : Params) (s : RingStanding) (n : ℕ) (c d : Image) → KeepsAt (tagging keys) 1 d n c → HoldsRest keys p s d → HoldsRest keys p s c
rest_held keys p s n c d kept holds = frame keys p s c d (rest_outside p s 1 c d (omega arith) (omega arith) kept.rest) (log_outside p (suc s.epoch) (length s.records) 1 c d (omega arith) kept.rest) holds

pub open_begins : OpenBegins
open_begins keys p s g c d stands = record {
  old = λ kept. record {
    generation = kept.stands;
    epoch = register_moved (tagging keys) 5 s.epoch c d (λ k lo hi. kept.rest k (inr (omega arith))) stands.epoch;
    holds = rest_held keys p s s.generation c d kept stands.holds;
  };
  new = λ later kept. record {
    generation = kept.stands;
    epoch = register_moved (tagging keys) 5 s.epoch c d (λ k lo hi. kept.rest k (inr (omega arith))) stands.epoch;
    holds = holds_later keys p s g c later (rest_held keys p s g c d kept stands.holds);
  };
}

-- ---- as the begin says it

module _ (keys : Keys) (p : Params) (s : RingStanding) (old mid new : Disk) (only : (c : Image) → old.left_since old.moment c → old.may_leave c) where
  -- until its sync succeeded
  entry_alone : Stands keys p s old.cells → Passes Same old mid → LeavesOnly old mid (EntryOr keys p s old)
  entry_alone stands passes = leaves_of Same (EntryOr keys p s old) (EntryOr keys p s old) old mid passes only (λ c left. inl left) (λ tells. inr (inl stands))
      (λ c d was same. subst (EntryOr keys p s old) (sym same) was)
      (λ c was. was)

  since_then : Stands keys p s mid.cells → (c : Image) → OldOrNew (tagging keys) 1 mid.cells s.generation (suc s.generation) c → EntryOr keys p s old c
  since_then stands c either = inr (⊎_elim
      (λ kept. inl ((open_begins keys p s (suc s.generation) c mid.cells stands).old kept))
      (λ kept. inr ((open_begins keys p s (suc s.generation) c mid.cells stands).new (omega arith) kept))
      either)

  pub whole_opening : Stands keys p s old.cells → Stands keys p s mid.cells → Passes Same old mid → LeavesOnly mid new (OldOrNew (tagging keys) 1 mid.cells s.generation (suc s.generation)) → LeavesOnly old new (EntryOr keys p s old)
  whole_opening stood stands passes last = then_on old mid new (EntryOr keys p s old) (entry_alone stood passes)
      (weakened mid new (OldOrNew (tagging keys) 1 mid.cells s.generation (suc s.generation)) (EntryOr keys p s old) (since_then stands) last)

pub opens_leave : {S : Type 0} → (disk : S → Disk) → ((store : S) (c : Image) → (disk store).left_since (disk store).moment c → (disk store).may_leave c) → (keys : Keys) (p : Params) (s : RingStanding) (old new : S)
    → (disk old).tells → Stands keys p s (disk old).cells → BeginsFrom disk keys s.generation old new → LeavesOnly (disk old) (disk new) (EntryOr keys p s (disk old))
opens_leave disk only keys p s old new tells stands begins =
    let same = begins.keeps.cells tells in
    let mid_stands : Stands keys p s (disk begins.synced).cells = stands_all keys p s (disk begins.synced).cells (disk old).cells same stands in
    whole_opening keys p s (disk old) (disk begins.synced) (disk new) (only old) stands mid_stands begins.until (begins.since tells stands.generation)
