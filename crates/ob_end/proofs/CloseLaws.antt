-- An end that was written, and the register's set behind it.
use Rattle.std.specs.Prelude.{◌≡◌, ◌<◌, ℕ, suc, ◌^◌, Bool, List, Option, Result, Ok, Err, OnOk}
use Rattle.std.specs.declared.option.Option.TheVariants.{None}
use Rattle.std.proofs.Common.{arith, refl, sym, ap, ◌∙◌, subst, inl, inr, ⊎_elim}
use Rattle.ob_base.specs.declared.fault.Fault.{Fault}
use Rattle.ob_base.specs.declared.fault.Fault.TheVariants as fault
use Rattle.ob_base.specs.declared.params.Params.{Params}
use Rattle.ob_cells.specs.Writes.{Seals}
use Rattle.ob_end.specs.EndWrites.{IsOfStore, WritesSpare}
use Rattle.ob_seal.specs.declared.keys.Keys.{Keys}
use Rattle.ob_seal.specs.Sealing.{Sealing}
use Rattle.ob_stand.specs.Ends.{Ending, EndLeaves, IsEndOf, IsEndWritten, RingEnd}
use Rattle.ob_stand.specs.Stands.{RingStanding, Stands}
use Rattle.ob_stand.proofs.EndLaws.{end_leaves, end_spares}
use Rattle.ob_store.specs.Calls.{Notes}
use Rattle.ob_store.specs.Disk.{Disk, Image}
use Rattle.ob_store.specs.Images.{IsSynced, LeavesOnly}
use Rattle.ob_store.specs.Lines.{Trace}
use Rattle.ob_store.specs.Told.{Tells, events_of}
use Rattle.ob_store.specs.declared.event.Event.{Event}
use Rattle.ob_store.specs.declared.watch.Note.{Note}
use Rattle.ob_stand.specs.Spare.{SameButIn, Spare}
use Rattle.ob_store.proofs.Doing.{first_behind, tells_then}
use Rattle.ob_store.proofs.Moments.{passed_none}
use Rattle.ob_twin.specs.Keyed.{tagging}
use Rattle.ob_twin.specs.Opening.{GatesAre}
use Rattle.ob_twin.specs.declared.gates.Open.{Open}
use Rattle.ob_twin.specs.Orders.{SetDoes, gate_notes, prepare_notes, set_notes}
use Rattle.ob_serial.specs.VaultViews.{IsEndFault}
use Rattle.ob_twin.specs.declared.twin.Twin.TheVariants.{EPOCH}
use Rattle.ob_twin.specs.Refused.{IsSetFault, SetLeaves}
use Rattle.ob_twin.specs.Register.{IsPut}
use Rattle.ob_twin.specs.declared.set_err.SetErr.{SetErr}
use Rattle.ob_twin.specs.declared.set_err.SetErr.TheVariants as set
use Rattle.ob_twin.proofs.Moves.{under_next}
use Rattle.ob_twin.proofs.Sets.{leaves_before, leaves_either, put_stands}
use Rattle.ob_end.specs.Closings.{ClosesEnd, ClosesInStages, CloseDoes, IfWritten}
use Rattle.ob_end.specs.EndRuns.{end_err_of}

-- a refusal of the store alone is one of a set that wrote no gate
pub set_fault : (f : Fault) → IsOfStore f → f ≡ fault.StoreFault None
set_fault fault.Memory is = absurd is
set_fault fault.Usage is = absurd is
set_fault (fault.BadScript line) is = absurd is
set_fault (fault.BadParams what) is = absurd is
set_fault fault.NotStore is = absurd is
set_fault (fault.Damaged cell what kept computed) is = absurd is
set_fault (fault.StoreFault unsure) is = ap fault.StoreFault is
set_fault (fault.StashFull rows) is = absurd is
set_fault (fault.Worn number) is = absurd is
set_fault fault.SourceFault is = absurd is
set_fault fault.SinkFault is = absurd is

pub if_written : (A : Type 0) (r : Result (Unit {0}) SetErr) → A → IfWritten A r
if_written A (Ok done) a = a
if_written A (Err (set.Before f)) a = tt
if_written A (Err (set.Unsure f)) a = a

-- what is known of a register's gates stays so where its cells stay
pub gates_kept : (known : Open) (a b : Image) → ((k : ℕ) → k < 9 → b k ≡ a k) → GatesAre known 5 a → GatesAre known 5 b
gates_kept known a b same gates = record {
  zero = (λ marked. same 6 (omega arith) ∙ (gates.zero).0 marked, λ opened. (gates.zero).1 (sym (same 6 (omega arith)) ∙ opened));
  one = (λ marked. same 8 (omega arith) ∙ (gates.one).0 marked, λ opened. (gates.one).1 (sym (same 8 (omega arith)) ∙ opened));
}

-- as many seals were made, whatever comes of the register
pub seals_all : {T U E F : Type 0} (n : ℕ) (a b : Sealing) (v : T) (r : Result U F) → Seals {T = T} {E = E} n a b (Ok v) → Seals n a b r
seals_all n a b v (Ok w) seals = record { all = seals.all; some = seals.some }
seals_all n a b v (Err e) seals = record { all = tt; some = seals.some }

-- ---- what a crash leaves

module _ (keys : Keys) (p : Params) (s : RingStanding) (end : RingEnd) (old mid : Disk) where
  pub is_ending : IsEndOf p s end → old.tells → IsSynced old → Stands keys p s old.cells → WritesSpare p s old mid → Ending keys p s end old mid
  is_ending follows tells synced stands spare = record {
    follows = follows;
    stands = stands;
    images = λ c left. end_spares keys p s c old.cells (λ k off. synced c left k) stands;
    elsewhere = spare.rest tells;
    passes = spare.passes;
  }

  pub written_leaves : ((c : Image) → old.left_since old.moment c → old.may_leave c) → Ending keys p s end old mid → LeavesOnly old mid (Stands keys p s)
  written_leaves only ending = (end_leaves keys p s end old mid mid only ending).filling

  pub mid_stands : Ending keys p s end old mid → Stands keys p s mid.cells
  mid_stands ending = end_spares keys p s mid.cells old.cells ending.elsewhere ending.stands

-- nothing is written while the register is set
pub none_spare : (p : Params) (s : RingStanding) (d : Disk) → WritesSpare p s d d
none_spare p s d = record { rest = λ tells k off. refl; passes = passed_none d (SameButIn (Spare p s)) (λ c k off. refl) }

module _ {S : Type 0} (disk : S → Disk) (writes : List Note) (keys : Keys) (p : Params) (s : RingStanding) (end : RingEnd) (old mid new : S) where
  pub closed : (epoch : ℕ) → ((c : Image) → (disk old).left_since (disk old).moment c → (disk old).may_leave c) → ((c : Image) → (disk mid).left_since (disk mid).moment c → (disk mid).may_leave c)
      → epoch ≡ suc s.epoch → epoch < 2 ^ 62 → Ending keys p s end (disk old) (disk mid) → IsEndWritten keys p s end (disk mid).cells → (disk mid).tells → IsSynced (disk mid) → Notes (events_of writes) (disk old).seen (disk mid).seen → (r : Result (Unit {0}) SetErr)
      → LeavesOnly (disk mid) (disk new) (SetLeaves (tagging keys) 5 (disk mid).cells s.epoch epoch r) → OnOk r (IsPut (tagging keys) 5 (disk mid).cells epoch (disk new).cells) → ClosesEnd disk writes keys p s end old new r
  closed epoch only only_mid at small ending written tells synced made r last put =
      by_answer r (subst (λ e. LeavesOnly (disk mid) (disk new) (SetLeaves (tagging keys) 5 (disk mid).cells s.epoch e r)) at last) (subst (λ e. OnOk r (IsPut (tagging keys) 5 (disk mid).cells e (disk new).cells)) at put)
    where
      leaves : EndLeaves keys p s end (disk old) (disk mid) (disk new)
      leaves = end_leaves keys p s end (disk old) (disk mid) (disk new) only ending

      stands : Stands keys p s (disk mid).cells
      stands = mid_stands keys p s end (disk old) (disk mid) ending

      -- from the writes on
      setting : EndLeaves keys p s end (disk mid) (disk mid) (disk new)
      setting = end_leaves keys p s end (disk mid) (disk mid) (disk new) only_mid (is_ending keys p s end (disk mid) (disk mid) ending.follows tells synced stands (none_spare p s (disk mid)))

      staged : (x : Result (Unit {0}) SetErr) → LeavesOnly (disk mid) (disk new) (SetLeaves (tagging keys) 5 (disk mid).cells s.epoch (suc s.epoch) x) → ClosesInStages disk writes keys p s end old new
      staged x left = record { between = mid; made = made; until = leaves.filling; since = setting.any_moment written (leaves_either (tagging keys) 5 s.epoch (suc s.epoch) (disk mid).cells (disk mid) (disk new) x left) }

      by_answer : (x : Result (Unit {0}) SetErr) → LeavesOnly (disk mid) (disk new) (SetLeaves (tagging keys) 5 (disk mid).cells s.epoch (suc s.epoch) x) → OnOk x (IsPut (tagging keys) 5 (disk mid).cells (suc s.epoch) (disk new).cells)
          → ClosesEnd disk writes keys p s end old new x
      by_answer (Ok done) left is = (
        staged (Ok done) left,
        leaves.done written (put_stands (tagging keys) 5 (suc s.epoch) (disk mid).cells (disk new).cells (omega (arith, at, small)) (under_next (tagging keys) 5 s.epoch (suc s.epoch) (disk mid).cells (omega arith) stands.epoch) is),
      )
      by_answer (Err (set.Before f)) left is = leaves.before (leaves_before (tagging keys) 5 s.epoch (suc s.epoch) (disk mid).cells (disk mid) (disk new) (Err (set.Before f)) tt left)
      by_answer (Err (set.Unsure f)) left is = staged (Err (set.Unsure f)) left

-- ---- what it shows

pub close_tells : (writes : List Note) (closes : Bool) (epoch : ℕ) (a b c : Option (List Event)) (k l m : Trace) (r : Result (Unit {0}) SetErr) → Tells writes writes a b k l → SetDoes closes 5 epoch b c l m r
    → CloseDoes writes closes epoch a c k m r
close_tells writes closes epoch a b c k l m (Ok done) before set = tells_then writes writes (set_notes closes 5 epoch) (set_notes closes 5 epoch) a b c k l m before set
close_tells writes closes epoch a b c k l m (Err (set.Before f)) before set = first_behind a b c k l m writes (prepare_notes closes 5 epoch) before set
close_tells writes closes epoch a b c k l m (Err (set.Unsure f)) before set = ⊎_elim
    (λ gate. inl (tells_then writes writes (gate_notes closes 5 epoch) (gate_notes closes 5 epoch) a b c k l m before gate))
    (λ all. inr (tells_then writes writes (set_notes closes 5 epoch) (gate_notes closes 5 epoch) a b c k l m before all))
    set

-- the refusals of an end whose epoch wasn't set
pub close_fault : (n : ℕ) (refused : SetErr) → IsSetFault EPOCH n refused → IsEndFault n (end_err_of refused)
close_fault n (set.Before f) is = subst (λ (x : Fault). IsEndFault n (end_err_of (set.Before x))) (sym is) refl
close_fault n (set.Unsure f) is = is
