-- What is told of jobs that were read.
use Rattle.std.specs.Prelude.{◌≡◌, ◌<◌, ℕ, List, length, Option, Result, Ok, Err, IfErr}
use Rattle.std.specs.Result.{IsOk}
use Rattle.std.proofs.Common.{arith, sym, subst}
use Rattle.std.proofs.lemmas.Bool.{false≢true}
use Rattle.ob_base.specs.Causes.{Rose}
use Rattle.ob_base.specs.declared.fault.Fault.{Fault}
use Rattle.ob_base.specs.declared.job.Job.{Job}
use Rattle.ob_base.specs.Planned.{job_at}
use Rattle.ob_seal.specs.declared.keys.Keys.{Keys}
use Rattle.ob_store.specs.declared.event.Event.{Event}
use Rattle.ob_store.specs.Disk.{Disk, Image}
use Rattle.ob_store.specs.Calls.{IsStoreFault, Notes}
use Rattle.ob_lanes.specs.declared.hand.Slot.{Slot}
use Rattle.ob_lanes.specs.JobReads.{IsPlainOf, IsJobRead, IsReadFault}
use Rattle.ob_lanes.specs.Rooms.{AreSlotsRead}
use Rattle.ob_lanes.specs.Shares.{AreShared}
use Rattle.ob_lanes.proofs.Sharing.{share_of, share_within, shares_read}
use Rattle.ob_cells.specs.Jobs.{job_outcome, plain_of, plain_at, IsFirstErr, IsFirstFailing, AreFilled, AreJobsRead}
use Rattle.ob_cells.specs.Lanes.{ReadByLanes}

-- ---- lanes

-- a job is read by the lane whose share has it
pub by_shares : (most : ℕ) (cells : List ℕ) (old new : Option (List Event)) → AreShared most cells old new → ReadByLanes most cells old new
by_shares most cells old new shared = record {
  lanes = length shared.shares;
  few = shared.few;
  lane_of = share_of shared.shares;
  within = λ i lt. share_within i shared.shares (shared.once i lt);
  seen = subst (λ (es : List Event). Notes es old new) (sym (shares_read most cells old new shared)) shared.seen;
}

-- ---- one job

plain_sound : (keys : Keys) (image : Image) (job : Job) (r : Result (List ℕ) Fault) → IsOk r → IsJobRead keys image job r → IsPlainOf keys image job (plain_of r)
plain_sound keys image job (Ok plain) is read = read
plain_sound keys image job (Err f) is read = absurd (false≢true is)

-- ---- so it is told of the jobs that were asked for

module _ (keys : Keys) (disk : Disk) (before now : ℕ) (asked jobs : List Job) (slots : List Slot) where
  pub told_failing : (f : Fault) → jobs ≡ asked → AreSlotsRead keys disk before now jobs slots → IsFirstErr slots (length jobs) f → disk.tells → IsFirstFailing keys disk.cells asked f
  told_failing f is read first tells = subst (λ (js : List Job). IsFirstFailing keys disk.cells js f) is (record {
    job = first.job;
    within = first.within;
    earlier = λ i low. (let lt : i < length jobs = (let w = first.within in omega (arith, w, low)) in (plain_at slots i, plain_sound keys disk.cells (job_at jobs i) (job_outcome slots i) (first.earlier i low) ((read i lt).value tells)));
    fails = subst (λ (r : Result (List ℕ) Fault). IsJobRead keys disk.cells (job_at jobs first.job) r) first.is ((read first.job first.within).value tells);
  })

  pub told_read : (new : List Job) → jobs ≡ asked → AreSlotsRead keys disk before now jobs slots → ((i : ℕ) → i < length jobs → IsOk (job_outcome slots i)) → AreFilled asked new (λ i. plain_at slots i) → disk.tells → AreJobsRead keys disk.cells asked new
  told_read new is read fine filled tells = record {
    plain = λ i. plain_at slots i;
    spelled = subst (λ (js : List Job). (i : ℕ) → i < length js → IsPlainOf keys disk.cells (job_at js i) (plain_at slots i)) is (λ i lt. plain_sound keys disk.cells (job_at jobs i) (job_outcome slots i) (fine i lt) ((read i lt).value tells));
    filled = filled;
  }

  pub told_cause : (f : Fault) → AreSlotsRead keys disk before now jobs slots → IsFirstErr slots (length jobs) f → IsReadFault f × (IsStoreFault f → Rose before now)
  told_cause f read first =
      let one = read first.job first.within in (
        subst (λ (r : Result (List ℕ) Fault). IfErr r IsReadFault) first.is one.faults,
        subst (λ (r : Result (List ℕ) Fault). IfErr r (λ f. IsStoreFault f → Rose before now)) first.is one.cause,
      )
