-- A write that was made, and is told as a failure.
use Rattle.std.proofs.Common.{◌≡◌, ◌≤◌, ℕ, Option, None, Some, List, Result, Err, arith}
use Rattle.ob_base.specs.Causes.{Rose}
use Rattle.ob_base.specs.declared.fault.Failed.{Failed}
use Rattle.ob_store.specs.declared.event.Event.{Event}
use Rattle.ob_store.specs.Disk.{Disk}
use Rattle.ob_store.specs.Calls.{Serves, TellsOn, IsFailed}
use Rattle.ob_store.proofs.Serving.{rose_later}

rose_on : (before now later : ℕ) → Rose before now → now ≤ later → Rose before later
rose_on before now later rose low = omega (arith, rose, low)

tells_later : (old new : Option (List Event)) (before now later : ℕ) → TellsOn old new before now → now ≤ later → TellsOn old new before later
tells_later (Some o) None before now later rose low = rose_on before now later rose low
tells_later (Some o) (Some n) before now later told low = tt
tells_later None None before now later told low = tt
tells_later None (Some n) before now later told low = absurd told

pub serves_more : (old new : Disk) (result : Result (Unit {0}) Failed) (failed : Failed) (faults : ℕ) → Serves IsFailed old new result → new.faults ≤ faults → Rose new.faults faults → Serves {T = Unit {0}} IsFailed old (record new { faults = faults }) (Err failed)
serves_more old new result failed faults s later rose =
    let was : old.faults ≤ new.faults = s.goes.faults in record {
      goes = record {
        anchors = s.goes.anchors;
        faults = omega (arith, was, later);
        later = s.goes.later;
        kept = s.goes.kept;
        told = s.goes.told;
        leaves = s.goes.leaves;
        seen = tells_later old.seen new.seen old.faults new.faults faults s.goes.seen later;
      };
      out = s.out;
      tells = tt;
      cause = λ blamed. rose_later old.faults new.faults faults was rose;
    }
