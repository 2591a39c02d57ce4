-- What a call through a lane of its own says of the store: the lane is made, and given back.
use Rattle.std.proofs.Common.{◌≡◌, ◌+◌, ◌-◌, ◌≤◌, ℕ, Result, Ok, Err, arith}
use Rattle.ob_base.specs.Causes.{HasCause}
use Rattle.ob_base.specs.declared.fault.Failed.{Failed}
use Rattle.ob_store.specs.Disk.{Disk}
use Rattle.ob_store.specs.Calls.{GoesOn, Serves, Keeps, IsFailed, AddsFaults}
use Rattle.ob_store.proofs.Serving.{goes_then}

pub lent_serves : {T : Type 0} (old mid new : Disk) (fresh read : ℕ) (r : Result T Failed) → GoesOn old mid → GoesOn mid new → mid.out ≤ old.out + 1 → new.out ≤ mid.out - 1 → Keeps old mid → Keeps mid new
    → fresh ≡ 0 → HasCause fresh read r → AddsFaults read mid.faults new.faults → Serves IsFailed old new r
lent_serves old mid new fresh read (Ok v) p q lent back one two none cause adds = record { goes = goes_then old mid new p q; out = omega arith; tells = λ t. two.tells (one.tells t); cause = tt }
lent_serves old mid new fresh read (Err e) p q lent back one two none cause adds =
    record { goes = goes_then old mid new p q; out = omega arith; tells = tt; cause = λ blamed. (let rose = cause.failed in let faults = p.faults in omega arith) }
