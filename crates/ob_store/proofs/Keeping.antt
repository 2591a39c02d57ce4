-- What calls keep, one behind another.
use Rattle.std.proofs.Common.{◌≡◌, ◌≤◌, ℕ, true, false, Result, Ok, Err, refl, ◌∙◌, arith}
use Rattle.std.specs.Prelude.{IsErr, IfErr}
use Rattle.ob_base.specs.Causes.{HasCause}
use Rattle.ob_base.specs.declared.fault.Failed.{Failed}
use Rattle.ob_base.specs.declared.fault.Fault.{Fault}
use Rattle.ob_store.specs.Disk.{Disk}
use Rattle.ob_store.specs.Images.{Same, Shrinks, Elapses, Passes}
use Rattle.ob_store.specs.Calls.{GoesOn, Serves, Keeps, IsFailed, IsStoreFault}
use Rattle.ob_store.proofs.Serving.{goes_same, rose_later}
use Rattle.ob_store.proofs.Moments.{passed_none, passed_still, passed_then}

-- a refusal that a `?` hands on
pub serves_failed : {T U : Type 0} (a b : Disk) (e : Failed) (r : Result T Failed) → IsErr r → Serves {T = U} IsFailed a b (Err e) → Serves {T = T} IsFailed a b r
serves_failed a b e (Ok v) err serves = absurd (let wrong : false ≡ true = err in cc)
serves_failed a b e (Err f) err serves = record { goes = serves.goes; out = serves.out; tells = tt; cause = λ blamed. serves.cause tt }

-- a refusal before any call
pub serves_none : {T E : Type 0} (blames : E → Type 0) (d : Disk) (e : E) → (blames e → ⊥) → Serves {T = T} blames d d (Err e)
serves_none blames d e own = record { goes = goes_same d; out = omega arith; tells = tt; cause = λ blamed. absurd (own blamed) }

-- calls that went well, and behind them a refusal that isn't the store's
pub serves_own : {T : Type 0} (a b : Disk) (r : Result T Fault) → IfErr r (λ f. IsStoreFault f → ⊥) → GoesOn a b → b.out ≤ a.out → (a.tells → b.tells) → Serves IsStoreFault a b r
serves_own a b (Ok v) own goes out tells = record { goes = goes; out = out; tells = tells; cause = tt }
serves_own a b (Err f) own goes out tells = record { goes = goes; out = out; tells = tt; cause = λ blamed. absurd (own blamed) }

pub keeps_none : (d : Disk) → Keeps d d
keeps_none d = record { tells = λ t. t; cells = λ t k. refl }

pub keeps_then : (a b c : Disk) → Keeps a b → Keeps b c → Keeps a c
keeps_then a b c p q = record { tells = λ t. q.tells (p.tells t); cells = λ t k. q.cells (p.tells t) k ∙ p.cells t k }

-- a crash leaves what it might have left before

pub same_none : (d : Disk) → Passes Same d d
same_none d = passed_none d Same (λ image. refl)

pub same_then : (a b c : Disk) → Passes Same a b → Passes Same b c → Passes Same a c
same_then a b c p q = passed_then Same a b c (λ x y z one two. one ∙ two) p q

pub same_still : (a b c : Disk) → Passes Same a b → GoesOn b c → Elapses b c → Shrinks b c → Keeps b c → Passes Same a c
same_still a b c p goes time crash keeps = passed_still Same a b c p goes time crash keeps

-- ---- counts of faults

pub cause_failed : {T U E : Type 0} (a b : ℕ) (e : E) (r : Result T E) → IsErr r → HasCause {T = U} a b (Err e) → HasCause {T = T} a b r
cause_failed a b e (Ok v) err p = absurd (let wrong : false ≡ true = err in cc)
cause_failed a b e (Err f) err p = record { later = p.later; failed = p.failed }

pub cause_then : {T E : Type 0} (a b c : ℕ) (r : Result T E) → a ≤ b → HasCause b c r → HasCause a c r
cause_then a b c (Ok v) le p = record { later = (let l = p.later in omega arith); failed = tt }
cause_then a b c (Err e) le p = record { later = (let l = p.later in omega arith); failed = rose_later a b c le p.failed }
