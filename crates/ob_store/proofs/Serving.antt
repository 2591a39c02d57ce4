-- What every call keeps, from call to call.
use Rattle.std.proofs.Common.{◌≤◌, ℕ, List, Option, Some, None, Result, Ok, Err, OnOk, OnErr, refl, ◌∙◌, arith}
use Rattle.ob_base.specs.Causes.{Rose}
use Rattle.ob_store.specs.declared.event.Event.{Event}
use Rattle.ob_store.specs.Disk.{Disk}
use Rattle.ob_store.specs.Calls.{TellsOn, GoesOn, Serves}
use Rattle.ob_store.proofs.Moments.{no_later, then_later}

tells_none : (seen : Option (List Event)) (n : ℕ) → TellsOn seen seen n n
tells_none None n = tt
tells_none (Some l) n = tt

tells_then : (a b c : Option (List Event)) (l m n : ℕ) → l ≤ m → m ≤ n → TellsOn a b l m → TellsOn b c m n → TellsOn a c l n
tells_then (Some a) None None l m n le me p q = omega arith
tells_then (Some a) (Some b) None l m n le me p q = omega arith
tells_then (Some a) (Some b) (Some c) l m n le me p q = tt
tells_then (Some a) None (Some c) l m n le me p q = absurd q
tells_then None None None l m n le me p q = tt
tells_then None None (Some c) l m n le me p q = absurd q
tells_then None (Some b) c l m n le me p q = absurd p

-- no call at all
pub goes_same : (d : Disk) → GoesOn d d
goes_same d = record {
  anchors = refl;
  faults = omega arith;
  later = no_later d.moment;
  kept = λ t c le left. left;
  told = λ t. t;
  leaves = ((λ l. l), (λ l. l));
  seen = tells_none d.seen d.faults;
}

-- one call after another
pub goes_then : (a b c : Disk) → GoesOn a b → GoesOn b c → GoesOn a c
goes_then a b c p q = record {
  anchors = q.anchors ∙ p.anchors;
  faults = omega arith;
  later = then_later a.moment b.moment c.moment p.later q.later;
  kept = λ t i le left. q.kept t i (then_later t a.moment b.moment le p.later) (p.kept t i le left);
  told = λ t. p.told (q.told t);
  leaves = ((λ l. q.leaves.0 (p.leaves.0 l)), (λ l. p.leaves.1 (q.leaves.1 l)));
  seen = tells_then a.seen b.seen c.seen a.faults b.faults c.faults p.faults q.faults p.seen q.seen;
}

-- a count that rose later rose since
pub rose_later : (l m n : ℕ) → l ≤ m → Rose m n → Rose l n
rose_later l m n le rose = omega arith

-- a call behind others that went well
pub serves_then : {T E : Type 0} (blames : E → Type 0) (a b c : Disk) (result : Result T E) → GoesOn a b → b.out ≤ a.out → (a.tells → b.tells) → Serves blames b c result → Serves blames a c result
serves_then blames a b c (Ok v) p out tells q = record { goes = goes_then a b c p q.goes; out = omega arith; tells = λ t. q.tells (tells t); cause = tt }
serves_then blames a b c (Err e) p out tells q = record { goes = goes_then a b c p q.goes; out = omega arith; tells = tt; cause = λ blamed. rose_later a.faults b.faults c.faults p.faults (q.cause blamed) }

-- the first of two calls, with a refusal told on
pub serves_err : {T U E F : Type 0} (blames : E → Type 0) (told : F → Type 0) (a b : Disk) (e : E) (f : F) → (told f → blames e) → Serves {T = T} blames a b (Err e) → Serves {T = U} told a b (Err f)
serves_err blames told a b e f so p = record { goes = p.goes; out = p.out; tells = tt; cause = λ t. p.cause (so t) }

-- calls that went well, and nothing behind them
pub serves_ok : {T E : Type 0} (blames : E → Type 0) (a b : Disk) (v : T) → GoesOn a b → b.out ≤ a.out → (a.tells → b.tells) → Serves blames a b (Ok v)
serves_ok blames a b v p out tells = record { goes = p; out = out; tells = tells; cause = tt }

-- what follows from a clause on one answer
pub on_ok : {T E : Type 0} (P Q : Type 0) (r : Result T E) → (P → Q) → OnOk r P → OnOk r Q
on_ok P Q (Ok v) f h = f h
on_ok P Q (Err e) f h = tt

pub on_err : {T E : Type 0} (P Q : Type 0) (r : Result T E) → (P → Q) → OnErr r P → OnErr r Q
on_err P Q (Ok v) f h = tt
on_err P Q (Err e) f h = f h

pub if_err : {T E : Type 0} (Q : Type 0) (r : Result T E) → Q → OnErr r Q
if_err Q (Ok v) q = tt
if_err Q (Err e) q = q

pub if_ok : {T E : Type 0} (Q : Type 0) (r : Result T E) → Q → OnOk r Q
if_ok Q (Ok v) q = q
if_ok Q (Err e) q = tt
