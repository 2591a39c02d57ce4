-- Where a client of the tests stands behind its calls.
use Rattle.std.proofs.Common.{◌≡◌, ℕ, Bool, true, false, Result, Ok, Err, subst}
use Rattle.ob_base.specs.declared.fault.Fault.{Fault}
use Rattle.ob_serial.specs.declared.records.Why.{Why}
use Rattle.ob_desk.specs.declared.calls.Begun.{Begun as CodeBegun}
use Rattle.ob_desk.specs.declared.calls.Begun.TheVariants as begun
use Rattle.ob_desk.specs.declared.calls.Txn.{Txn}
use Rattle.ob_hall.specs.Passes.{Pass}
use Rattle.ob_hall.specs.Testing.{IsInTxn, IsInTxnOrNot}
use Rattle.ob_hall.specs.Calling.{IsBetween, IsIn}
use Rattle.ob_calls.specs.declared.calls.Refused.{Refused}
use Rattle.ob_calls.specs.declared.calls.Refused.TheVariants as refused
use Rattle.ob_calls.specs.Saying.{BeginStands, StaysIn}

pub stays_inside : {A : Type 0} (result : Result A Refused) (before after : Pass) → ((x : Txn) → IsIn before x → StaysIn result before after x) → IsInTxn before → IsInTxn after
stays_inside result before after stands (x, i, here) = (x, (stands x i).0, (stands x i).1 here)

pub its_txn : (pass : Pass) → IsInTxn pass → (x : Txn) × IsIn pass x
its_txn pass (x, i, here) = (x, i)

pub begun_inside : (pass : Pass) (reply : CodeBegun) (x : Txn) → reply ≡ begun.Txn x → BeginStands (Ok reply) pass → IsInTxn pass
begun_inside pass reply x is stands = let s : BeginStands (Ok (begun.Txn x)) pass = subst (λ (r : CodeBegun). BeginStands (Ok r) pass) is stands in (x, s.0, s.1)

pub refused_between : (pass : Pass) (reply : CodeBegun) (f : Fault) → reply ≡ begun.Stopped f → BeginStands (Ok reply) pass → IsBetween pass
refused_between pass reply f is stands = subst (λ (r : CodeBegun). BeginStands (Ok r) pass) is stands

pub is_inside : (b : Bool) (pass : Pass) → b ≡ true → IsInTxnOrNot b pass → IsInTxn pass
is_inside b pass is stands = subst (λ (c : Bool). IsInTxnOrNot c pass) is stands

pub is_between : (b : Bool) (pass : Pass) → b ≡ false → IsInTxnOrNot b pass → IsBetween pass
is_between b pass is stands = subst (λ (c : Bool). IsInTxnOrNot c pass) is stands

pub is_over : (A : Type 0) (f : Refused) (why : Why ℕ) (before after : Pass) → f ≡ refused.Aborted why → ((x : Txn) → IsIn before x → StaysIn {A = A} (Err f) before after x) → IsInTxn before → IsBetween after
is_over A f why before after is stands (x, i, here) =
    let s : StaysIn {A = A} (Err (refused.Aborted why)) before after x = subst (λ (r : Refused). StaysIn {A = A} (Err r) before after x) is (stands x i) in s.2 here
