-- What is told of a refusal before anything is run over both.
use Rattle.std.proofs.Common.{◌≡◌, ◌≤◌, ℕ, ◌∷◌, [], ◌++◌, List, Option, None, Some, Result, Ok, Err, true, refl, sym, ◌∙◌, subst, arith}
use Rattle.std.specs.Borrow.{Bor}
use Rattle.ob_base.specs.Causes.{Rose}
use Rattle.ob_base.specs.declared.fault.Failed.{Failed}
use Rattle.ob_base.specs.declared.fault.Fault.{Fault}
use Rattle.ob_base.specs.declared.fault.Fault.TheVariants.{Memory, SinkFault, StoreFault}
use Rattle.ob_base.specs.declared.params.Params.{Params}
use Rattle.ob_conduct.specs.declared.run_err.RunErr.{RunErr}
use Rattle.ob_conduct.specs.declared.run_err.RunErr.TheVariants as failed
use Rattle.ob_io.specs.Streams.{Flow}
use Rattle.ob_mirror.specs.Joins.{IsOnlyRead}
use Rattle.ob_seal.specs.declared.keys.Keys.{Keys}
use Rattle.ob_store.specs.Calls.{GoesOn, Keeps}
use Rattle.ob_store.specs.Disk.{Disk}
use Rattle.ob_store.specs.Images.{Passes, Same}
use Rattle.ob_store.specs.Lines.{Trace}
use Rattle.ob_store.proofs.Keeping.{keeps_then, same_then}
use Rattle.ob_store.proofs.Serving.{goes_then}
use Rattle.ob_vault.specs.RingKind.{ring_kind}
use Rattle.ob_words.specs.Work.{IsKeysRefused}
use Rattle.ob_top.specs.Begun.{HasReadHead}
use Rattle.ob_top.specs.Outside.{IsCommandFinished, IsFinished, IsOnlyTold, IsWatched, outside}

-- one read behind another
pub only_then : (a b c : Disk) → IsOnlyRead a b → IsOnlyRead b c → IsOnlyRead a c
only_then a b c one two = record {
  goes = goes_then a b c one.goes two.goes;
  keeps = keeps_then a b c one.keeps two.keeps;
  passes = same_then a b c one.passes two.passes;
  out = (let first = one.out in let second = two.out in omega arith);
}

-- the head's read is one
pub only_head : (keys : Keys) (p : Params) (a b : Disk) (t u : Trace) → HasReadHead keys p a b t u → b.out ≤ a.out → IsOnlyRead a b
only_head keys p a b t u head out = record { goes = head.goes; keeps = head.keeps; passes = head.passes; out = out }

-- the head is there still
pub head_behind : (keys : Keys) (p : Params) (a b c : Disk) (t u : Trace) → HasReadHead keys p a b t u → IsOnlyRead b c → c.tells → ring_kind.is_head keys p (c.cells 0)
head_behind keys p a b c t u head read tells =
    let mid = read.goes.told tells in
    let before = head.goes.told mid in
    subst (λ (bytes : List ℕ). ring_kind.is_head keys p bytes) (sym (read.keeps.cells mid 0 ∙ head.keeps.cells before 0)) (head.head before)

-- the watch was found broken
pub broke_joining : (u : Trace) (err : RunErr) → IsWatched u (Some err) → (err ≡ failed.Unwatched) × (u.broken ≡ true)
broke_joining u (failed.Fault fault) is = absurd is
broke_joining u failed.Unwatched is = (refl, is)

-- a broken watch is told as the output's fault
pub told_unwatched : (input before after : Flow) (status : ℕ) → IsCommandFinished before after (Some failed.Unwatched) status → IsOnlyTold SinkFault (outside input before) (outside input after) status
told_unwatched input before after status done = record { status_is = done.status_is; untouched = refl; printed = done.line }

-- what is wrong with the keys is told by its line
pub told_keys : (text : Option (Bor (List ℕ))) (fault : Fault) (input before after : Flow) (status : ℕ) → IsKeysRefused text fault → IsFinished before after (Some fault) status → IsOnlyTold fault (outside input before) (outside input after) status
told_keys None fault input before after status is done = subst (λ (f : Fault). IsOnlyTold f (outside input before) (outside input after) status) (sym is) (let by = subst (λ (f : Fault). IsFinished before after (Some f) status) is done in record { status_is = by.status_is; untouched = refl; printed = by.line })
told_keys (Some bytes) fault input before after status is done = subst (λ (f : Fault). IsOnlyTold f (outside input before) (outside input after) status) (sym is.0) (let by = subst (λ (f : Fault). IsFinished before after (Some f) status) is.0 done in record { status_is = by.status_is; untouched = refl; printed = by.line })

-- so is memory, and the store
pub told_memory : (input before after : Flow) (status : ℕ) → IsFinished before after (Some Memory) status → IsOnlyTold Memory (outside input before) (outside input after) status
told_memory input before after status done = record { status_is = done.status_is; untouched = refl; printed = done.line }

pub told_store : (input before after : Flow) (status : ℕ) → IsFinished before after (Some (StoreFault None)) status → IsOnlyTold (StoreFault None) (outside input before) (outside input after) status
told_store input before after status done = record { status_is = done.status_is; untouched = refl; printed = done.line }

pub told_none : (input before after : Flow) (status : ℕ) (fault : Fault) → fault ≡ StoreFault None → IsFinished before after (Some fault) status → IsOnlyTold (StoreFault None) (outside input before) (outside input after) status
told_none input before after status fault is done = told_store input before after status (subst (λ (f : Fault). IsFinished before after (Some f) status) is done)
