-- The moments of a store in memory.
use Rattle.std.specs.Prelude.{List, length}
use Rattle.std.proofs.Common.{subst, sym, arith, inr, refl}
use Rattle.std.proofs.lemmas.List.{take_all}
use Rattle.ob_store.specs.Disk.{Clock, NotAfter, Image}
use Rattle.ob_mem.specs.declared.call.Call.{Call}
use Rattle.ob_mem.specs.Replay.{Past, replay, sure, now_of, cell_of, MayLeave, LeftSince}

pub counts_now : (past : Past) (t : Clock) (c : Image) → NotAfter t (λ part. length past.calls) → MayLeave (now_of past) c → LeftSince past t c
counts_now past t c le left =
    (length past.calls, le 0, omega arith, subst (λ (l : List Call). MayLeave (replay l (sure past.first)) c) (sym (take_all (length past.calls) past.calls (omega arith))) left)

pub only_now : (past : Past) (c : Image) → LeftSince past (λ part. length past.calls) c → MayLeave (now_of past) c
only_now past c left = subst (λ (l : List Call). MayLeave (replay l (sure past.first)) c) (take_all left.0 past.calls left.1) left.3

pub includes_reads : (past : Past) → MayLeave (now_of past) (cell_of (now_of past).cells)
includes_reads past k = inr refl
