use Rattle.std.proofs.Common.{◌≡◌, ◌≤◌, ◌++◌, min, map, length}
use Rattle.std.specs.Prelude.{vec_capacity}
use Rattle.std.specs.Vec.Iter.{into_iter_items, into_iter_len}
use Rattle.ob_serial.specs.Views.{txn_of}
use Rattle.ob_desk.specs.Desk as desks
use Rattle.ob_desk.proofs.part.tell_all.Given as goal

-- the transactions so far are told, and there is room for the others
abbrev pub invariant-loop-work : goal.invariant-loop-work
invariant-loop-work l = (l.yielded ++ into_iter_items l.work-iterator ≡ into_iter_items l.initial.work-iterator)
    × (into_iter_len l.work-iterator ≡ length (into_iter_items l.work-iterator))
    × (map (λ t. txn_of t) l.told.items ≡ desks.txns_from l.epoch 1 l.yielded l.holders)
    × (length l.told.items ≡ min (length l.yielded) (length l.holders))
    × (length l.holders ≤ vec_capacity l.told)
