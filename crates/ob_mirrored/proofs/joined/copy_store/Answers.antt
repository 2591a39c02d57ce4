use Rattle.std.proofs.Common.{[], ◌∷◌, ◌++◌, OnOk, inl, refl, subst, ℕ, arith}
use Rattle.ob_base.specs.Layout.{ring_cells}
use Rattle.ob_mirror.specs.Joins.{IsCopy, NotesAsFar, cell_writes, reads_from}
use Rattle.ob_store.specs.Images.{Passes, SameOff}
use Rattle.ob_store.specs.Told.{Does}
use Rattle.ob_store.specs.declared.event.Event.TheVariants.{Sync}
use Rattle.ob_store.proofs.Doing.{does_on, does_then}
use Rattle.ob_store.proofs.Moments.{passed_none}
use Rattle.ob_store.proofs.Serving.{goes_same}
use Rattle.ob_mirrored.proofs.Copied.{cause_later, none_copied}
use Rattle.ob_mirrored.proofs.Telling.{only_then}
use Rattle.ob_mirrored.proofs.joined.copy_store.Goals as goal

-- ---- the register was not read

pub returns-in-Err-clause-first : goal.returns-in-Err-clause-first
returns-in-Err-clause-first g c = c.in-Err.ensures.first

pub returns-in-Err-clause-does : goal.returns-in-Err-clause-does
returns-in-Err-clause-does g c = does_on _ _ _ _ (reads_from 5 4) (reads_from 0 (ring_cells c.args.params.now)) _ _ c.in-Err.ensures.does

pub returns-in-Err-clause-second : goal.returns-in-Err-clause-second
returns-in-Err-clause-second g c = goes_same _

pub returns-in-Err-clause-second_seen : goal.returns-in-Err-clause-second_seen
returns-in-Err-clause-second_seen g c = none_copied _ _

pub returns-in-Err-clause-second_out : goal.returns-in-Err-clause-second_out
returns-in-Err-clause-second_out g c = omega arith

pub returns-in-Err-clause-second_passes : goal.returns-in-Err-clause-second_passes
returns-in-Err-clause-second_passes g c = passed_none _ (SameOff 0 (ring_cells c.args.params.now)) (λ image k off. refl)

pub returns-in-Err-clause-cause : goal.returns-in-Err-clause-cause
returns-in-Err-clause-cause g c = inl c.in-Err.ensures.cause

-- ---- both were joined, or refused it

pub returns-clause-first : goal.returns-clause-first
returns-clause-first g c = only_then (g.A.Store.disk c.args.first.now) (g.A.Store.disk c.read_cells.new.first) (g.A.Store.disk c.join.new.first) c.in-Ok.ensures.first c.join.ensures.first

pub returns-clause-does : goal.returns-clause-does
returns-clause-does g c =
    let so_far = c.in-Ok.ensures.does in
    does_then (g.A.Store.disk c.args.first.now).seen (g.A.Store.disk c.read_cells.new.first).seen (g.A.Store.disk c.join.new.first).seen _ _ _ (reads_from 5 4) (reads_from 0 (ring_cells c.args.params.now)) c.join.result so_far.all
    (subst (λ (n : ℕ). Does (reads_from 0 n) (g.A.Store.disk c.read_cells.new.first).seen (g.A.Store.disk c.join.new.first).seen (g.W.Watch.trace c.read_cells.new.watch) (g.W.Watch.trace c.join.new.watch) c.join.result) c.ring_cells.ensures.cells c.join.ensures.first_does)

pub returns-clause-second : goal.returns-clause-second
returns-clause-second g c = c.join.ensures.second

pub returns-clause-second_seen : goal.returns-clause-second_seen
returns-clause-second_seen g c = subst (λ (n : ℕ). NotesAsFar (cell_writes n ++ Sync ∷ []) (g.B.Store.disk c.args.second.now).seen (g.B.Store.disk c.join.new.second).seen c.join.result) c.ring_cells.ensures.cells c.join.ensures.second_seen

pub returns-clause-second_out : goal.returns-clause-second_out
returns-clause-second_out g c = c.join.ensures.second_out

pub returns-clause-second_tells : goal.returns-clause-second_tells
returns-clause-second_tells g c = c.join.ensures.second_tells

pub returns-clause-second_passes : goal.returns-clause-second_passes
returns-clause-second_passes g c = subst (λ (n : ℕ). Passes (SameOff 0 n) (g.B.Store.disk c.args.second.now) (g.B.Store.disk c.join.new.second)) c.ring_cells.ensures.cells c.join.ensures.second_passes

pub returns-clause-copied : goal.returns-clause-copied
returns-clause-copied g c = subst (λ (n : ℕ). OnOk c.join.result (IsCopy n (g.A.Store.disk c.join.new.first) (g.B.Store.disk c.join.new.second))) c.ring_cells.ensures.cells c.join.ensures.copied

pub returns-clause-cause : goal.returns-clause-cause
returns-clause-cause g c = cause_later _ _ _ _ c.join.result c.in-Ok.ensures.first.goes.faults c.join.ensures.cause
