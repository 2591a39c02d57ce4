use Rattle.std.proofs.Common.{ℕ, subst, sym, ap}
use Rattle.std.specs.Prelude.{◌<◌, Option, IfSome}
use Rattle.ob_ring.specs.Settling.{Rows}
use Rattle.ob_ring.proofs.Stashes.{AreLow, room_left, low_insert}
use Rattle.ob_ring.proofs.settle.settle_job.Goals as goal

pub put-requires : goal.put-requires
put-requires c = room_left c.args.p.now.keys c.args.stash.now.room c.args.stash.now.rows c.in-Some.key c.requires.room
    (subst (λ (o : Option ℕ). IfSome o (λ k. k < c.args.p.now.keys)) c.in-Some.is c.requires.key) c.requires.low

pub returns-in_ok-value-clause-low : goal.returns-in_ok-value-clause-low
returns-in_ok-value-clause-low c =
    subst (λ (m : Rows). AreLow c.args.p.now.keys m) (ap (λ h. h.rows) (sym c.put.ensures))
    (low_insert c.args.p.now.keys c.args.stash.now.rows c.in-Some.key c.in_ok-value.value (subst (λ (o : Option ℕ). IfSome o (λ k. k < c.args.p.now.keys)) c.in-Some.is c.requires.key) c.requires.low)
