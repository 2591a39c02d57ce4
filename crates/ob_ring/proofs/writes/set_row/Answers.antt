use Rattle.std.proofs.Common.{subst, sym, ap}
use Rattle.ob_ring.specs.Settling.{Rows}
use Rattle.ob_ring.proofs.Stashes.{AreLow, room_left, low_insert, low_remove}
use Rattle.ob_ring.proofs.writes.set_row.Goals as goal

pub put-requires : goal.put-requires
put-requires c = room_left c.args.p.now.keys c.args.stash.now.room c.args.stash.now.rows c.args.key c.requires.room c.requires.key c.requires.low

pub returns-in-Some-clause-low : goal.returns-in-Some-clause-low
returns-in-Some-clause-low c = subst (λ (m : Rows). AreLow c.args.p.now.keys m) (ap (λ h. h.rows) (sym c.put.ensures)) (low_insert c.args.p.now.keys c.args.stash.now.rows c.args.key c.in-Some.value c.requires.key c.requires.low)

pub returns-in-None-clause-low : goal.returns-in-None-clause-low
returns-in-None-clause-low c = subst (λ (m : Rows). AreLow c.args.p.now.keys m) (ap (λ h. h.rows) (sym c.take.ensures.rest)) (low_remove c.args.p.now.keys c.args.stash.now.rows c.args.key c.requires.low)
