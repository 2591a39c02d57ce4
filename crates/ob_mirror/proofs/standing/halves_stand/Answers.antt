use Rattle.ob_mirror.proofs.Alone.{each_stands}
use Rattle.ob_mirror.proofs.standing.halves_stand.Goals as goal

pub returns : goal.returns
returns g c =
    let was = c.args.old.now.halves in
    let is = c.args.new.now.halves in
    let one = g.A.Store.disk in
    let two = g.B.Store.disk in
    each_stands was.first.ghost_name was.second.ghost_name is.first.ghost_name is.second.ghost_name was.apart (one was.first_then.value) (two was.second_then.value) is.apart (one is.first_then.value) (two is.second_then.value) was.made.events is.made.events was.failed is.failed (one was.first.now) (one is.first.now) (two was.second.now) (two is.second.now) is.agree
