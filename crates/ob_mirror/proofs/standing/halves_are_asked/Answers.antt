use Rattle.ob_mirror.proofs.Once.{follows_of_one}
use Rattle.ob_mirror.proofs.standing.halves_are_asked.Goals as goal

pub returns : goal.returns
returns g c = λ same.
    let was = c.args.old.now.halves in
    let is = c.args.new.now.halves in
    let one = g.A.Store.disk in
    let two = g.B.Store.disk in
    follows_of_one is.made.events is.first.ghost_name is.second.ghost_name was.first.ghost_name was.second.ghost_name (one is.first_then.value) (one was.first_then.value) (one is.first.now) (two is.second_then.value) (two was.second_then.value) (two is.second.now) _ _ same is.follows
