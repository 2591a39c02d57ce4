use Rattle.ob_mirror.proofs.Alone.{each_stands}
use Rattle.ob_mirrored.proofs.OfHalves.{half_keeps, is_first, is_second}
use Rattle.ob_mirrored.proofs.halves.headlines_are_of_halves.Goals as goal

pub returns-clause-first : goal.returns-clause-first
returns-clause-first g c =
    let one = g.A.Store.disk in
    let two = g.B.Store.disk in
    half_keeps _ _ (is_first _ (λ m. one m.halves.first.now) (λ m. two m.halves.second.now) (λ x y.
    each_stands x.halves.first.ghost_name x.halves.second.ghost_name y.halves.first.ghost_name y.halves.second.ghost_name x.halves.apart (one x.halves.first_then.value) (two x.halves.second_then.value) y.halves.apart (one y.halves.first_then.value) (two y.halves.second_then.value) x.halves.made.events y.halves.made.events x.halves.failed y.halves.failed
    (one x.halves.first.now) (one y.halves.first.now) (two x.halves.second.now) (two y.halves.second.now) y.halves.agree))

pub returns-clause-second : goal.returns-clause-second
returns-clause-second g c =
    let one = g.A.Store.disk in
    let two = g.B.Store.disk in
    half_keeps _ _ (is_second _ (λ m. one m.halves.first.now) (λ m. two m.halves.second.now) (λ x y.
    each_stands x.halves.first.ghost_name x.halves.second.ghost_name y.halves.first.ghost_name y.halves.second.ghost_name x.halves.apart (one x.halves.first_then.value) (two x.halves.second_then.value) y.halves.apart (one y.halves.first_then.value) (two y.halves.second_then.value) x.halves.made.events y.halves.made.events x.halves.failed y.halves.failed
    (one x.halves.first.now) (one y.halves.first.now) (two x.halves.second.now) (two y.halves.second.now) y.halves.agree))
