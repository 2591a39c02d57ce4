use Rattle.std.proofs.Common.{true, Bool, Ok, Err, subst}
use Rattle.ob_store.specs.Told.{TellsFirst}
use Rattle.ob_store.proofs.Doing.{does_err}
use Rattle.ob_twin.specs.Keyed.{tagging}
use Rattle.ob_twin.specs.Register.{first_of, place_of}
use Rattle.ob_twin.specs.Opening.{GatesAre, known_of, is_closed_first}
use Rattle.ob_twin.specs.declared.gates.Open.{Open}
use Rattle.ob_twin.specs.Orders.{set_notes}
use Rattle.ob_twin.proofs.Clear.{set_clear}
use Rattle.ob_twin.proofs.Sets.{set_does}
use Rattle.ob_start.proofs.Clearing.{alone_known, first_put, closes_first}
use Rattle.ob_start.proofs.laying.set_first.Goals as goal

pub returns-in-Ok-clause-stands : goal.returns-in-Ok-clause-stands
returns-in-Ok-clause-stands g c = λ tells.
    first_put (tagging c.args.sealer.now.keys) (first_of c.args.twin) c.args.n (g.S.Store.disk c.args.store.now).cells (g.S.Store.disk c.set.new.store).cells c.requires.small (c.requires.closed tells) (c.in-Ok.ensures.done tells)

pub returns-in-Err-clause-does : goal.returns-in-Err-clause-does
returns-in-Err-clause-does g c =
    let first = first_of c.args.twin in
    let closes = is_closed_first (known_of c.args.twin c.new.result) (place_of c.args.n) in
    does_err _ _ _ _ (set_notes true first c.args.n) _
    (subst (λ (b : Bool). TellsFirst (set_notes b first c.args.n) (g.S.Store.disk c.args.store.now).seen (g.S.Store.disk c.set.new.store).seen (g.W.Watch.trace c.args.watch.now) (g.W.Watch.trace c.set.new.watch))
    (closes_first c.args.twin c.new.result (place_of c.args.n) c.new.ensures.generation c.new.ensures.epoch)
    (set_does closes first c.args.n _ _ _ _ (Err c.in-Err.field-0) c.in-Err.ensures.does).first)

pub returns-in-Ok-clause-clear : goal.returns-in-Ok-clause-clear
returns-in-Ok-clause-clear g c = λ tells.
    let new = g.S.Store.disk c.set.new.store in
    set_clear (tagging c.args.sealer.now.keys) c.args.twin c.args.n (is_closed_first (known_of c.args.twin c.new.result) (place_of c.args.n)) new.seen (g.S.Store.disk c.args.store.now).cells new.cells
    c.requires.small (Ok tt) (c.in-Ok.ensures.done (c.set.ensures.serves.goes.told tells)) tt

pub returns-in-Err-clause-clear : goal.returns-in-Err-clause-clear
returns-in-Err-clause-clear g c = λ tells.
    let new = g.S.Store.disk c.set.new.store in
    set_clear (tagging c.args.sealer.now.keys) c.args.twin c.args.n (is_closed_first (known_of c.args.twin c.new.result) (place_of c.args.n)) new.seen (g.S.Store.disk c.args.store.now).cells new.cells
    c.requires.small (Err c.in-Err.field-0) tt (c.in-Err.ensures.refused tells)

pub returns-in-Ok-clause-gates : goal.returns-in-Ok-clause-gates
returns-in-Ok-clause-gates g c = λ tells.
    subst (λ (o : Open). GatesAre o (first_of c.args.twin) (g.S.Store.disk c.set.new.store).cells)
    (alone_known c.args.twin c.new.result c.set.new.gates c.args.n c.new.ensures.generation c.new.ensures.epoch c.in-Ok.ensures.gates) (c.in-Ok.ensures.tell tells)
