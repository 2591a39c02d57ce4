use Rattle.std.proofs.Common.{◌+◌, [], ◌∷◌}
use Rattle.ob_store.specs.declared.watch.Note.TheVariants.{Read}
use Rattle.ob_store.proofs.Doing.{tells_then, first_all, first_more, does_err, does_both, does_then}
use Rattle.ob_twin.specs.Orders.{get_notes}
use Rattle.ob_store.proofs.Keeping.{cause_then}
use Rattle.ob_twin.proofs.getting.read_cells.Goals as goal

pub returns-in-Err-clause-does : goal.returns-in-Err-clause-does
returns-in-Err-clause-does g c =
    let f = c.args.first in
    does_err _ _ _ _ (get_notes f) _
    (first_more _ _ _ _ (Read f ∷ []) (Read (f + 1) ∷ Read (f + 2) ∷ Read (f + 3) ∷ []) (first_all _ _ _ _ (Read f ∷ []) c.read_noted.ensures.told))

pub returns-in-Err-read_noted-clause-does : goal.returns-in-Err-read_noted-clause-does
returns-in-Err-read_noted-clause-does g c =
    let f = c.args.first in
    does_err _ _ _ _ (get_notes f) _
    (first_more _ _ _ _ (Read f ∷ Read (f + 1) ∷ []) (Read (f + 2) ∷ Read (f + 3) ∷ [])
    (first_all _ _ _ _ (Read f ∷ Read (f + 1) ∷ [])
    (tells_then (Read f ∷ []) (Read f ∷ []) (Read (f + 1) ∷ []) (Read (f + 1) ∷ []) _ _ _ _ _ _ c.read_noted.ensures.told c.read_noted-2.ensures.told)))

pub returns-in-Err-read_noted-2-clause-does : goal.returns-in-Err-read_noted-2-clause-does
returns-in-Err-read_noted-2-clause-does g c =
    let f = c.args.first in
    let two = Read f ∷ Read (f + 1) ∷ [] in
    does_err _ _ _ _ (get_notes f) _
    (first_more _ _ _ _ (Read f ∷ Read (f + 1) ∷ Read (f + 2) ∷ []) (Read (f + 3) ∷ [])
    (first_all _ _ _ _ (Read f ∷ Read (f + 1) ∷ Read (f + 2) ∷ [])
    (tells_then two two (Read (f + 2) ∷ []) (Read (f + 2) ∷ []) _ _ _ _ _ _
    (tells_then (Read f ∷ []) (Read f ∷ []) (Read (f + 1) ∷ []) (Read (f + 1) ∷ []) _ _ _ _ _ _ c.read_noted.ensures.told c.read_noted-2.ensures.told)
    c.read_noted-3.ensures.told)))

pub returns-clause-does : goal.returns-clause-does
returns-clause-does g c =
    let f = c.args.first in
    let two = Read f ∷ Read (f + 1) ∷ [] in
    does_then _ _ _ _ _ _ (Read f ∷ Read (f + 1) ∷ Read (f + 2) ∷ []) (Read (f + 3) ∷ []) c.read_noted-4.result
    (tells_then two two (Read (f + 2) ∷ []) (Read (f + 2) ∷ []) _ _ _ _ _ _
    (tells_then (Read f ∷ []) (Read f ∷ []) (Read (f + 1) ∷ []) (Read (f + 1) ∷ []) _ _ _ _ _ _ c.read_noted.ensures.told c.read_noted-2.ensures.told)
    c.read_noted-3.ensures.told)
    (does_both _ _ _ _ (Read (f + 3) ∷ []) c.read_noted-4.result c.read_noted-4.ensures.told)

pub returns-in-Err-read_noted-clause-cause : goal.returns-in-Err-read_noted-clause-cause
returns-in-Err-read_noted-clause-cause g c = cause_then _ (g.S.Store.lane_faults c.read_noted.new.lane) _ _ c.read_noted.ensures.cause.later c.in-Err-read_noted.ensures.cause

pub returns-in-Err-read_noted-2-clause-cause : goal.returns-in-Err-read_noted-2-clause-cause
returns-in-Err-read_noted-2-clause-cause g c =
    cause_then _ (g.S.Store.lane_faults c.read_noted.new.lane) _ _ c.read_noted.ensures.cause.later
    (cause_then _ (g.S.Store.lane_faults c.read_noted-2.new.lane) _ _ c.read_noted-2.ensures.cause.later c.in-Err-read_noted-2.ensures.cause)
