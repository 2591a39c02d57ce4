use Rattle.ob_twin.proofs.Gating.{none_told}
use Rattle.ob_seal_tests.proofs.registers.the_order_is_shown.Goals as goal

pub set-set-requires-clause-told : goal.set-set-requires-clause-told
set-set-requires-clause-told g c = λ tells. none_told _ _ _ c.new-gates.ensures.generation c.new_store-store.ensures.blank
