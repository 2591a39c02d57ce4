use Rattle.ob_twin.proofs.Gating.{none_told}
use Rattle.ob_seal_tests.proofs.registers.refused_at.Goals as goal

pub loop-number-init : goal.loop-number-init
loop-number-init c = (c.requires.none_out, λ tells. none_told _ _ _ c.new-gates.ensures.epoch c.requires.blank)
