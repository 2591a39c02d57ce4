use Rattle.ob_turn.proofs.BellSteps.{opens}
use Rattle.ob_turn.proofs.bell.Bell.new.Goals as goal

pub of_words-requires : goal.of_words-requires
of_words-requires c = opens _ _ c.requires
