use Rattle.ob_turn.proofs.BellSteps.{ends}
use Rattle.ob_turn.proofs.bell.Bell.close_with.Goals as goal

pub returns : goal.returns
returns c =
    let e = ends _ _ _ _ _ _ _ c.close_with-closed.ensures.values.2 c.requires.all c.word-last.ensures in record {
      whole = record { raises = e.0; joined = e.1; last = e.2 };
    }
